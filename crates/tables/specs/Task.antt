-- The task that the lent tables spell, and the state that a lent list spells.
use Rattle.std.specs.Prelude.{List, ℕ, get_or}
use Rattle.std.specs.Borrow.{Bor}
use denote.Triple.Both.{Both}
use Rattle.meaning.specs.Sas.{State, Sas}
use Rattle.meaning.specs.Split.{Task}
use Rattle.tables.specs.declared.Counts.{Counts}
use Rattle.tables.specs.declared.LentTables.{LentTables}
use Rattle.tables.specs.Layout.{Tables, dom_at, init_at, goal_at, pre_at, eff_at, class_at, cost_at, share_at, quota_of, mark_of}

abbrev pub sas_of : Tables → Sas
sas_of t =
    record {
      vars = t.counts.vars;
      dom = dom_at t.facts;
      init = init_at t.facts;
      goal = goal_at t.facts;
      ops = t.counts.ops;
      cost = cost_at t.costs;
      pre = pre_at t.facts;
      eff = eff_at t.facts;
    }

abbrev pub task_of : Tables → Task
task_of t =
    record {
      sas = sas_of t;
      maps = t.counts.maps;
      class = class_at t.facts;
      share = share_at t.shares;
      edition = t.counts.edition;
      quota = quota_of t.counts;
      mark = mark_of t.counts t.facts;
    }

abbrev pub tables : Counts → List ℕ → List ℕ → List ℕ → Tables
tables c facts costs shares = record { counts = c; facts = facts; costs = costs; shares = shares }

-- a lent slice in a contract: what stands in it. What is left in one that may be written is `s.new`, and what stood in it `s.old`
abbrev pub was : {A : Type 0} → Both (Bor A) (Bor A) → A
was s = s.entry.now

abbrev pub Slice : Type 0
Slice = Both (Bor (List ℕ)) (Bor (List ℕ))

-- what stands in lent tables
abbrev pub held : LentTables → Tables
held t = tables t.counts t.facts.now t.costs.now t.shares.now

-- the tables that are lent, in a contract
abbrev pub lent : Both LentTables LentTables → Tables
lent t = held t.entry

-- a value for each variable, from place 0 on
abbrev pub state_of : List ℕ → State
state_of s = λ v. get_or s v 0
