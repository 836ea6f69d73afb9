-- One step among numbered states, from facts in the lent tables' layout: what the functions below the entries ask and give.
-- The facts may be those of a task or of the task of its classes, whose values are classes.
use Rattle.std.specs.Prelude.{◌≡◌, List, [], ℕ, ◌≤◌, ◌<◌, Option, None, Some}
use Rattle.graph.specs.Graph.{Next, stop, to, Graph}
use Rattle.meaning.specs.declared.StateNo.{StateNo}
use Rattle.meaning.specs.Limits.{most_vars, most_ops, most_states}
use Rattle.meaning.specs.Numbering.{size, number, digit}
use Rattle.meaning.specs.Views.{to_if, space}
use Rattle.tables.specs.declared.Counts.{Counts}
use Rattle.tables.specs.Layout.{dom_at, eff_at, eff_row}
use Rattle.tables.specs.Task.{sas_of, tables, state_of}
use Rattle.tables.specs.Steps.{may_run, value_after}

-- the numbered state space of the task that the facts spell, each operator at its price
abbrev pub space_of : Counts → List ℕ → List ℕ → Graph
space_of c facts prices = space (sas_of (tables c facts prices []))

-- every variable has a value, every effect names one, and the states are few
pub record Walkable (c : Counts) (facts : List ℕ) : Type 0 where
  pub vars : c.vars ≤ most_vars
  pub ops : c.ops ≤ most_ops
  pub values : (v : ℕ) → v < c.vars → 1 ≤ dom_at facts v
  pub effects : (o v : ℕ) → o < c.ops → v < c.vars → eff_at facts o v ≤ dom_at facts v
  pub few : size (dom_at facts) c.vars ≤ most_states

-- the list has the digits of the state a
abbrev pub HasDigits : ℕ → List ℕ → ℕ → List ℕ → Type 0
HasDigits vars facts a s = (v : ℕ) → v < vars → state_of s v ≡ digit (dom_at facts) a v

-- what a step says
abbrev pub next_of : Option StateNo → Next
next_of (Some b) = to b.0
next_of None = stop

-- the number of the state that a row of effects makes of the values s
abbrev pub number_after : ℕ → List ℕ → ℕ → List ℕ → ℕ
number_after vars facts row s = number (dom_at facts) (value_after facts row s) vars

-- the step of operator o from the values s
unfoldable pub next_from : Counts → List ℕ → List ℕ → ℕ → Next
next_from c facts s o = to_if (may_run c facts s o) (number_after c.vars facts (eff_row o) s)
