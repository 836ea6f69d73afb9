-- IN EDITION 1 QUOTA AND MARKS AREN'T READ: tables that differ in nothing else are read alike, whatever their counts; and where they are accepted, they agree at
-- all of the task's own places. The marks stand behind all other places that are read within the limits. Assumes nothing.
use Prim.Native.Nat.{ℕ, ◌<◌, ◌≤◌}
use mathlib.Core.Path.{◌≡◌, ap, sym, ◌∙◌}
use native.Mathlib.Omega.{arith}
use mathlib.Core.List.{List, []}
use lib.ListN.{get_or}
use Rattle.meaning.specs.Limits.{most_vars}
use Rattle.meaning.specs.Split.{Valid}
use Rattle.tables.specs.Layout.{Tables, dom_place, init_place, goal_place, pre_place, eff_place, class_place, mark_place, share_place, mark_of}
use Rattle.tables.specs.Task.{task_of}
use Rattle.tables.proofs.Meant.{first_stores_nothing, first_has_no_quota}
use Rattle.scan.specs.Scan.{roomy}
use Rattle.scan.specs.Own.{SameCounts, OwnSame}
use Rattle.scan.proofs.Unread.{Agree, ReadAlike, agree_alike}

-- t and u are of edition 1 and the same but for quota and marks: their counts, their facts before the marks, their costs and shares; and they have the same room
pub record SameButMarks (t u : Tables) : Type 0 where
  pub first : t.counts.edition ≡ 1
  pub edition : u.counts.edition ≡ 1
  pub vars : t.counts.vars ≡ u.counts.vars
  pub ops : t.counts.ops ≡ u.counts.ops
  pub maps : t.counts.maps ≡ u.counts.maps
  pub facts : (p : ℕ) → p < mark_place 0 → get_or t.facts p 0 ≡ get_or u.facts p 0
  pub costs : t.costs ≡ u.costs
  pub shares : t.shares ≡ u.shares
  pub room : roomy t ≡ roomy u

module _ (t u : Tables) (E : SameButMarks t u) where
  counts_same : SameCounts t.counts u.counts
  counts_same =
      record {
        vars = E.vars;
        ops = E.ops;
        maps = E.maps;
        edition = E.first ∙ sym E.edition;
        quota = first_has_no_quota t E.first ∙ sym (first_has_no_quota u E.edition);
      }

  marks_same : (o : ℕ) → mark_of t.counts t.facts o ≡ mark_of u.counts u.facts o
  marks_same o = first_stores_nothing t E.first o ∙ sym (first_stores_nothing u E.edition o)

  agree : t.counts.vars ≤ most_vars → Agree t.counts t.facts u.facts t.costs u.costs t.shares u.shares
  agree few =
      record {
        dom = λ v l. E.facts (dom_place v) (omega arith);
        init = λ v l. E.facts (init_place v) (omega arith);
        goal = λ v l. E.facts (goal_place v) (omega arith);
        pre = λ o v lo l h. E.facts (pre_place o v) (omega arith);
        eff = λ o v lo l h. E.facts (eff_place o v) (omega arith);
        class = λ m v x lm l h i fits. E.facts (class_place m v x) (omega arith);
        cost = λ o l h. ap (λ (k : List ℕ). get_or k o 0) E.costs;
        share = λ m o lm l. ap (λ (k : List ℕ). get_or k (share_place m o) 0) E.shares;
        mark =
            λ o l h.
            first_stores_nothing t E.first o ∙ sym (first_stores_nothing (record { counts = t.counts; facts = u.facts; costs = []; shares = [] }) E.first o);
      }

  -- the same first fault, and where there is none, the same task
  pub first_alike : ReadAlike t u
  first_alike = agree_alike t u counts_same E.room (λ e few. agree few)

  -- and then they agree at all places of the task's own
  pub first_own : Valid (task_of t) → OwnSame t u
  first_own ok =
      let A = agree ok.vars.1 in
      record {
        counts = counts_same;
        room = E.room;
        dom = A.dom;
        init = A.init;
        goal = A.goal;
        pre = λ o v lo l. A.pre o v lo (omega (arith, ok.ops)) l;
        eff = λ o v lo l. A.eff o v lo (omega (arith, ok.ops)) l;
        class = λ m v x lm l h. A.class m v x lm (omega (arith, ok.maps.1)) l h (omega (arith, ok.values v l));
        cost = λ o l. A.cost o l (omega (arith, ok.ops));
        share = A.share;
        mark = λ o l. marks_same o;
      }
