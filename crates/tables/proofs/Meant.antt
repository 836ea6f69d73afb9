-- Steps over the lent tables are the steps of the task that the tables spell. Assumes nothing.
use Prim.Native.Nat.{ℕ, ◌≤◌, ◌<◌}
use mathlib.Core.Path.{◌≡◌, refl}
use mathlib.Core.List.{List}
use native.Mathlib.Omega.{arith}
use lib.ListN.{length, get_or}
use Rattle.meaning.specs.Sas.{after}
use Rattle.meaning.specs.Views.{complies, idle}
use Rattle.meaning.specs.Quota.{may_store}
use Rattle.tables.specs.Layout.{Tables, eff_row}
use Rattle.tables.specs.Task.{sas_of, task_of, state_of}
use Rattle.tables.specs.Steps.{row_holds, may_run, meets_goal, value_after, can_store, stepped, is_idle}
use Rattle.tables.proofs.Laws.{filled_at, filled_later, length_filled}

module _ (t : Tables) (s : List ℕ) where
  -- the test of an operator is the task's
  pub may_run_is : (o : ℕ) → may_run t.counts t.facts s o ≡ complies (sas_of t) ((sas_of t).pre o) (state_of s)
  unfolding may_run row_holds
  may_run_is o = refl

  -- so is that of the goal
  pub meets_goal_is : meets_goal t.counts t.facts s ≡ complies (sas_of t) (sas_of t).goal (state_of s)
  unfolding meets_goal row_holds
  meets_goal_is = refl

  -- the state after a step has the task's values; the places beyond the variables stay
  pub stepped_is : (o v : ℕ) → t.counts.vars ≤ length s → v < t.counts.vars
      → state_of (stepped t.counts t.facts s o) v ≡ after (sas_of t) o (state_of s) v
  unfolding stepped
  stepped_is o v l h = filled_at (value_after t.facts (eff_row o) s) s t.counts.vars v h (omega arith)

  pub stepped_beyond : (o v : ℕ) → t.counts.vars ≤ v → get_or (stepped t.counts t.facts s o) v 0 ≡ get_or s v 0
  unfolding stepped
  stepped_beyond o v h = filled_later (value_after t.facts (eff_row o) s) s t.counts.vars v h

  pub stepped_length : (o : ℕ) → length (stepped t.counts t.facts s o) ≡ length s
  unfolding stepped
  stepped_length o = length_filled (value_after t.facts (eff_row o) s) s t.counts.vars

-- the test of a stored test is the task's
pub can_store_is : (t : Tables) (n o : ℕ) → can_store t.counts t.facts n o ≡ may_store (task_of t) n o
unfolding can_store may_store
can_store_is t n o = refl

-- edition 1 stores nothing: its quota and its marks are 0, whatever stands in their places
pub first_stores_nothing : (t : Tables) → t.counts.edition ≡ 1 → (o : ℕ) → (task_of t).mark o ≡ 0
first_stores_nothing t e o = rw e refl

pub first_has_no_quota : (t : Tables) → t.counts.edition ≡ 1 → (task_of t).quota ≡ 0
first_has_no_quota t e = rw e refl

-- an operator is idle by its rows exactly if it is in the task
pub is_idle_is : (t : Tables) (o : ℕ) → is_idle t.counts.vars t.facts o ≡ idle (sas_of t) o
unfolding is_idle
is_idle_is t o = refl
