-- WHAT THE COLUMNS HAVE AT MOST: in a run that isn't 17 each column, and those of the cost together, have at most 1,000,000 for each of its steps, so at
-- most 1,024,000,000; and so it is in the run that an offer hands back, and at every moment of a run that was begun. So no sum goes past 32 bits. What a
-- run tells is what its steps add, and a step adds no more than it costs. Assumes nothing.
use Prim.Native.Nat.{ℕ, ◌*◌, ◌≤◌, ◌<◌}
use mathlib.Core.Path.{◌≡◌, refl}
use mathlib.Core.List.{List}
use native.Mathlib.Omega.{arith}
use lib.ListN.{get_or}
use Rattle.scan.specs.Found.{clean}
use Rattle.refusals.specs.declared.Refusal.TheVariants.{NotARun}
use Rattle.meaning.specs.Limits.{most_cost, most_steps}
use Rattle.meaning.specs.Sas.{State}
use Rattle.meaning.specs.Split.{Task, Valid, sum}
use Rattle.meaning.specs.Columns.{cost_columns, gain}
use Rattle.meaning.proofs.Columns.{gain_small}
use Rattle.scan.specs.Scan.{tables_fault}
use Rattle.scan.proofs.Validity.{clean_valid}
use Rattle.tables.specs.Layout.{Tables}
use Rattle.tables.specs.Task.{task_of, state_of}
use Rattle.std.specs.Prelude.{Ok, Err}
use Rattle.ledger.specs.declared.Run.{Run}
use Rattle.ledger.specs.declared.Answer.TheVariants.{Accepted}
use Rattle.ledger.specs.Ledger.{all_columns, offered, begun}
use Rattle.ledger.specs.History.{Offer, run_after, Tells, GivenByStartAndLog, Sized, WithinSteps}
use Rattle.ledger.proofs.Entries.{accepted_began}
use Rattle.ledger.proofs.History.{history, tells_all}
use Rattle.ledger.proofs.Sequences.{paid_most}
use Rattle.ledger.proofs.Seventeen.{not_seventeen}

-- the most that a run's columns have
pub most_paid : most_steps * most_cost ≡ 1024000000
unfolding most_steps
most_paid = refl

tells_within : (T : Task) → Valid T → (s : State) (done : List ℕ) (r : Run) → Tells T s done r → WithinSteps r
tells_within T valid s done r tells =
    record {
      steps = omega (arith, tells.len, tells.few);
      column =
          λ c h.
          let most = paid_most T.sas (gain T c) most_cost (λ o l. gain_small T valid o l c) done s tells.legal in
          omega (arith, tells.column c h, most, tells.len);
      together =
          let most = paid_most T.sas T.sas.cost most_cost valid.costs done s tells.legal in
          omega (arith, tells_all T valid s done r tells, most, tells.len);
    }

module _ (r : Run) (within : WithinSteps r) where
  pub column_limit : (c : ℕ) → c < all_columns → get_or r.columns c 0 ≤ 1024000000
  column_limit c h = omega (arith, within.column c h, within.steps, most_paid)

  pub together_limit : sum (λ c. get_or r.columns c 0) cost_columns ≤ 1024000000
  together_limit = omega (arith, within.together, within.steps, most_paid)

pub given_within : (t : Tables) → tables_fault t ≡ clean → (r : Run) → GivenByStartAndLog (task_of t) r → WithinSteps r
given_within t clean r (state, (done, tells)) = tells_within (task_of t) (clean_valid t clean) (state_of r.start) done r tells

module _ (t : Tables) (clean : tables_fault t ≡ clean) (r : Run) where
  -- A RUN THAT ISN'T 17, as it was handed in and as it is handed back
  pub not_seventeen_within : Sized r → (number o : ℕ) → ((offered t r number o).answer ≡ Err NotARun → ⊥)
      → WithinSteps r × WithinSteps (offered t r number o).run
  not_seventeen_within sized number o other =
      let given = not_seventeen t r number o clean sized other in
      (given_within t clean r given.0, given_within t clean (offered t r number o).run given.1)

-- every moment of a run that was begun
pub begun_within : (t : Tables) (s : List ℕ) → (begun t s).answer ≡ Ok Accepted → (xs : List Offer) → WithinSteps (run_after t s xs)
begun_within t s accepted xs =
    tells_within (task_of t) (clean_valid t (accepted_began t s accepted).clean) (state_of s) _ (run_after t s xs) (history t s accepted xs)
