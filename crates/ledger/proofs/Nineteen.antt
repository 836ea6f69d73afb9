-- 19, EXACTLY, over the answer to an offer: it is given if and only if the tables are clean, the run is what its start and log give, and the offer is a storing
-- step at the quota (`StoresBeyond`); and its place is the offered number. So 15 and 12 come first. In edition 1 no offer is 19. Assumes nothing.
use Prim.Native.Nat.{ℕ, ◌<◌}
use mathlib.Core.Path.{◌≡◌, refl, sym, ◌∙◌}
use mathlib.Core.Logic.{◌↔◌}
use mathlib.Core.Bool.{true, false}
use native.Mathlib.Omega.{arith}
use Rattle.scan.specs.Found.{clean}
use Rattle.std.specs.Prelude.{Err}
use Rattle.refusals.specs.declared.Refusal.TheVariants.{BeyondQuota}
use Rattle.meaning.specs.Limits.{most_steps}
use Rattle.meaning.specs.Sas.{MayRun}
use Rattle.meaning.proofs.Facts.{complies_true, true_complies}
use Rattle.meaning.proofs.Quota.{may_not_store, stores_beyond}
use Rattle.scan.specs.Scan.{tables_fault}
use Rattle.scan.proofs.Validity.{clean_valid}
use Rattle.tables.specs.Layout.{Tables}
use Rattle.tables.specs.Task.{task_of, sas_of, state_of}
use Rattle.tables.specs.Steps.{may_run}
use Rattle.tables.proofs.Meant.{may_run_is, first_stores_nothing}
use Rattle.ledger.specs.declared.Run.{Run}
use Rattle.ledger.specs.Ledger.{can_run, within_quota, next_step, offered}
use Rattle.ledger.specs.History.{GivenByStartAndLog, Sized, stored_in, StoresBeyond}
use Rattle.ledger.proofs.Answers.{can_may, within_is, next_cases, next_beyond}
use Rattle.ledger.proofs.Accepted.{late_next, next_late}
use Rattle.ledger.proofs.Sound.{run_exactly}
use Rattle.ledger.proofs.Stored.{given_stores}

-- what the next number's 19 came by
came : (t : Tables) (r : Run) (number o place : ℕ) → next_step t.counts t.facts r number o ≡ Err (BeyondQuota place)
    → (r.len < most_steps) × (can_run t.counts t.facts r.now o ≡ true) × (within_quota t.counts t.facts r.columns o ≡ false) × (place ≡ number)
came t r number o place =
    next_cases t.counts t.facts r number o
    (λ x.
    x ≡ Err (BeyondQuota place)
    → (r.len < most_steps) × (can_run t.counts t.facts r.now o ≡ true) × (within_quota t.counts t.facts r.columns o ≡ false) × (place ≡ number))
    (λ g e. cc) (λ l p e. cc)
    (λ l p q e. let same : number ≡ place = cc in (l, p, q, sym same)) (λ l p q e. cc)

-- an operator that exists can run exactly if it may
can_runs : (t : Tables) (r : Run) (o : ℕ) → o < t.counts.ops → can_run t.counts t.facts r.now o ≡ true ↔ MayRun (sas_of t) o (state_of r.now)
can_runs t r o exists =
    let is = can_may t.counts t.facts r.now o (may_run t.counts t.facts r.now o) exists refl in (
      λ p. complies_true (sas_of t) ((sas_of t).pre o) (state_of r.now) (sym (may_run_is t r.now o) ∙ is ∙ p),
      λ h. sym is ∙ may_run_is t r.now o ∙ true_complies (sas_of t) ((sas_of t).pre o) (state_of r.now) h,
    )

module _ (t : Tables) (r : Run) (sized : Sized r) (number o : ℕ) where
  pub nineteen_exactly : (place : ℕ)
      → ((offered t r number o).answer ≡ Err (BeyondQuota place))
      ↔ ((tables_fault t ≡ clean) × GivenByStartAndLog (task_of t) r × StoresBeyond (task_of t) r number o × (place ≡ number))
  unfolding offered
  nineteen_exactly place = (
    λ e.
        let at = late_next t r number o (Err (BeyondQuota place)) (omega arith) e in
        let given = (run_exactly t at.clean r sized).0 at.run in
        let within = (given_stores t at.clean r given).within in
        let tests = came t r number o place at.answer in
        let beyond = may_not_store (task_of t) (stored_in r) o (sym (within_is t r.columns o) ∙ tests.2) in
        let mark = (clean_valid t at.clean).marks o at.exists in (
          at.clean,
          given,
          record {
            next = at.next;
            room = tests.0;
            exists = at.exists;
            runs = (can_runs t r o at.exists).0 tests.1;
            stores = omega arith;
            met = omega arith;
          },
          tests.3,
        ),
    λ h.
        let step = h.2 in
        let can = (can_runs t r o step.exists).1 step.runs in
        let beyond = within_is t r.columns o ∙ stores_beyond (task_of t) (stored_in r) o (omega (arith, step.stores, step.met)) in
        rw h.3
        (sym
        (next_late t r number o (Err (BeyondQuota number))
        (record {
          clean = h.0;
          run = (run_exactly t h.0 r sized).1 h.1;
          exists = step.exists;
          next = step.next;
          answer = sym (next_beyond t.counts t.facts r number o step.room can beyond);
        }))),
  )

  -- edition 1 has no quota to store beyond
  pub first_edition_no_nineteen : t.counts.edition ≡ 1 → (place : ℕ) → (offered t r number o).answer ≡ Err (BeyondQuota place) → ⊥
  first_edition_no_nineteen first place e = omega (arith, ((nineteen_exactly place).0 e).2.stores, first_stores_nothing t first o)
