-- THE STORED TESTS, as the bench wants them: at every moment of a run, whatever was offered or repeated, their column is the number of storing steps really run,
-- never more than the quota, and the quota reads as met exactly if so many were run; an accepted offer adds its operator's mark, a repeat or a refusal nothing.
-- So it is of any run that isn't 17, by its own log: a wrong count is 17, and so is a log past the quota. The column is an instance of `history`; what is left
-- is that the steps' marks are a count. Assumes nothing.
use Prim.Native.Nat.{ℕ, zero, suc, ◌+◌, ◌≤◌, ◌<◌}
use mathlib.Core.Path.{◌≡◌, refl, ap, sym, ◌∙◌}
use mathlib.Core.Bool.{◌&&◌, cond, and-true}
use mathlib.Core.List.{List, [], ◌∷◌}
use native.Mathlib.Omega.{arith}
use lib.Dec.{ltb, eqb}
use lib.ListN.{length, get_or}
use Rattle.scan.specs.Found.{clean}
use Rattle.std.specs.Prelude.{Result, Ok, Err}
use Rattle.refusals.specs.declared.Refusal.{Refusal}
use Rattle.refusals.specs.declared.Refusal.TheVariants.{NotARun}
use Rattle.meaning.specs.Limits.{most_mark}
use Rattle.meaning.specs.Sas.{State, Runs, after, end}
use Rattle.meaning.specs.Views.{complies}
use Rattle.meaning.specs.Split.{Task, Valid, sum}
use Rattle.meaning.specs.Columns.{stored_tests}
use Rattle.meaning.specs.Quota.{stored}
use Rattle.meaning.proofs.Columns.{gain_stored}
use Rattle.meaning.proofs.Quota.{stores_within, nothing_stored}
use Rattle.scan.specs.Scan.{tables_fault}
use Rattle.scan.proofs.Validity.{clean_valid}
use Rattle.tables.specs.Layout.{Tables}
use Rattle.tables.specs.Task.{task_of, sas_of, state_of}
use Rattle.tables.proofs.Meant.{first_stores_nothing, first_has_no_quota}
use Rattle.ledger.specs.declared.Run.{Run}
use Rattle.ledger.specs.declared.Answer.{Answer}
use Rattle.ledger.specs.declared.Answer.TheVariants.{Accepted, Repeated}
use Rattle.ledger.specs.Ledger.{advanced, onward, offered, begun}
use Rattle.ledger.specs.History.{Offer, may_follow, added, really_run, ran, run_after, Tells, GivenByStartAndLog, Sized}
use Rattle.ledger.specs.History.{stored_in, steps_in, storing_steps, TellsStored, stored_by, stored_by_all}
use Rattle.ledger.proofs.Gains.{booked_at_lem}
use Rattle.ledger.proofs.Accepted.{accepted_had}
use Rattle.ledger.proofs.Entries.{accepted_began, offered_sized}
use Rattle.ledger.proofs.Told.{tells_steps, tells_stored}
use Rattle.ledger.proofs.History.{history, run_sized}
use Rattle.ledger.proofs.Seventeen.{seventeen_exactly, not_seventeen}

-- ---- the tests that steps store are the storing steps, counted place by place

sum_first : (f : ℕ → ℕ) (k : ℕ) → sum f (suc k) ≡ f 0 + sum (λ i. f (suc i)) k
sum_first f zero = omega arith
sum_first f (suc k) = omega (arith, sum_first f k)

one_or_none : (m : ℕ) → m ≤ most_mark → cond (eqb m 1) 1 0 ≡ m
one_or_none zero h = refl
one_or_none (suc zero) h = refl
one_or_none (suc (suc m)) h = omega arith

pub stored_counts : (T : Task) → Valid T → (os : List ℕ) (s : State) → Runs T.sas os s → stored T os ≡ storing_steps T os
stored_counts T valid [] s h = refl
stored_counts T valid (o ∷ os) s h =
    omega (
      arith,
      sum_first (λ i. cond (eqb (T.mark (get_or (o ∷ os) i 0)) 1) 1 0) (length os),
      one_or_none (T.mark o) (valid.marks o h.0),
      stored_counts T valid os (after T.sas o s) h.2,
    )

-- ---- a run that tells its steps

tells_stores : (T : Task) → Valid T → (s : State) (done : List ℕ) (r : Run) → Tells T s done r → TellsStored T done r
tells_stores T valid s done r tells =
    let counted = tells_stored T valid s done r tells ∙ stored_counts T valid done s tells.legal in
    record {
      counted = counted;
      within = omega (arith, tells_stored T valid s done r tells, tells.keeps);
      met = (λ e. sym counted ∙ e, λ e. counted ∙ e);
    }

-- ---- EACH OFFER, to any run at all: a repeat never raises the stored tests and a refusal neither; an accepted offer raises them by its operator's mark

module _ (t : Tables) (r : Run) (number o : ℕ) where
  pub repeat_stores_nothing : (offered t r number o).answer ≡ Ok Repeated → stored_in (offered t r number o).run ≡ stored_in r
  unfolding offered
  repeat_stores_nothing e = rw e refl

  pub refused_stores_nothing : (f : Refusal) → (offered t r number o).answer ≡ Err f → stored_in (offered t r number o).run ≡ stored_in r
  unfolding offered
  refused_stores_nothing f e = rw e refl

  pub accepted_stores : Sized r → (offered t r number o).answer ≡ Ok Accepted → stored_in (offered t r number o).run ≡ stored_in r + (task_of t).mark o
  unfolding offered advanced onward
  accepted_stores sized e =
      let maps = (clean_valid t (accepted_had t r number o e).clean).maps.1 in
      rw e
      (booked_at_lem (task_of t) r.columns o stored_tests sized.columns (omega arith)
      ∙ ap (λ (x : ℕ). stored_in r + x) (gain_stored (task_of t) stored_tests o (omega (arith, maps)) refl))

  -- in one: by its answer
  pub offer_stores : Sized r → stored_in (offered t r number o).run ≡ stored_in r + stored_by (task_of t) o (offered t r number o).answer
  offer_stores sized = by_answer (offered t r number o).answer refl
    where
      by_answer : (x : Result Answer Refusal) → (offered t r number o).answer ≡ x → stored_in (offered t r number o).run ≡ stored_in r + stored_by (task_of t) o x
      by_answer (Ok Accepted) e = accepted_stores sized e
      by_answer (Ok Repeated) e = omega (arith, repeat_stores_nothing e)
      by_answer (Err f) e = omega (arith, refused_stores_nothing f e)

-- so after any offers, by their answers alone
pub offers_store : (t : Tables) (xs : List Offer) (r : Run) → Sized r → stored_in (ran t r xs) ≡ stored_in r + stored_by_all t r xs
unfolding ran stored_by_all
offers_store t [] r sized = omega arith
offers_store t (x ∷ xs) r sized =
    let next = (offered t r x.number x.op).run in
    omega (arith, offers_store t xs next (offered_sized t r sized x.number x.op), offer_stores t r x.number x.op sized)

-- ---- AT EVERY MOMENT of a run that was begun, since after any offers

module _ (t : Tables) (s : List ℕ) (accepted : (begun t s).answer ≡ Ok Accepted) where
  pub begun_stores : (xs : List Offer) → TellsStored (task_of t) (really_run (task_of t) (state_of s) xs) (run_after t s xs)
  begun_stores xs =
      tells_stores (task_of t) (clean_valid t (accepted_began t s accepted).clean) (state_of s) (really_run (task_of t) (state_of s) xs) (run_after t s xs)
      (history t s accepted xs)

  -- the accepted storing steps, by the answers alone
  pub begun_stored_by : (xs : List Offer) → stored_in (run_after t s xs) ≡ stored_by_all t (begun t s).run xs
  unfolding ran added
  begun_stored_by xs = omega (arith, offers_store t xs (begun t s).run (run_sized t s accepted []), (begun_stores []).counted)

  -- edition 1 stores nothing
  pub first_edition_stored : t.counts.edition ≡ 1 → (xs : List Offer) → stored_in (run_after t s xs) ≡ 0
  first_edition_stored first xs = omega (arith, (begun_stores xs).within, first_has_no_quota t first)

-- ---- EDITION 1 asks for no quota: what may follow the steps done is what exists and may run
pub first_edition_follows : (t : Tables) → t.counts.edition ≡ 1 → (s : State) (done : List ℕ) (o : ℕ)
    → may_follow (task_of t) s done o ≡ (ltb o t.counts.ops && complies (sas_of t) ((sas_of t).pre o) (end (sas_of t) done s))
unfolding may_follow
first_edition_follows t first s done o =
    let none = first_stores_nothing t first in
    rw (stores_within (task_of t) (stored (task_of t) done) o (omega (arith, nothing_stored (task_of t) none done, none o)), and-true) refl

-- ---- ANY RUN THAT ISN'T 17, whoever kept it: by its own log, as it was handed in and as it is handed back

pub given_stores : (t : Tables) → tables_fault t ≡ clean → (r : Run) → GivenByStartAndLog (task_of t) r → TellsStored (task_of t) (steps_in r) r
given_stores t clean r (state, (done, tells)) =
    rw (tells_steps (task_of t) (state_of r.start) done r tells) (tells_stores (task_of t) (clean_valid t clean) (state_of r.start) done r tells)

module _ (t : Tables) (clean : tables_fault t ≡ clean) (r : Run) (sized : Sized r) (number o : ℕ) where
  pub not_seventeen_stores : ((offered t r number o).answer ≡ Err NotARun → ⊥)
      → TellsStored (task_of t) (steps_in r) r × TellsStored (task_of t) (steps_in (offered t r number o).run) (offered t r number o).run
  not_seventeen_stores other =
      let given = not_seventeen t r number o clean sized other in
      (given_stores t clean r given.0, given_stores t clean (offered t r number o).run given.1)

  -- a wrong count is 17, and so is a log past the quota
  pub wrong_count : (stored_in r ≡ storing_steps (task_of t) (steps_in r) → ⊥) → (offered t r number o).answer ≡ Err NotARun
  wrong_count wrong = (seventeen_exactly t r number o sized).1 (clean, λ g. wrong (given_stores t clean r g).counted)

  pub past_quota : (task_of t).quota < storing_steps (task_of t) (steps_in r) → (offered t r number o).answer ≡ Err NotARun
  past_quota past =
      (seventeen_exactly t r number o sized).1
      (clean, λ g. omega (arith, (given_stores t clean r g).counted, (given_stores t clean r g).within))
