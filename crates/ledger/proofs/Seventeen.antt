-- 17, EXACTLY, over the answer to an offer: it is given if and only if the tables are clean and the run isn't what its start and log give. No rule before it or
-- after it has that number. A run that gets another answer is handed back as one that would, too. Assumes nothing.
use Prim.Native.Nat.{ℕ, ◌+◌, ◌-◌}
use mathlib.Core.Path.{◌≡◌, refl, ap, sym, ◌∙◌}
use mathlib.Core.Logic.{◌↔◌}
use mathlib.Core.Bool.{Bool, true, false, cond, ◌||◌, false≢true}
use lib.Dec.{leb, ltb, eqb}
use lib.ListN.{get_or}
use Rattle.scan.specs.Found.{Found, clean}
use Rattle.std.specs.Prelude.{Result, Ok, Err}
use Rattle.refusals.specs.declared.Refusal.{Refusal}
use Rattle.refusals.specs.declared.Refusal.TheVariants.{NoSuchOperator, NotTheNext, OtherOperator, NotARun}
use Rattle.refusals.specs.Listed.{number_of}
use Rattle.scan.specs.Scan.{tables_fault}
use Rattle.scan.proofs.Numbers.{tables_refused}
use Rattle.meaning.proofs.Facts.{by_cases}
use Rattle.tables.specs.Layout.{Tables}
use Rattle.tables.specs.Task.{task_of}
use Rattle.ledger.specs.declared.Run.{Run}
use Rattle.ledger.specs.declared.Answer.{Answer}
use Rattle.ledger.specs.declared.Answer.TheVariants.{Repeated}
use Rattle.ledger.specs.Ledger.{is_run, old_step, next_step, offer_judged, answered, offered}
use Rattle.ledger.specs.History.{GivenByStartAndLog, Sized}
use Rattle.ledger.proofs.Answers.{next_cases}
use Rattle.ledger.proofs.Accepted.{tables_other, answered_fault, answered_not_a_run, answered_judged}
use Rattle.ledger.proofs.Sound.{given_told, run_exactly}
use Rattle.ledger.proofs.Told.{offer_told}

-- any other answer
abbrev Other : Result Answer Refusal → Type 0
Other x = x ≡ Err NotARun → ⊥

-- one of two, by a test
either : (b : Bool) (x y : Result Answer Refusal) → Other x → Other y → Other (cond b x y)
either true x y p q = p
either false x y p q = q

-- the offer itself is never answered 17
module _ (t : Tables) (r : Run) (number o : ℕ) where
  old_other : Other (old_step r number o)
  unfolding old_step
  old_other = either (eqb (get_or r.log (number - 1) 0) o) (Ok Repeated) (Err (OtherOperator number)) (λ e. cc) (λ e. cc)

  next_other : Other (next_step t.counts t.facts r number o)
  next_other =
      next_cases t.counts t.facts r number o Other (λ g e. cc) (λ l p e. cc) (λ l p q e. cc) (λ l p q e. cc)

  judged_other : Other (offer_judged t.counts t.facts r number o)
  unfolding offer_judged
  judged_other =
      either (leb t.counts.ops o) (Err (NoSuchOperator number)) _ (λ e. cc)
      (either (eqb number 0 || ltb (r.len + 1) number) (Err (NotTheNext number)) _ (λ e. cc)
      (either (leb number r.len) (old_step r number o) (next_step t.counts t.facts r number o) old_other next_other))

  -- nor are the tables, so 17 comes from its own test
  seventeen_so : answered t r number o ≡ Err NotARun → (tables_fault t ≡ clean) × (is_run t r ≡ false)
  seventeen_so e = at (tables_fault t) refl
    where
      at : (f : Found) → tables_fault t ≡ f → (tables_fault t ≡ clean) × (is_run t r ≡ false)
      at (Ok tt) c =
          by_cases (is_run t r)
          (λ p. absurd (judged_other (answered_judged t r number o c p ∙ e)))
          (λ p. (c, p))
      at (Err f) c =
          let same : f ≡ NotARun = (let p = answered_fault t r number o f c ∙ e in cc) in
          absurd ((tables_other f (tables_refused t f c)).2 (ap number_of same))

  pub seventeen_exactly : Sized r
      → ((offered t r number o).answer ≡ Err NotARun) ↔ ((tables_fault t ≡ clean) × (GivenByStartAndLog (task_of t) r → ⊥))
  unfolding offered
  seventeen_exactly sized = (
    λ e.
        let h = seventeen_so e in
        (h.0, λ g. false≢true (sym h.1 ∙ (run_exactly t h.0 r sized).1 g)),
    λ h.
        by_cases (is_run t r) (λ p. absurd (h.1 ((run_exactly t h.0 r sized).0 p)))
        (λ p. sym (answered_not_a_run t r number o h.0 p)),
  )

  -- ANY OTHER ANSWER: the run handed in is what its start and log give, and so is the run handed back
  pub not_seventeen : tables_fault t ≡ clean → Sized r → ((offered t r number o).answer ≡ Err NotARun → ⊥)
      → GivenByStartAndLog (task_of t) r × GivenByStartAndLog (task_of t) (offered t r number o).run
  unfolding offered
  not_seventeen clean sized other =
      let is : is_run t r ≡ true =
      by_cases (is_run t r) (λ p. p) (λ p. absurd (other (sym (answered_not_a_run t r number o clean p)))) in
      let given = (run_exactly t clean r sized).0 is in
      let told = given_told t clean r sized given in
      let after = offer_told t r.start clean given.0 told.0 r told.1 (record { number = number; op = o }) in
      let same = after.from ∙ sym told.1.from in
      (given, rw same (given.0, (_, after.tells)))
