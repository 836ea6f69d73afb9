-- What an answer follows from; that only the rules of the next number accept an offer or refuse it with 19; and what an accepted offer had. Assumes nothing.
use Prim.Native.Nat.{ℕ, ◌+◌, ◌-◌, ◌≤◌, ◌<◌}
use mathlib.Core.Path.{◌≡◌, refl, ap, sym, ◌∙◌, subst}
use mathlib.Core.Logic.{inl, inr}
use mathlib.Core.Bool.{Bool, true, false, ◌||◌, cond, false≢true}
use native.Mathlib.Omega.{arith}
use lib.Dec.{ltb, leb, eqb}
use lib.ListN.{get_or}
use borrow.Author.Tests.{leb-false, ltb-false}
use Rattle.scan.specs.Found.{Found, clean}
use Rattle.std.specs.Prelude.{Result, Ok, Err}
use Rattle.refusals.specs.declared.Refusal.{Refusal}
use Rattle.refusals.specs.declared.Refusal.TheVariants.{NoSuchOperator, NotTheNext, OtherOperator, NotARun}
use Rattle.refusals.specs.Listed.{number_of}
use Rattle.meaning.specs.Limits.{most_steps}
use Rattle.scan.specs.Scan.{tables_fault}
use Rattle.scan.proofs.Numbers.{OfTables, tables_refused}
use Rattle.tables.specs.Layout.{Tables}
use Rattle.ledger.specs.declared.Run.{Run}
use Rattle.ledger.specs.declared.Answer.{Answer}
use Rattle.ledger.specs.declared.Answer.TheVariants.{Accepted, Repeated}
use Rattle.ledger.specs.Ledger.{can_run, within_quota, is_run, old_step, next_step, offer_judged, refused_or, run_answered, answered, advanced, moved, offered}
use Rattle.ledger.proofs.Answers.{next_cases, judged_next}

-- LATE: accepted, or refused with a number above all that tables, runs and old numbers get: only the rules of the next number answer so
abbrev pub Late : Result Answer Refusal → Type 0
Late (Ok Accepted) = Unit {0}
Late (Ok Repeated) = ⊥
Late (Err f) = 18 < number_of f

apart : (f : Refusal) (w : Result Answer Refusal) → Late w → number_of f ≤ 18 → Err f ≡ w → ⊥
apart f (Ok a) late low e = cc
apart f (Err g) late low e = let same : f ≡ g = cc in omega (arith, ap number_of same, late)

not_repeated : (w : Result Answer Refusal) → Late w → Ok Repeated ≡ w → ⊥
not_repeated w late e = subst Late (sym e) late

-- what tables are refused with is neither late nor 17
pub tables_other : (f : Refusal) → OfTables f → (1 ≤ number_of f) × (number_of f ≤ 18) × (number_of f ≡ 17 → ⊥)
tables_other f (inl e) = (omega arith, omega arith, λ q. omega arith)
tables_other f (inr (inl e)) = (omega arith, omega arith, λ q. omega arith)
tables_other f (inr (inr (inl e))) = (omega arith, omega arith, λ q. omega arith)
tables_other f (inr (inr (inr (inl e)))) = (omega arith, omega arith, λ q. omega arith)
tables_other f (inr (inr (inr (inr (inl e))))) = (omega arith, omega arith, λ q. omega arith)
tables_other f (inr (inr (inr (inr (inr e))))) = (omega arith, omega arith, λ q. omega arith)

-- ---- a late answer passed by every rule before it

no_fault : (x : Found) (a w : Result Answer Refusal) → ((f : Refusal) → x ≡ Err f → Err f ≡ w → ⊥) → refused_or x a ≡ w → (x ≡ clean) × (a ≡ w)
no_fault (Ok tt) a w not e = (refl, e)
no_fault (Err f) a w not e = absurd (not f refl e)

held : (b : Bool) (a x w : Result Answer Refusal) → (x ≡ w → ⊥) → cond b a x ≡ w → (b ≡ true) × (a ≡ w)
held true a x w not e = (refl, e)
held false a x w not e = absurd (not e)

passed : (b : Bool) (x a w : Result Answer Refusal) → (x ≡ w → ⊥) → cond b x a ≡ w → (b ≡ false) × (a ≡ w)
passed true x a w not e = absurd (not e)
passed false x a w not e = (refl, e)

neither : (a b : Bool) → (a || b) ≡ false → b ≡ false
neither true b e = absurd (false≢true (sym e))
neither false b e = e

module _ (t : Tables) (r : Run) (number o : ℕ) where
  pub answered_fault : (f : Refusal) → tables_fault t ≡ Err f → Err f ≡ answered t r number o
  unfolding answered
  answered_fault f p = rw p refl

  pub answered_clean : tables_fault t ≡ clean → run_answered t r number o ≡ answered t r number o
  unfolding answered
  answered_clean p = rw p refl

  pub answered_not_a_run : tables_fault t ≡ clean → is_run t r ≡ false → Err NotARun ≡ answered t r number o
  unfolding answered
  answered_not_a_run p q = rw (p, q) refl

  pub answered_judged : tables_fault t ≡ clean → is_run t r ≡ true → offer_judged t.counts t.facts r number o ≡ answered t r number o
  unfolding answered
  answered_judged p q = rw (p, q) refl

  -- what a late answer had, and what the next number was answered
  pub record AtNext (w : Result Answer Refusal) : Type 0 where
    pub clean : tables_fault t ≡ clean
    pub run : is_run t r ≡ true
    pub exists : o < t.counts.ops
    pub next : number ≡ r.len + 1
    pub answer : next_step t.counts t.facts r number o ≡ w

  old_apart : (w : Result Answer Refusal) → Late w → old_step r number o ≡ w → ⊥
  unfolding old_step
  old_apart w late e =
      let other = held (eqb (get_or r.log (number - 1) 0) o) (Ok Repeated) (Err (OtherOperator number)) w
      (apart (OtherOperator number) w late (omega arith)) e in
      not_repeated w late other.1

  pub late_next : (w : Result Answer Refusal) → Late w → answered t r number o ≡ w → AtNext w
  unfolding answered offer_judged
  late_next w late e =
      let judged = offer_judged t.counts t.facts r number o in
      let next = next_step t.counts t.facts r number o in
      let old = cond (leb number r.len) (old_step r number o) next in
      let beyond = eqb number 0 || ltb (r.len + 1) number in
      let early : (f : Refusal) → number_of f ≤ 18 → Err f ≡ w → ⊥ = λ f h. apart f w late h in
      let found = no_fault (tables_fault t) (cond (is_run t r) judged (Err NotARun)) w (λ f p. early f (tables_other f (tables_refused t f p)).1) e in
      let run = held (is_run t r) judged (Err NotARun) w (early NotARun (omega arith)) found.1 in
      let exists =
      passed (leb t.counts.ops o) (Err (NoSuchOperator number)) (cond beyond (Err (NotTheNext number)) old) w
      (early (NoSuchOperator number) (omega arith)) run.1 in
      let near = passed beyond (Err (NotTheNext number)) old w (early (NotTheNext number) (omega arith)) exists.1 in
      let new = passed (leb number r.len) (old_step r number o) next w (old_apart w late) near.1 in
      record {
        clean = found.0;
        run = run.0;
        exists = leb-false t.counts.ops o exists.0;
        next =
            omega (
              arith,
              ltb-false (r.len + 1) number (neither (eqb number 0) (ltb (r.len + 1) number) near.0),
              leb-false number r.len new.0,
            );
        answer = new.1;
      }

  -- the other way
  pub next_late : (w : Result Answer Refusal) → AtNext w → w ≡ answered t r number o
  next_late w at =
      judged_next t.counts t.facts r number o at.exists (λ z. omega (arith, at.next)) w (omega (arith, at.next)) (omega (arith, at.next))
      (sym at.answer)
      ∙ answered_judged at.clean at.run

  -- ---- what an accepted offer had

  pub record Had : Type 0 where
    pub clean : tables_fault t ≡ clean
    pub run : is_run t r ≡ true
    pub exists : o < t.counts.ops
    pub next : number ≡ r.len + 1
    pub room : r.len < most_steps
    pub can : can_run t.counts t.facts r.now o ≡ true
    pub keeps : within_quota t.counts t.facts r.columns o ≡ true

  pub accepted_had : answered t r number o ≡ Ok Accepted → Had
  accepted_had e =
      let at = late_next (Ok Accepted) tt e in
      let tests =
      next_cases t.counts t.facts r number o
      (λ x.
      x ≡ Ok Accepted
      → (r.len < most_steps) × (can_run t.counts t.facts r.now o ≡ true) × (within_quota t.counts t.facts r.columns o ≡ true))
      (λ g e. cc) (λ l p e. cc) (λ l p q e. cc) (λ l p q e. (l, p, q)) at.answer in
      record {
        clean = at.clean;
        run = at.run;
        exists = at.exists;
        next = at.next;
        room = tests.0;
        can = tests.1;
        keeps = tests.2;
      }

  -- ---- the run that an offer hands back

  pub offer_runs : answered t r number o ≡ Ok Accepted → (offered t r number o).run ≡ advanced t r o
  unfolding offered
  offer_runs e = rw e refl

  pub offer_stays : (answered t r number o ≡ Ok Accepted → ⊥) → (offered t r number o).run ≡ r
  unfolding offered
  offer_stays h = stays (answered t r number o) h
    where
      stays : (x : Result Answer Refusal) → (x ≡ Ok Accepted → ⊥) → moved t r o x ≡ r
      stays (Ok Accepted) h = absurd (h refl)
      stays (Ok Repeated) h = refl
      stays (Err f) h = refl
