-- Laws of a walk over rules, one after another, that is left at the first fault: what a counting loop asks (one turn more, a fault here, the
-- end), and that a walk is clean exactly if each of its rules is. Assumes nothing.
use Prim.Native.Nat.{ℕ, zero, suc, ◌+◌, ◌≤◌, ◌<◌}
use mathlib.Core.Path.{◌≡◌, refl, ap, sym, ◌∙◌}
use mathlib.Core.Bool.{Bool, true, false, ◌&&◌, and-false}
use mathlib.Core.List.{List, [], ◌∷◌}
use mathlib.Core.Logic.{◌↔◌}
use native.Mathlib.Nat.{add-zero}
use native.Mathlib.Numerals.{add-one}
use native.Mathlib.Omega.{arith}
use lib.Dec.{ltb}
use borrow.Author.Tests.{ltb-true, ltb-false}
use Rattle.std.specs.Prelude.{Ok, Err, IsErr}
use Rattle.std.specs.Result.{IsErrAnd}
use Rattle.std.proofs.lemmas.Result.{err_from_is_err_and}
use Rattle.scan.specs.Found.{Found, clean}
use Rattle.refusals.specs.declared.Refusal.{Refusal}
use Rattle.meaning.specs.Views.{every}
use Rattle.scan.specs.Scan.{unless, ◌then◌, each}
use Rattle.tables.proofs.Laws.{never}
use Rattle.meaning.proofs.Facts.{by_cases}

-- ---- one rule after another

pub then_clean : (a : Found) → a then clean ≡ a
then_clean (Ok tt) = refl
then_clean (Err r) = refl

-- what is no fault is clean
pub no_fault : (r : Found) → ((f : Refusal) → r ≡ Err f → ⊥) → r ≡ clean
no_fault (Ok tt) h = refl
no_fault (Err f) h = absurd (h f refl)

-- what `?` hands on is the fault itself
pub passed_on : {r : Found} {f : Refusal} → IsErr r × IsErrAnd r (λ e. e ≡ f) → r ≡ Err f
passed_on {r} h = let e = err_from_is_err_and r h.1 in e.1 ∙ ap (λ (q : Refusal). Err q) e.2

-- a fault is handed on
pub hands_on : (a b found : Found) (f : Refusal) → found ≡ a → found ≡ Err f → found ≡ a then b
hands_on a b found f p q = q ∙ (rw (sym p ∙ q) refl)

-- and where there is none, the next decides
pub goes_on : (a b found : Found) → found ≡ a → found ≡ clean → b ≡ a then b
goes_on a b found p q = rw (sym p ∙ q) refl

pub then_then : (a b c : Found) → (a then b) then c ≡ a then b then c
then_then (Ok tt) b c = refl
then_then (Err r) b c = refl

pub clean_first : (a b : Found) → a then b ≡ clean → a ≡ clean
clean_first (Ok tt) b p = refl
clean_first (Err r) b p = p

pub clean_next : (a b : Found) → a then b ≡ clean → b ≡ clean
clean_next (Ok tt) b p = p
clean_next (Err r) b p = never (cc)

-- several, and that each is clean
abbrev pub in_order : Found → List Found → Found
in_order a [] = a
in_order a (b ∷ l) = a then in_order b l

abbrev pub AllClean : Found → List Found → Type 0
AllClean a [] = a ≡ clean
AllClean a (b ∷ l) = (a ≡ clean) × AllClean b l

pub all_clean : (a : Found) (l : List Found) → in_order a l ≡ clean → AllClean a l
all_clean a [] p = p
all_clean a (b ∷ l) p = (clean_first a (in_order b l) p, all_clean b l (clean_next a (in_order b l) p))

-- ---- a rule

pub kept : (r : Refusal) {b : Bool} → b ≡ true → unless b r ≡ clean
kept r p = rw p

pub broken : (r : Refusal) {b : Bool} → b ≡ false → unless b r ≡ Err r
broken r p = rw p

pub rule_held : (b : Bool) (r : Refusal) → unless b r ≡ clean → b ≡ true
rule_held true r p = refl
rule_held false r p = never (cc)

-- ---- a walk over rules

each_snoc : (f : ℕ → Found) (n i : ℕ) → each f (suc n) i ≡ each f n i then f (i + n)
unfolding each
each_snoc f zero i = rw add-zero (then_clean (f i))
each_snoc f (suc n) i =
    let q : suc i + n ≡ i + suc n = omega arith in
    rw (each_snoc f n (suc i), q) (sym (then_then (f i) (each f n (suc i)) (f (i + suc n))))

each_last : (f : ℕ → Found) (n : ℕ) → each f (suc n) 0 ≡ each f n 0 then f n
each_last f n = let q : 0 + n ≡ n = omega arith in each_snoc f n 0 ∙ ap (λ (k : ℕ). each f n 0 then f k) q

module _ (f : ℕ → Found) where
  pub walk_none : each f 0 0 ≡ clean
  unfolding each
  walk_none = refl

  pub walk_more : (i : ℕ) → each f i 0 ≡ clean → f i ≡ clean → each f (i + 1) 0 ≡ clean
  walk_more i p q = rw (add-one, each_last, p, q)

  pub walk_here : (n i : ℕ) (r : Refusal) → each f i 0 ≡ clean → i < n → f i ≡ Err r → each f n 0 ≡ Err r
  walk_here zero i r p h q = absurd (let z : ⊥ = omega arith in z)
  walk_here (suc n) i r p h q =
      by_cases (ltb i n) (λ e. rw (each_last, walk_here n i r p (ltb-true i n e) q))
      (λ e.
      let s : i ≡ n = omega (arith, ltb-false i n e) in
      rw (each_last, ← s, p, q))

  pub walk_end : (n i : ℕ) → each f i 0 ≡ clean → i ≤ n → n ≤ i → each f n 0 ≡ clean
  walk_end n i p h g =
      let q : n ≡ i = omega arith in
      rw q p

  -- a walk is clean exactly if each of its rules is
  pub walk_clean : (n i : ℕ) → each f n 0 ≡ clean → i < n → f i ≡ clean
  walk_clean zero i p h = absurd (let z : ⊥ = omega arith in z)
  walk_clean (suc n) i p h =
      let q : each f n 0 then f n ≡ clean = sym (each_last f n) ∙ p in
      by_cases (ltb i n) (λ e. walk_clean n i (clean_first (each f n 0) (f n) q) (ltb-true i n e))
      (λ e.
      let s : i ≡ n = omega (arith, ltb-false i n e) in
      rw s (clean_next (each f n 0) (f n) q))

  pub clean_walk : (n : ℕ) → ((i : ℕ) → i < n → f i ≡ clean) → each f n 0 ≡ clean
  clean_walk zero h = walk_none
  clean_walk (suc n) h = rw (each_last, clean_walk n (λ i l. h i (omega arith)), h n (omega arith))

-- ---- a walk over tests, each with the refusal that it is broken with

abbrev pub tests : (ℕ → Bool) → (ℕ → Refusal) → ℕ → Found
tests test r i = unless (test i) (r i)

module _ (test : ℕ → Bool) (r : ℕ → Refusal) where
  pub tests_more : (i : ℕ) → each (tests test r) i 0 ≡ clean → test i ≡ true → each (tests test r) (i + 1) 0 ≡ clean
  tests_more i p q = walk_more (tests test r) i p (kept (r i) q)

  pub tests_here : (n i : ℕ) → each (tests test r) i 0 ≡ clean → i < n → test i ≡ false → each (tests test r) n 0 ≡ Err (r i)
  tests_here n i p h q = walk_here (tests test r) n i (r i) p h (broken (r i) q)

  pub tests_held : (n i : ℕ) → each (tests test r) n 0 ≡ clean → i < n → test i ≡ true
  tests_held n i p h = rule_held (test i) (r i) (walk_clean (tests test r) n i p h)

-- where every test has the same refusal, the walk is one rule
both_tests : (a b : Bool) (r : Refusal) → unless a r then unless b r ≡ unless (a && b) r
both_tests true b r = refl
both_tests false b r = refl

pub one_rule : (test : ℕ → Bool) (r : Refusal) (n : ℕ) → each (tests test (λ x. r)) n 0 ≡ unless (every test n) r
one_rule test r zero = walk_none (tests test (λ x. r))
one_rule test r (suc n) = each_last (tests test (λ x. r)) n ∙ rw (one_rule test r n) (both_tests (every test n) (test n) r)

-- which `all` over the numbers below n decides
pub all_decides : (test : ℕ → Bool) (r : Refusal) (n : ℕ) {b : Bool} → b ≡ every test n → each (tests test (λ x. r)) n 0 ≡ unless b r
all_decides test r n e = one_rule test r n ∙ ap (λ (b : Bool). unless b r) (sym e)

-- and two walks with one refusal are one walk
and_and : (p q r s : Bool) → (p && q) && (r && s) ≡ (p && r) && (q && s)
and_and false q r s = refl
and_and true true r s = refl
and_and true false r s = sym (and-false r)

every_both : (f g : ℕ → Bool) (n : ℕ) → (every f n && every g n) ≡ every (λ i. f i && g i) n
every_both f g zero = refl
every_both f g (suc n) = and_and (every f n) (f n) (every g n) (g n) ∙ ap (λ (b : Bool). b && (f n && g n)) (every_both f g n)

pub one_walk : (f g : ℕ → Bool) (r : Refusal) (n : ℕ)
    → each (tests f (λ i. r)) n 0 then each (tests g (λ i. r)) n 0 ≡ each (tests (λ i. f i && g i) (λ i. r)) n 0
one_walk f g r n =
    rw (one_rule f r n, one_rule g r n, one_rule (λ i. f i && g i) r n)
    (both_tests (every f n) (every g n) r ∙ ap (λ (b : Bool). unless b r) (every_both f g n))

-- ---- rules and what they say: a rule, one after another, a walk, each clean exactly if what is asked holds

pub rule_is : {b : Bool} (r : Refusal) {P : Type 0} → (b ≡ true) ↔ P → (unless b r ≡ clean) ↔ P
rule_is {b} r t = (λ p. t.0 (rule_held b r p), λ h. kept r (t.1 h))

pub then_is : {a b : Found} {P Q : Type 0} → (a ≡ clean) ↔ P → (b ≡ clean) ↔ Q → (a then b ≡ clean) ↔ (P × Q)
then_is {a} {b} s t = (λ p. (s.0 (clean_first a b p), t.0 (clean_next a b p)), λ h. rw (s.1 h.0) (t.1 h.1))

pub walk_is : (f : ℕ → Found) (n : ℕ) {P : ℕ → Type 0} → ((i : ℕ) → (f i ≡ clean) ↔ P i) → (each f n 0 ≡ clean) ↔ ((i : ℕ) → i < n → P i)
walk_is f n t = (λ p i l. (t i).0 (walk_clean f n i p l), λ h. clean_walk f n (λ i l. (t i).1 (h i l)))
