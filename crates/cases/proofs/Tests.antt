-- Tests that compute, each with what it shows when it is true. Assumes nothing.
use mathlib.Core.Path.{◌≡◌, refl, ap, ap₂}
use mathlib.Core.Bool.{Bool, true, false, ◌&&◌, ◌||◌, not, false≢true}
use mathlib.Core.Logic.{◌⊎◌, inl, inr, ⊎_elim}
use mathlib.Core.List.{List, [], ◌∷◌}
use Prim.Native.Nat.{ℕ, zero, suc, ◌≤◌, ◌<◌}
use native.Mathlib.Nat.{le_refl}
use native.Mathlib.Omega.{arith}
use lib.Dec.{eqb, ltb, leb}
use borrow.Author.Tests.{ltb-true, leb-true, eqb-true, eqb-false, not-true}
use Rattle.graph.specs.Cost.{Cost, none, fin}
use Rattle.graph.specs.Best.{Advice, halt, take}
use Rattle.meaning.specs.Views.{every}
use Rattle.meaning.proofs.Facts.{every_true, and_left, and_right}
use Rattle.cases.specs.Told.{Told, yes!, costs, again, no!, EachAt}

pub record Test (P : Type 0) : Type 0 where
  pub holds : Bool
  pub so : holds ≡ true → P

abbrev pub le? : (a b : ℕ) → Test (a ≤ b)
le? a b = record { holds = leb a b; so = leb-true a b }

abbrev pub lt? : (a b : ℕ) → Test (a < b)
lt? a b = record { holds = ltb a b; so = ltb-true a b }

abbrev pub eq? : (a b : ℕ) → Test (a ≡ b)
eq? a b = record { holds = eqb a b; so = eqb-true a b }

infixr 40 ◌and◌
abbrev pub ◌and◌ : {P Q : Type 0} → Test P → Test Q → Test (P × Q)
p and q =
    record {
      holds = p.holds && q.holds;
      so = λ h. (p.so (and_left p.holds q.holds h), q.so (and_right p.holds q.holds h));
    }

abbrev pub all : {P : ℕ → Type 0} (k : ℕ) → ((v : ℕ) → Test (P v)) → Test ((v : ℕ) → v < k → P v)
all k t = record { holds = every (λ v. (t v).holds) k; so = λ h v l. (t v).so (every_true (λ v. (t v).holds) k h v l) }

abbrev pub some_of : (ℕ → Bool) → ℕ → Bool
some_of f zero = false
some_of f (suc k) = some_of f k || f k

pub or_cases : (a b : Bool) → (a || b) ≡ true → (a ≡ true) ⊎ (b ≡ true)
or_cases true b h = inl refl
or_cases false b h = inr h

pub some_true : (f : ℕ → Bool) (k : ℕ) → some_of f k ≡ true → (x : ℕ) × (x < k) × (f x ≡ true)
some_true f zero h = absurd (false≢true h)
some_true f (suc k) h =
    ⊎_elim
    (λ l.
    let t = some_true f k l in
    (t.0, omega (arith, t.1), t.2))
    (λ r. (k, le_refl (suc k), r))
    (or_cases (some_of f k) (f k) h)

abbrev pub some : {P : ℕ → Type 0} (k : ℕ) → ((v : ℕ) → Test (P v)) → Test ((v : ℕ) × (v < k) × P v)
some k t =
    record {
      holds = some_of (λ v. (t v).holds) k;
      so =
          λ h.
          let r = some_true (λ v. (t v).holds) k h in
          (r.0, r.1, (t r.0).so r.2);
    }

abbrev pub into : {P Q : Type 0} → (P → Q) → Test P → Test Q
into f p = record { holds = p.holds; so = λ h. f (p.so h) }

abbrev pub always : {P : Type 0} → P → Test P
always p = record { holds = true; so = λ h. p }

-- a test of each element of a list
abbrev pub each? : {X : Type 0} (P : ℕ → X → Type 0) → ((i : ℕ) (x : X) → Test (P i x)) → (i : ℕ) (xs : List X) → Test (EachAt P i xs)
each? P t i [] = always tt
each? P t i (x ∷ xs) = t i x and each? P t (suc i) xs

-- costs that are the same, or are not
abbrev pub eq_cost : Cost → Cost → Bool
eq_cost none none = true
eq_cost none (fin b) = false
eq_cost (fin a) none = false
eq_cost (fin a) (fin b) = eqb a b

pub eq_cost_true : (v w : Cost) → eq_cost v w ≡ true → v ≡ w
eq_cost_true none none h = refl
eq_cost_true none (fin b) h = absurd (false≢true h)
eq_cost_true (fin a) none h = absurd (false≢true h)
eq_cost_true (fin a) (fin b) h = ap fin (eqb-true a b h)

pub eq_cost_false : (v w : Cost) → not (eq_cost v w) ≡ true → v ≡ w → ⊥
eq_cost_false none none h e = false≢true h
eq_cost_false none (fin b) h e =
    let z : ◌≡◌ {A = ℕ} 0 1 = cc in
    omega arith
eq_cost_false (fin a) none h e =
    let z : ◌≡◌ {A = ℕ} 0 1 = cc in
    omega arith
eq_cost_false (fin a) (fin b) h e =
    let z : a ≡ b = cc in
    eqb-false a b (not-true (eqb a b) h) z

abbrev pub same? : (v w : Cost) → Test (v ≡ w)
same? v w = record { holds = eq_cost v w; so = eq_cost_true v w }

abbrev pub other? : (v w : Cost) → Test (v ≡ w → ⊥)
other? v w = record { holds = not (eq_cost v w); so = eq_cost_false v w }

-- the same advice
abbrev pub eq_advice : Advice → Advice → Bool
eq_advice halt halt = true
eq_advice halt (take p) = false
eq_advice (take o) halt = false
eq_advice (take o) (take p) = eqb o p

pub eq_advice_true : (x y : Advice) → eq_advice x y ≡ true → x ≡ y
eq_advice_true halt halt h = refl
eq_advice_true halt (take p) h = absurd (false≢true h)
eq_advice_true (take o) halt h = absurd (false≢true h)
eq_advice_true (take o) (take p) h = ap take (eqb-true o p h)

abbrev pub advice? : (x y : Advice) → Test (x ≡ y)
advice? x y = record { holds = eq_advice x y; so = eq_advice_true x y }

-- what is told
abbrev pub eq_told : Told → Told → Bool
eq_told yes! yes! = true
eq_told yes! (costs c) = false
eq_told yes! again = false
eq_told yes! (no! n p) = false
eq_told (costs c) yes! = false
eq_told (costs c) (costs d) = eqb c d
eq_told (costs c) again = false
eq_told (costs c) (no! n p) = false
eq_told again yes! = false
eq_told again (costs d) = false
eq_told again again = true
eq_told again (no! n p) = false
eq_told (no! n p) yes! = false
eq_told (no! n p) (costs d) = false
eq_told (no! n p) again = false
eq_told (no! n p) (no! m q) = eqb n m && eqb p q

pub eq_told_true : (x y : Told) → eq_told x y ≡ true → x ≡ y
eq_told_true yes! yes! h = refl
eq_told_true yes! (costs c) h = absurd (false≢true h)
eq_told_true yes! again h = absurd (false≢true h)
eq_told_true yes! (no! n p) h = absurd (false≢true h)
eq_told_true (costs c) yes! h = absurd (false≢true h)
eq_told_true (costs c) (costs d) h = ap costs (eqb-true c d h)
eq_told_true (costs c) again h = absurd (false≢true h)
eq_told_true (costs c) (no! n p) h = absurd (false≢true h)
eq_told_true again yes! h = absurd (false≢true h)
eq_told_true again (costs d) h = absurd (false≢true h)
eq_told_true again again h = refl
eq_told_true again (no! n p) h = absurd (false≢true h)
eq_told_true (no! n p) yes! h = absurd (false≢true h)
eq_told_true (no! n p) (costs d) h = absurd (false≢true h)
eq_told_true (no! n p) again h = absurd (false≢true h)
eq_told_true (no! n p) (no! m q) h =
    ap₂ no! (eqb-true n m (and_left (eqb n m) (eqb p q) h)) (eqb-true p q (and_right (eqb n m) (eqb p q) h))

abbrev pub told? : (x y : Told) → Test (x ≡ y)
told? x y = record { holds = eq_told x y; so = eq_told_true x y }

-- lists of numbers
abbrev pub eq_list : List ℕ → List ℕ → Bool
eq_list [] [] = true
eq_list [] (y ∷ ys) = false
eq_list (x ∷ xs) [] = false
eq_list (x ∷ xs) (y ∷ ys) = eqb x y && eq_list xs ys

pub eq_list_true : (xs ys : List ℕ) → eq_list xs ys ≡ true → xs ≡ ys
eq_list_true [] [] h = refl
eq_list_true [] (y ∷ ys) h = absurd (false≢true h)
eq_list_true (x ∷ xs) [] h = absurd (false≢true h)
eq_list_true (x ∷ xs) (y ∷ ys) h =
    ap₂ ◌∷◌ (eqb-true x y (and_left (eqb x y) (eq_list xs ys) h)) (eq_list_true xs ys (and_right (eqb x y) (eq_list xs ys) h))

abbrev pub list? : (xs ys : List ℕ) → Test (xs ≡ ys)
list? xs ys = record { holds = eq_list xs ys; so = eq_list_true xs ys }
