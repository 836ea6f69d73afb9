-- Facts, values and partial assignments: the tests that compute say what the definitions say. Assumes nothing.
use mathlib.Core.Path.{◌≡◌, refl, sym, ap, ap₂, subst}
use mathlib.Core.Logic.{⊎_elim}
use mathlib.Core.Bool.{Bool, true, false, ◌&&◌, false≢true}
use Prim.Native.Nat.{ℕ, zero, suc, ◌≤◌, ◌<◌}
use native.Mathlib.Nat.{le_refl, le_of_suc-le-suc, not-suc-le-zero, eq-or-lt_of_le}
use native.Mathlib.Omega.{arith}
use lib.Dec.{ltb}
use borrow.Author.Tests.{eq-eqb, eqb-true, ltb-true, ltb-false}
use Rattle.meaning.specs.Sas.{State, Facts, Sas, Holds, Complies, put}
use Rattle.meaning.specs.Views.{holds, every, complies}

-- ---- by cases

-- on a test, with the equation
pub by_cases : {A : Type 0} (b : Bool) → (b ≡ true → A) → (b ≡ false → A) → A
by_cases true t e = t refl
by_cases false t e = e refl

-- below, or not
pub by_order : {A : Type 0} (k n : ℕ) → (k < n → A) → (n ≤ k → A) → A
by_order k n l g = by_cases (ltb k n) (λ e. l (ltb-true k n e)) (λ e. g (ltb-false k n e))

-- ---- facts and values

pub holds_true : (f x : ℕ) → holds f x ≡ true → Holds f x
holds_true zero x h = tt
holds_true (suc k) x h = eqb-true x k h

pub true_holds : (f x : ℕ) → Holds f x → holds f x ≡ true
true_holds zero x h = refl
true_holds (suc k) x h = eq-eqb x k h

-- where nothing is said the value stays
pub put_rest : (x : ℕ) → put zero x ≡ x
put_rest x = omega arith

pub put_below : (f x d : ℕ) → f ≤ d → x < d → put f x < d
put_below zero x d h l = rw (put_rest x) l
put_below (suc k) x d h l = h

pub put_holds : (f x : ℕ) → Holds f (put f x)
put_holds zero x = tt
put_holds (suc k) x = refl

-- ---- tests over all variables

pub and_left : (a b : Bool) → (a && b) ≡ true → a ≡ true
and_left true b h = refl
and_left false b h = h

pub and_right : (a b : Bool) → (a && b) ≡ true → b ≡ true
and_right true b h = h
and_right false b h = absurd (false≢true h)

pub every_true : (f : ℕ → Bool) (k : ℕ) → every f k ≡ true → (v : ℕ) → v < k → f v ≡ true
every_true f zero h v l = absurd (not-suc-le-zero l)
every_true f (suc k) h v l = ⊎_elim
    (λ e. subst (λ (x : ℕ). f x ≡ true) (sym e) (and_right (every f k) (f k) h))
    (λ lt. every_true f k (and_left (every f k) (f k) h) v lt)
    (eq-or-lt_of_le (le_of_suc-le-suc l))

pub true_every : (f : ℕ → Bool) (k : ℕ) → ((v : ℕ) → v < k → f v ≡ true) → every f k ≡ true
true_every f zero h = refl
true_every f (suc k) h = rw (true_every f k (λ v l. h v (omega arith)), h k (le_refl (suc k)))

-- a test that fails, fails somewhere
pub some_false : (f : ℕ → Bool) (k : ℕ) → every f k ≡ false → (v : ℕ) × (v < k) × (f v ≡ false)
some_false f zero h = absurd (false≢true (sym h))
some_false f (suc k) h =
    by_cases (every f k) (λ e. (k, omega arith, rw e at h))
    (λ e.
    let w = some_false f k e in
    (w.0, omega (arith, w.1), w.2))

pub every_same : (f g : ℕ → Bool) (k : ℕ) → ((v : ℕ) → v < k → f v ≡ g v) → every f k ≡ every g k
every_same f g zero h = refl
every_same f g (suc k) h = ap₂ ◌&&◌ (every_same f g k (λ v l. h v (omega arith))) (h k (le_refl (suc k)))

module _ (S : Sas) where
  pub complies_true : (F : Facts) (s : State) → complies S F s ≡ true → Complies S F s
  complies_true F s h v l = holds_true (F v) (s v) (every_true (λ v. holds (F v) (s v)) S.vars h v l)

  pub true_complies : (F : Facts) (s : State) → Complies S F s → complies S F s ≡ true
  true_complies F s h = true_every (λ v. holds (F v) (s v)) S.vars (λ v l. true_holds (F v) (s v) (h v l))

  pub complies_same : (F : Facts) (s t : State) → ((v : ℕ) → v < S.vars → s v ≡ t v) → complies S F s ≡ complies S F t
  complies_same F s t h = every_same (λ v. holds (F v) (s v)) (λ v. holds (F v) (t v)) S.vars (λ v l. ap (holds (F v)) (h v l))
