-- Laws of tests at every number below n, of lists filled place by place, and of facts: what a counting loop asks, one turn more and the end.
-- Assumes nothing.
use Prim.Native.Nat.{ℕ, zero, suc, ◌+◌, ◌-◌, ◌≤◌, ◌<◌}
use mathlib.Core.Path.{◌≡◌, refl, ap, ap₂, sym, ◌∙◌}
use mathlib.Core.List.{List}
use mathlib.Core.Bool.{Bool, true, false, and-false}
use mathlib.Core.Logic.{◌⊎◌, ⊎_elim}
use native.Mathlib.Numerals.{add-one}
use native.Mathlib.Omega.{arith}
use lib.Dec.{ltb, leb, eqb}
use lib.ListN.{length, get_or, set, length-set}
use lib.Seq.{get_or-set_same, get_or-set_other}
use borrow.Author.Tests.{ltb-true, ltb-false, eqb-true, eqb-false, eq-eqb, ne_eqb, leb-true, leb-false, le-leb, lt-leb}
use Rattle.meaning.specs.Sas.{put}
use Rattle.meaning.specs.Views.{holds, every}
use Rattle.meaning.proofs.Facts.{by_cases}
use Rattle.tables.specs.Steps.{overwritten}

-- from two constructors that are said to be equal
pub never : {A : Type 0} → ◌≡◌ {A = ℕ} 0 1 → A
never p = absurd (let n : ⊥ = omega arith in n)

-- ---- a test at every number below n

pub every_more : (f : ℕ → Bool) (n : ℕ) → every f n ≡ true → f n ≡ true → every f (n + 1) ≡ true
every_more f n p q = rw add-one (rw p q)

pub every_end : (f : ℕ → Bool) (n k : ℕ) → every f k ≡ true → k ≤ n → n ≤ k → true ≡ every f n
every_end f n k p h g =
    let q : k ≡ n = omega arith in
    sym p ∙ ap (every f) q

pub every_false : (f : ℕ → Bool) (n k : ℕ) → k < n → f k ≡ false → every f n ≡ false
every_false f zero k h p = absurd (let z : ⊥ = omega arith in z)
every_false f (suc n) k h p =
    by_cases (ltb k n) (λ e. rw (every_false f n k (ltb-true k n e) p) refl)
    (λ e.
    let q : k ≡ n = omega (arith, ltb-false k n e) in
    rw (sym (ap f q) ∙ p) (and-false (every f n)))

-- a walk that stops where the test fails, and else at n, came to n exactly if the test holds at every number below n
pub every_walked : (f : ℕ → Bool) (n k : ℕ) → every f k ≡ true → k ≤ n → ((k < n) × (f k ≡ false)) ⊎ (n ≤ k) → eqb k n ≡ every f n
every_walked f n k p h =
    ⊎_elim (λ w. ne_eqb k n (λ e. omega (arith, w.0)) ∙ sym (every_false f n k w.0 w.1))
    (λ g. eq-eqb k n (omega arith) ∙ every_end f n k p h g)

-- ---- a list filled place by place

pub filled_next : (f : ℕ → ℕ) (l t : List ℕ) (m x : ℕ) → t ≡ overwritten f l m → x ≡ f m → set t m x ≡ overwritten f l (m + 1)
unfolding overwritten
filled_next f l t m x p q = rw (add-one, p, q) refl

pub filled_end : (f : ℕ → ℕ) (l t : List ℕ) (n k : ℕ) → t ≡ overwritten f l k → k ≤ n → n ≤ k → t ≡ overwritten f l n
filled_end f l t n k p h g =
    let q : k ≡ n = omega arith in
    p ∙ ap (overwritten f l) q

pub filled_same : (f g : ℕ → ℕ) (l : List ℕ) (n : ℕ) → ((k : ℕ) → k < n → f k ≡ g k) → overwritten f l n ≡ overwritten g l n
unfolding overwritten
filled_same f g l zero h = refl
filled_same f g l (suc n) h =
    ap₂ (λ (t : List ℕ) (x : ℕ). set t n x) (filled_same f g l n (λ k b. h k (omega arith))) (h n (omega arith))

pub length_filled : (f : ℕ → ℕ) (l : List ℕ) (n : ℕ) → length (overwritten f l n) ≡ length l
unfolding overwritten
length_filled f l zero = refl
length_filled f l (suc n) = length-set (overwritten f l n) n (f n) ∙ length_filled f l n

pub filled_later : (f : ℕ → ℕ) (l : List ℕ) (n k : ℕ) → n ≤ k → get_or (overwritten f l n) k 0 ≡ get_or l k 0
unfolding overwritten
filled_later f l zero k h = refl
filled_later f l (suc n) k h =
    get_or-set_other (overwritten f l n) n k (f n) 0 (λ e. omega arith) ∙ filled_later f l n k (omega arith)

-- what stands at the place of the next turn is still the old value
pub filled_still : (f : ℕ → ℕ) (l t : List ℕ) (m : ℕ) → t ≡ overwritten f l m → get_or t m 0 ≡ get_or l m 0
filled_still f l t m p = ap (λ (x : List ℕ). get_or x m 0) p ∙ filled_later f l m m (omega arith)

pub filled_at : (f : ℕ → ℕ) (l : List ℕ) (n k : ℕ) → k < n → k < length l → get_or (overwritten f l n) k 0 ≡ f k
unfolding overwritten
filled_at f l zero k h b = omega arith
filled_at f l (suc n) k h b =
    by_cases (eqb k n)
    (λ e.
    let q : k ≡ n = eqb-true k n e in
    rw q (get_or-set_same (overwritten f l n) n (f n) 0 (omega (arith, length_filled f l n))))
    (λ e.
    get_or-set_other (overwritten f l n) n k (f n) 0 (eqb-false k n e)
    ∙ filled_at f l n k (omega (arith, eqb-false k n e)) b)

-- ---- a fact that says something: one more than its value

pub holds_said : (f x : ℕ) → (f ≡ 0 → ⊥) → eqb x (f - 1) ≡ holds f x
holds_said zero x h = absurd (h refl)
holds_said (suc k) x h = let q : suc k - 1 ≡ k = omega arith in ap (eqb x) q

pub put_said : (f x : ℕ) → (f ≡ 0 → ⊥) → f - 1 ≡ put f x
put_said zero x h = absurd (h refl)
put_said (suc k) x h = omega arith

-- ---- what is left of a quota

pub left_enough : (n m q : ℕ) → n ≤ q → leb m (q - n) ≡ leb (n + m) q
left_enough n m q h =
    by_cases (leb (n + m) q) (λ e. le-leb m (q - n) (omega (arith, leb-true (n + m) q e)) ∙ sym e)
    (λ e. lt-leb m (q - n) (omega (arith, leb-false (n + m) q e)) ∙ sym e)
