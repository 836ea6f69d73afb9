-- A rule over numbers says the same where the numbers are the same: the class rule, the count of abstract states, a split's total, a walk of rules.
-- By induction on how many numbers there are. Assumes nothing.
use Prim.Native.Nat.{ℕ, zero, suc, ◌+◌, ◌*◌, ◌≤◌, ◌<◌, max}
use native.Mathlib.Omega.{arith}
use mathlib.Core.Path.{◌≡◌, refl, ap, ap₂, ◌∙◌}
use mathlib.Core.Bool.{Bool, ◌||◌}
use lib.Dec.{eqb}
use Rattle.scan.specs.Found.{Found}
use Rattle.meaning.specs.Numbering.{size}
use Rattle.meaning.specs.Views.{every}
use Rattle.meaning.specs.Split.{count_of, sum}
use Rattle.meaning.proofs.Facts.{every_same}
use Rattle.scan.specs.Scan.{◌then◌, each}
use Rattle.tables.specs.Classes.{some_has, none_missing}

-- two rows of numbers that agree in the first n
abbrev pub Same : (ℕ → ℕ) → (ℕ → ℕ) → ℕ → Type 0
Same f g n = (x : ℕ) → x < n → f x ≡ g x

module _ (f g : ℕ → ℕ) where
  some_has_same : (n c : ℕ) → Same f g n → some_has f n c ≡ some_has g n c
  some_has_same zero c h = refl
  some_has_same (suc n) c h =
      ap₂ (λ (a : Bool) (x : ℕ). a || eqb x c) (some_has_same n c (λ x l. h x (omega arith))) (h n (omega arith))

  pub count_same : (n : ℕ) → Same f g n → count_of f n ≡ count_of g n
  count_same zero h = refl
  count_same (suc n) h = ap₂ (λ (a x : ℕ). max a (suc x)) (count_same n (λ x l. h x (omega arith))) (h n (omega arith))

  pub missing_same : (n : ℕ) → Same f g n → none_missing f n ≡ none_missing g n
  missing_same n h =
      ap (every (some_has f n)) (count_same n h) ∙ every_same (some_has f n) (some_has g n) (count_of g n) (λ c l. some_has_same n c h)

  pub size_same : (n : ℕ) → Same f g n → size f n ≡ size g n
  size_same zero h = refl
  size_same (suc n) h = ap₂ (λ (a x : ℕ). a * x) (size_same n (λ x l. h x (omega arith))) (h n (omega arith))

  pub sum_same : (n : ℕ) → Same f g n → sum f n ≡ sum g n
  sum_same zero h = refl
  sum_same (suc n) h = ap₂ (λ (a x : ℕ). a + x) (sum_same n (λ x l. h x (omega arith))) (h n (omega arith))

pub each_same : (f g : ℕ → Found) (n i : ℕ) → ((j : ℕ) → i ≤ j → j < i + n → f j ≡ g j) → each f n i ≡ each g n i
unfolding each
each_same f g zero i h = refl
each_same f g (suc n) i h =
    ap₂ (λ (a b : Found). a then b) (h i (omega arith) (omega arith)) (each_same f g n (suc i) (λ j a b. h j (omega arith) (omega arith)))
