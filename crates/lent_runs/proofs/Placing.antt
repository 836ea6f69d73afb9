-- Laws of a list with numbers placed in it one after another: what stands where afterwards.
-- They are of any list, so of lent bytes and lent words alike. Assumes nothing.
use Prim.Native.Nat.{ℕ, zero, suc, ◌+◌, ◌≤◌, ◌<◌}
use mathlib.Core.Path.{◌≡◌, refl, ◌∙◌}
use mathlib.Core.List.{List}
use native.Mathlib.Omega.{arith}
use lib.Dec.{eqb}
use lib.ListN.{length, get_or, length-set}
use lib.Seq.{get_or-set_same, get_or-set_other, set-get_or}
use borrow.Author.Tests.{eqb-true, eqb-false}
use Rattle.meaning.proofs.Facts.{by_cases}
use Rattle.lent_runs.specs.Lent.{placed}

pub length_placed : (f : ℕ → ℕ) (j : ℕ) (l : List ℕ) (n : ℕ) → length (placed f j l n) ≡ length l
unfolding placed
length_placed f j l zero = refl
length_placed f j l (suc n) = length-set (placed f j l n) (j + n) (f n) ∙ length_placed f j l n

-- a place that none of the turns writes is as it was
pub placed_other : (f : ℕ → ℕ) (j : ℕ) (l : List ℕ) (n k : ℕ) → ((i : ℕ) → i < n → k ≡ j + i → ⊥)
    → get_or (placed f j l n) k 0 ≡ get_or l k 0
unfolding placed
placed_other f j l zero k h = refl
placed_other f j l (suc n) k h =
    get_or-set_other (placed f j l n) (j + n) k (f n) 0 (h n (omega arith))
    ∙ placed_other f j l n k (λ i b. h i (omega arith))

pub placed_at : (f : ℕ → ℕ) (j : ℕ) (l : List ℕ) (n i : ℕ) → i < n → j + n ≤ length l → get_or (placed f j l n) (j + i) 0 ≡ f i
unfolding placed
placed_at f j l zero i h b = omega arith
placed_at f j l (suc n) i h b =
    by_cases (eqb i n)
    (λ e.
    let q : i ≡ n = eqb-true i n e in
    rw q (get_or-set_same (placed f j l n) (j + n) (f n) 0 (omega (arith, length_placed f j l n))))
    (λ e.
    get_or-set_other (placed f j l n) (j + n) (j + i) (f n) 0 (λ q. eqb-false i n e (omega arith))
    ∙ placed_at f j l n i (omega (arith, eqb-false i n e)) (omega arith))

pub placed_same : (f g : ℕ → ℕ) (j : ℕ) (l : List ℕ) (n : ℕ) → ((i : ℕ) → i < n → f i ≡ g i) → placed f j l n ≡ placed g j l n
unfolding placed
placed_same f g j l zero h = refl
placed_same f g j l (suc n) h = rw (placed_same f g j l n (λ i b. h i (omega arith)), h n (omega arith)) refl

-- placing what stands there already changes nothing
pub placed_self : (f : ℕ → ℕ) (j : ℕ) (l : List ℕ) (n : ℕ) → ((i : ℕ) → i < n → f i ≡ get_or l (j + i) 0) → placed f j l n ≡ l
unfolding placed
placed_self f j l zero h = refl
placed_self f j l (suc n) h = rw (placed_self f j l n (λ i b. h i (omega arith)), h n (omega arith)) (set-get_or l (j + n) 0)
