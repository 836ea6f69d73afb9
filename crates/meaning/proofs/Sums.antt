-- Laws of sums, and of the summed bound's sum: it says none exactly if some term does, is else the sum of their numbers, and is below what its terms
-- are below. The rooms above cite these laws, and not what `join` does with its cases. Assumes nothing.
use mathlib.Core.Path.{◌≡◌, refl, sym, ap, ap₂, ◌∙◌, subst}
use mathlib.Core.Logic.{◌⊎◌, inl, inr, ⊎_elim}
use Prim.Native.Nat.{ℕ, zero, suc, ◌+◌, ◌*◌, ◌≤◌, ◌<◌}
use native.Mathlib.Nat.{le_refl, le_of_suc-le-suc, not-suc-le-zero, eq-or-lt_of_le}
use native.Mathlib.Omega.{arith}
use Rattle.graph.specs.Cost.{Cost, none, fin, ◌⊑◌}
use Rattle.graph.proofs.Costs.{⊑_mono, ⊑_fin, ⊑_none}
use Rattle.meaning.specs.Split.{sum}
use Rattle.meaning.specs.Bound.{join, summed}

-- ---- sums of numbers

pub sum_add : (f g : ℕ → ℕ) (k : ℕ) → sum (λ m. f m + g m) k ≡ sum f k + sum g k
sum_add f g zero = refl
sum_add f g (suc k) = omega (arith, sum_add f g k)

pub sum_zero : (k : ℕ) → sum (λ m. 0) k ≡ 0
sum_zero zero = refl
sum_zero (suc k) = omega (arith, sum_zero k)

pub sum_above : (f : ℕ → ℕ) (k m : ℕ) → m < k → f m ≤ sum f k
sum_above f zero m l = absurd (not-suc-le-zero l)
sum_above f (suc k) m l = ⊎_elim
    (λ e. subst (λ (x : ℕ). f x ≤ sum f (suc k)) (sym e) (omega arith))
    (λ lt. omega (arith, sum_above f k m lt))
    (eq-or-lt_of_le (le_of_suc-le-suc l))

pub sum_most : (f : ℕ → ℕ) (n k : ℕ) → ((m : ℕ) → m < k → f m ≤ n) → sum f k ≤ k * n
sum_most f n zero h = omega arith
sum_most f n (suc k) h = omega (arith, sum_most f n k (λ m l. h m (omega arith)), h k (le_refl (suc k)))

-- ---- one term more

pub none_join : (w : Cost) → join none w ≡ none
none_join w = refl

pub join_none : (v : Cost) → join v none ≡ none
join_none none = refl
join_none (fin a) = refl

pub join_numbers : (a b : ℕ) → join (fin a) (fin b) ≡ fin (a + b)
join_numbers a b = refl

no_number : (x : ℕ) → fin x ≡ none → ⊥
no_number x h = ⊑_none (fin x) h x (le_refl x)

join_some : (v w : Cost) → join v w ≡ none → (v ≡ none) ⊎ (w ≡ none)
join_some none w h = inl refl
join_some (fin a) none h = inr refl
join_some (fin a) (fin b) h = absurd (no_number (a + b) h)

join_below : (v w : Cost) (a b : ℕ) → v ⊑ a → w ⊑ b → join v w ⊑ a + b
join_below none w a b h g = absurd h
join_below (fin x) none a b h g = absurd g
join_below (fin x) (fin y) a b h g = omega arith

-- ---- sums of costs

-- one map that says none settles it ..
pub none_summed : (d : ℕ → Cost) (k m : ℕ) → m < k → d m ≡ none → summed d k ≡ none
none_summed d zero m l e = absurd (not-suc-le-zero l)
none_summed d (suc k) m l e = ⊎_elim
    (λ s. ap (join (summed d k)) (ap d (sym s) ∙ e) ∙ join_none (summed d k))
    (λ lt. ap (λ v. join v (d k)) (none_summed d k m lt e) ∙ none_join (d k))
    (eq-or-lt_of_le (le_of_suc-le-suc l))

-- .. and nothing else does
pub summed_none : (d : ℕ → Cost) (k : ℕ) → summed d k ≡ none → (m : ℕ) × (m < k) × (d m ≡ none)
summed_none d zero h = absurd (no_number 0 h)
summed_none d (suc k) h = ⊎_elim
    (λ e. let t = summed_none d k e in (t.0, omega (arith, t.1), t.2))
    (λ e. (k, le_refl (suc k), e))
    (join_some (summed d k) (d k) h)

-- what is settled stays so
pub summed_stays : (d : ℕ → Cost) (k n : ℕ) → k ≤ n → summed d k ≡ none → summed d n ≡ none
summed_stays d k n l h = let t = summed_none d k h in none_summed d n t.0 (omega (arith, t.1)) t.2

-- numbers are added
pub numbers_summed : (d : ℕ → Cost) (c : ℕ → ℕ) (k : ℕ) → ((m : ℕ) → m < k → d m ≡ fin (c m)) → summed d k ≡ fin (sum c k)
numbers_summed d c zero h = refl
numbers_summed d c (suc k) h = ap₂ join (numbers_summed d c k (λ m l. h m (omega arith))) (h k (le_refl (suc k))) ∙ join_numbers (sum c k) (c k)

-- the number that a cost is, where it is one
abbrev number_in : Cost → ℕ
number_in none = 0
number_in (fin a) = a

is_number : (v : Cost) → (v ≡ none → ⊥) → v ≡ fin (number_in v)
is_number none h = absurd (h refl)
is_number (fin a) h = refl

-- a sum that is a number is one of numbers
pub summed_number : (d : ℕ → Cost) (k x : ℕ) → summed d k ≡ fin x → (c : ℕ → ℕ) × ((m : ℕ) → m < k → d m ≡ fin (c m)) × (x ≡ sum c k)
summed_number d k x h =
    let c : ℕ → ℕ = λ m. number_in (d m) in
    let each : (m : ℕ) → m < k → d m ≡ fin (c m) = λ m l. is_number (d m) (λ e. no_number x (sym h ∙ none_summed d k m l e)) in
    (c, each, ap number_in (sym h ∙ numbers_summed d c k each))

pub summed_below : (d : ℕ → Cost) (c : ℕ → ℕ) (k : ℕ) → ((m : ℕ) → m < k → d m ⊑ c m) → summed d k ⊑ sum c k
summed_below d c zero h = omega arith
summed_below d c (suc k) h =
    join_below (summed d k) (d k) (sum c k) (c k) (summed_below d c k (λ m l. h m (omega arith))) (h k (le_refl (suc k)))

-- equal terms have one sum
pub summed_same : (d e : ℕ → Cost) (k : ℕ) → ((m : ℕ) → m < k → d m ≡ e m) → summed d k ≡ summed e k
summed_same d e zero h = refl
summed_same d e (suc k) h = ap₂ join (summed_same d e k (λ m l. h m (omega arith))) (h k (le_refl (suc k)))

-- where each term falls by at most its part, the sum falls by at most the parts together
pub summed_falls : (d e : ℕ → Cost) (p : ℕ → ℕ) (k : ℕ) → ((m : ℕ) → m < k → (c : ℕ) → e m ⊑ c → d m ⊑ p m + c)
    → (c : ℕ) → summed e k ⊑ c → summed d k ⊑ sum p k + c
summed_falls d e p k h c below =
    let total = ⊑_fin (summed e k) c below in
    let terms = summed_number e k total.0 total.1 in
    let q : ℕ → ℕ = terms.0 in
    ⊑_mono (summed d k) (sum (λ m. p m + q m) k) (sum p k + c)
    (summed_below d (λ m. p m + q m) k (λ m l. h m l (q m) (subst (λ (v : Cost). v ⊑ q m) (sym (terms.1 m l)) (le_refl (q m)))))
    (omega (arith, sum_add p q k, total.2, terms.2))
