-- Laws of what a table's word tells, and of a sum of distances under way. Assumes nothing.
use mathlib.Core.Path.{◌≡◌, refl, sym, ap, ap₂, ◌∙◌}
use mathlib.Core.Bool.{true, false}
use Prim.Native.Nat.{ℕ, ◌+◌, ◌≤◌}
use native.Mathlib.Numerals.{add-one}
use Rattle.std.specs.Prelude.{Option, None, Some, Ok, ◌==◌, if◌then◌else◌}
use Rattle.graph.specs.Cost.{Cost, none}
use Rattle.meaning.specs.Bound.{join, summed}
use Rattle.meaning.proofs.Sums.{summed_stays}
use Rattle.sweep.specs.Said.{NONE, HALT, cost_if, said, advice_if, advised}
use Rattle.views.specs.Entries.{distance_said, best_said}
use Rattle.views.specs.Inside.Sums.{sum_said}

-- ---- a table's word

pub told_said : (x : ℕ) {r : Option ℕ} → r ≡ (if x == NONE then None else Some x) → sum_said r ≡ said x
unfolding said
told_said x e = ap sum_said e ∙ elim (x == NONE) as (λ b. sum_said (if b then None else Some x) ≡ cost_if b x) [ true ↦ refl | false ↦ refl ]

-- as an answer
pub distance_answer : (r : Option ℕ) → Ok r ≡ distance_said (sum_said r)
distance_answer None = refl
distance_answer (Some d) = refl

pub best_answer : (x : ℕ) {word halt : ℕ} {r : Option ℕ} → word ≡ x → halt ≡ HALT → r ≡ (if word == halt then None else Some word) → Ok r ≡ best_said (advised x)
unfolding advised
best_answer x {r = r} p q e =
    let told : r ≡ (if x == HALT then None else Some x) = e ∙ (λ i. if p i == q i then None else Some (p i)) in
    ap (λ (o : Option ℕ). Ok o) told ∙ elim (x == HALT) as (λ b. Ok (if b then None else Some x) ≡ best_said (advice_if b x)) [ true ↦ refl | false ↦ refl ]

-- ---- a sum

-- one map more
pub sum_more : (f : ℕ → Cost) (m : ℕ) (before after said : Cost) → before ≡ summed f m → said ≡ f m → after ≡ join before said → after ≡ summed f (m + 1)
sum_more f m before after said b e h = rw add-one (h ∙ ap₂ join b e)

-- settled before the last map
pub sum_settled : (f : ℕ → Cost) (m k : ℕ) → m ≤ k → none ≡ summed f m → none ≡ summed f k
sum_settled f m k l h = sym (summed_stays f m k l (sym h))
