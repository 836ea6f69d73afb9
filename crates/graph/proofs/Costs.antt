-- Laws of costs: what is below what. Assumes nothing.
use mathlib.Core.Path.{◌≡◌, refl, sym, ap, subst}
use mathlib.Core.Logic.{◌⊎◌, inl, inr}
use Prim.Native.Nat.{ℕ, ◌+◌, ◌≤◌}
use native.Mathlib.Nat.{le_refl, le_antisymm}
use native.Mathlib.Decide.{dec_le, ℕ_discrete}
use native.Mathlib.Omega.{arith}
use Rattle.graph.specs.Cost.{Cost, none, fin, ◌⊑◌, plus, lower}

pub ⊑_mono : (v : Cost) (c d : ℕ) → v ⊑ c → c ≤ d → v ⊑ d
⊑_mono none c d h l = h
⊑_mono (fin x) c d h l = omega arith

pub ⊑_fin : (v : Cost) (c : ℕ) → v ⊑ c → (d : ℕ) × (v ≡ fin d) × (d ≤ c)
⊑_fin none c h = absurd h
⊑_fin (fin x) c h = (x, refl, h)

pub ⊑_ext : (v w : Cost) → ((c : ℕ) → v ⊑ c → w ⊑ c) → ((c : ℕ) → w ⊑ c → v ⊑ c) → v ≡ w
⊑_ext none none f g = refl
⊑_ext none (fin b) f g = absurd (g b (le_refl b))
⊑_ext (fin a) none f g = absurd (f a (le_refl a))
⊑_ext (fin a) (fin b) f g = ap fin (le_antisymm (g b (le_refl b)) (f a (le_refl a)))

-- the lower of two is at most what the one or the other is at most, and nothing else
pub lower_left : (v w : Cost) (c : ℕ) → v ⊑ c → lower v w ⊑ c
lower_left none w c h = absurd h
lower_left (fin a) none c h = h
lower_left (fin a) (fin b) c h = omega arith

pub lower_right : (v w : Cost) (c : ℕ) → w ⊑ c → lower v w ⊑ c
lower_right none w c h = h
lower_right (fin a) none c h = absurd h
lower_right (fin a) (fin b) c h = omega arith

pub lower_cases : (v w : Cost) (c : ℕ) → lower v w ⊑ c → (v ⊑ c) ⊎ (w ⊑ c)
lower_cases none w c h = inr h
lower_cases (fin a) none c h = inl h
lower_cases (fin a) (fin b) c h = elim (dec_le a c) [ yes l ↦ inl l | no l ↦ inr (omega (arith, h)) ]

pub plus_intro : (k : ℕ) (v : Cost) (d : ℕ) → v ⊑ d → plus k v ⊑ k + d
plus_intro k none d h = absurd h
plus_intro k (fin x) d h = omega arith

pub fin_inj : (a b : ℕ) → fin a ≡ fin b → a ≡ b
fin_inj a b e = cc

-- none is below no number
pub ⊑_none : (v : Cost) → v ≡ none → (c : ℕ) → v ⊑ c → ⊥
⊑_none v e c h = subst (λ (w : Cost). w ⊑ c) e h

pub cost_dec : (v w : Cost) → Dec (v ≡ w)
cost_dec none none = yes refl
cost_dec none (fin b) = no (λ e. ⊑_none (fin b) (sym e) b (le_refl b))
cost_dec (fin a) none = no (λ e. ⊑_none (fin a) e a (le_refl a))
cost_dec (fin a) (fin b) = elim (ℕ_discrete a b) [ yes e ↦ yes (ap fin e) | no d ↦ no (λ e. d (fin_inj a b e)) ]
