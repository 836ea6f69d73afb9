-- Laws of what a number of a table says. Assumes nothing.
use mathlib.Core.Path.{◌≡◌, sym, ap, ◌∙◌}
use mathlib.Core.Bool.{Bool}
use Prim.Native.Nat.{ℕ, ◌<◌}
use native.Mathlib.Decide.{ℕ_discrete}
use native.Mathlib.Omega.{arith}
use borrow.Author.Tests.{ne_eqb, eq-eqb}
use Rattle.graph.specs.Cost.{none, fin}
use Rattle.maps.specs.Said.{NONE, cost_if, said}

pub said_none : (x : ℕ) → x ≡ NONE → said x ≡ none
unfolding said
said_none x e = ap (λ (b : Bool). cost_if b x) (eq-eqb x NONE e)

pub said_fin : (x : ℕ) → (x ≡ NONE → ⊥) → said x ≡ fin x
unfolding said
said_fin x d = ap (λ (b : Bool). cost_if b x) (ne_eqb x NONE d)

pub said_lt : (x : ℕ) → x < NONE → said x ≡ fin x
said_lt x l = said_fin x (omega arith)

-- two numbers that say the same are the same
pub said_inj : (x y : ℕ) → said x ≡ said y → x ≡ y
said_inj x y e = go (ℕ_discrete x NONE) (ℕ_discrete y NONE)
  where
    go : Dec (x ≡ NONE) → Dec (y ≡ NONE) → x ≡ y
    go (yes p) (yes q) = p ∙ sym q
    go (yes p) (no q) =
        let z : none ≡ fin y = sym (said_none x p) ∙ e ∙ said_fin y q in
        let w : ◌≡◌ {A = ℕ} 0 1 = cc in
        omega arith
    go (no p) (yes q) =
        let z : none ≡ fin x = sym (said_none y q) ∙ sym e ∙ said_fin x p in
        let w : ◌≡◌ {A = ℕ} 0 1 = cc in
        omega arith
    go (no p) (no q) = let z : fin x ≡ fin y = sym (said_fin x p) ∙ e ∙ said_fin y q in cc
