-- Laws of what a table of best steps advises. Assumes nothing.
use mathlib.Core.Path.{◌≡◌, sym, ap, ◌∙◌}
use mathlib.Core.Bool.{Bool}
use Prim.Native.Nat.{ℕ}
use native.Mathlib.Decide.{ℕ_discrete}
use native.Mathlib.Omega.{arith}
use borrow.Author.Tests.{ne_eqb, eq-eqb}
use Rattle.graph.specs.Best.{halt, take}
use Rattle.maps.specs.Said.{HALT, advice_if, advised}

pub advised_none : (x : ℕ) → x ≡ HALT → advised x ≡ halt
unfolding advised
advised_none x e = ap (λ (b : Bool). advice_if b x) (eq-eqb x HALT e)

pub advised_op : (x : ℕ) → (x ≡ HALT → ⊥) → advised x ≡ take x
unfolding advised
advised_op x d = ap (λ (b : Bool). advice_if b x) (ne_eqb x HALT d)

-- two numbers that advise the same are the same
pub advised_inj : (x y : ℕ) → advised x ≡ advised y → x ≡ y
advised_inj x y e = go (ℕ_discrete x HALT) (ℕ_discrete y HALT)
  where
    go : Dec (x ≡ HALT) → Dec (y ≡ HALT) → x ≡ y
    go (yes p) (yes q) = p ∙ sym q
    go (yes p) (no q) = absurd (let z : halt ≡ take y = sym (advised_none x p) ∙ e ∙ advised_op y q in let w : ◌≡◌ {A = ℕ} 0 1 = cc in omega arith)
    go (no p) (yes q) = absurd (let z : halt ≡ take x = sym (advised_none y q) ∙ sym e ∙ advised_op x p in let w : ◌≡◌ {A = ℕ} 0 1 = cc in omega arith)
    go (no p) (no q) = let z : take x ≡ take y = sym (advised_op x p) ∙ e ∙ advised_op y q in cc
