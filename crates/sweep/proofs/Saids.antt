-- Laws of what a number of a table says. Assumes nothing.
use mathlib.Core.Path.{◌≡◌, refl, sym, ap, ◌∙◌}
use mathlib.Core.Bool.{Bool}
use mathlib.Core.List.{List}
use Prim.Native.Nat.{ℕ, ◌+◌, ◌≤◌, ◌<◌}
use native.Mathlib.Decide.{ℕ_discrete}
use native.Mathlib.Omega.{arith}
use lib.Dec.{ltb}
use lib.ListN.{get_or}
use borrow.Author.Tests.{ne_eqb, eq-eqb, lt-ltb, le-ltb}
use Rattle.graph.specs.Cost.{none, fin, lower, plus}
use Rattle.graph.specs.Graph.{Next, stop, to}
use Rattle.graph.specs.Least.{after_step}
use Rattle.graph.specs.Noted.{under}
use Rattle.sweep.specs.Said.{NONE, cost_if, said, said_at}
use Rattle.sweep.specs.Inside.Sweeps.{most_addable, Addable}

pub said_none : (x : ℕ) → x ≡ NONE → said x ≡ none
unfolding said
said_none x e = ap (λ (b : Bool). cost_if b x) (eq-eqb x NONE e)

pub said_fin : (x : ℕ) → (x ≡ NONE → ⊥) → said x ≡ fin x
unfolding said
said_fin x d = ap (λ (b : Bool). cost_if b x) (ne_eqb x NONE d)

pub said_lt : (x : ℕ) → x < NONE → said x ≡ fin x
said_lt x l = said_fin x (omega arith)

-- two numbers that say the same are the same
pub said_inj : (x y : ℕ) → said x ≡ said y → x ≡ y
said_inj x y e = go (ℕ_discrete x NONE) (ℕ_discrete y NONE)
  where
    go : Dec (x ≡ NONE) → Dec (y ≡ NONE) → x ≡ y
    go (yes p) (yes q) = p ∙ sym q
    go (yes p) (no q) =
        let z : none ≡ fin y = sym (said_none x p) ∙ e ∙ said_fin y q in
        let w : ◌≡◌ {A = ℕ} 0 1 = cc in
        omega arith
    go (no p) (yes q) =
        let z : none ≡ fin x = sym (said_none y q) ∙ sym e ∙ said_fin x p in
        let w : ◌≡◌ {A = ℕ} 0 1 = cc in
        omega arith
    go (no p) (no q) = let z : fin x ≡ fin y = sym (said_fin x p) ∙ e ∙ said_fin y q in cc

-- ---- a price and what it costs beyond

pub price_none : (price beyond : ℕ) → beyond ≡ NONE → said NONE ≡ plus price (said beyond)
price_none price beyond e = said_none NONE refl ∙ ap (plus price) (sym (said_none beyond e))

pub price_added : (price beyond : ℕ) → beyond < NONE → price + beyond < NONE → said (price + beyond) ≡ plus price (said beyond)
price_added price beyond l s = said_lt (price + beyond) s ∙ ap (plus price) (sym (said_lt beyond l))

-- ---- the order of numbers is that of what they say

module _ (x y : ℕ) (most : y ≤ NONE) where
  pub lower_said : x ≤ y → (lower (said y) (said x) ≡ said x) × (lower (said x) (said y) ≡ said x)
  lower_said l = go (ℕ_discrete x NONE) (ℕ_discrete y NONE)
    where
      go : Dec (x ≡ NONE) → Dec (y ≡ NONE) → (lower (said y) (said x) ≡ said x) × (lower (said x) (said y) ≡ said x)
      go (yes i) j = let k : y ≡ NONE = omega arith in rw (said_none x i, said_none y k) (refl, refl)
      go (no i) (yes j) = rw (said_fin x i, said_none y j) (refl, refl)
      go (no i) (no j) = rw (said_fin x i, said_fin y j) (ap fin (omega arith), ap fin (omega arith))

  pub under_said : x ≤ NONE → (b : Bool) → ltb x y ≡ b → under (said x) (said y) ≡ b
  under_said k b e = go (ℕ_discrete x NONE) (ℕ_discrete y NONE)
    where
      go : Dec (x ≡ NONE) → Dec (y ≡ NONE) → under (said x) (said y) ≡ b
      go (yes i) j = rw (said_none x i) (sym (le-ltb x y (omega arith)) ∙ e)
      go (no i) (yes j) = rw (said_fin x i, said_none y j) (sym (lt-ltb x y (omega arith)) ∙ e)
      go (no i) (no j) = rw (said_fin x i, said_fin y j) e

-- ---- one operator

-- where a step leads to one of the states of a table, a number found there is small enough for one price more
pub beyond_within : (n : ℕ) (old : List ℕ) (s : Next) (v : ℕ) → Addable n old → ((b : ℕ) → s ≡ to b → b < n)
    → said v ≡ after_step (said_at old) s → v < NONE → v ≤ most_addable
beyond_within n old stop v h i e l =
    let z : none ≡ fin v = sym e ∙ said_lt v l in
    let w : ◌≡◌ {A = ℕ} 0 1 = cc in
    omega arith
beyond_within n old (to b) v h i e l =
    let q : v ≡ get_or old b 0 = said_inj v (get_or old b 0) e in
    omega (arith, h b (i b refl) (omega arith))
