-- Laws of a table of best steps and of a pick: one operator more, which undercuts the cost so far or doesn't; and what is noted of it. Assumes nothing.
use mathlib.Core.Path.{◌≡◌, sym, ap, ap₂, ◌∙◌}
use mathlib.Core.Bool.{Bool, true, false}
use mathlib.Core.List.{List}
use Prim.Native.Nat.{ℕ, ◌+◌, ◌≤◌, ◌<◌}
use native.Mathlib.Decide.{ℕ_discrete}
use native.Mathlib.Omega.{arith}
use native.Mathlib.Numerals.{add-one}
use borrow.Author.Tests.{ne_eqb, eq-eqb, lt-ltb, le-ltb}
use Rattle.graph.specs.Cost.{Cost, plus, lower}
use Rattle.graph.specs.Graph.{Next, Graph}
use Rattle.graph.specs.Least.{after_step, via, best}
use Rattle.graph.specs.Best.{halt, take}
use Rattle.graph.specs.Noted.{under, choose, chosen}
use Rattle.sweep.specs.Said.{NONE, HALT, said, said_at, advice_if, advised}
use Rattle.sweep.proofs.Saids.{lower_said, under_said}

-- ---- what a number advises

pub advised_none : (x : ℕ) → x ≡ HALT → advised x ≡ halt
unfolding advised
advised_none x e = ap (λ (b : Bool). advice_if b x) (eq-eqb x HALT e)

pub advised_op : (x : ℕ) → (x ≡ HALT → ⊥) → advised x ≡ take x
unfolding advised
advised_op x d = ap (λ (b : Bool). advice_if b x) (ne_eqb x HALT d)

-- two numbers that advise the same are the same
pub advised_inj : (x y : ℕ) → advised x ≡ advised y → x ≡ y
advised_inj x y e = go (ℕ_discrete x HALT) (ℕ_discrete y HALT)
  where
    go : Dec (x ≡ HALT) → Dec (y ≡ HALT) → x ≡ y
    go (yes p) (yes q) = p ∙ sym q
    go (yes p) (no q) = absurd (let z : halt ≡ take y = sym (advised_none x p) ∙ e ∙ advised_op y q in let w : ◌≡◌ {A = ℕ} 0 1 = cc in omega arith)
    go (no p) (yes q) = absurd (let z : halt ≡ take x = sym (advised_none y q) ∙ sym e ∙ advised_op x p in let w : ◌≡◌ {A = ℕ} 0 1 = cc in omega arith)
    go (no p) (no q) = let z : take x ≡ take y = sym (advised_op x p) ∙ e ∙ advised_op y q in cc

-- ---- one operator more

-- the way by the operator, from its price and what it costs beyond
pub via_said : (G : Graph) (old : List ℕ) {a o k : ℕ} {s : Next} (v x : ℕ) → s ≡ G.succ o a → k ≡ G.cost o → said v ≡ after_step (said_at old) s
    → said x ≡ plus k (said v) → said x ≡ via G (said_at old) a o
via_said G old v x e p b h = h ∙ ap₂ plus p (b ∙ ap (after_step (said_at old)) e)

module _ (G : Graph) (T : ℕ → Cost) (a o cost op x : ℕ) (so_far : (said cost ≡ best G T a o) × (advised op ≡ chosen G T a o)) (most : cost ≤ NONE)
    (way : said x ≡ via G T a o) where
  under_best : (b : Bool) → under (said x) (said cost) ≡ b → under (via G T a o) (best G T a o) ≡ b
  under_best b u = ap₂ under (sym way) (sym so_far.0) ∙ u

  -- it undercuts the cost so far
  pub pick_taken : o < HALT → x < cost → (said x ≡ best G T a (o + 1)) × (advised o ≡ chosen G T a (o + 1))
  pick_taken small l =
      rw add-one (
        sym (lower_said x cost most (omega arith)).0 ∙ ap₂ lower so_far.0 way,
        advised_op o (λ e. omega arith)
            ∙ ap (λ (b : Bool). choose b (take o) (chosen G T a o)) (sym (under_best true (under_said x cost most (omega arith) true (lt-ltb x cost l)))),
      )

  -- it doesn't
  pub pick_kept : x ≤ NONE → cost ≤ x → (said cost ≡ best G T a (o + 1)) × (advised op ≡ chosen G T a (o + 1))
  pick_kept few l =
      rw add-one (
        sym (lower_said cost x few l).1 ∙ ap₂ lower so_far.0 way,
        so_far.1 ∙ ap (λ (b : Bool). choose b (take o) (chosen G T a o)) (sym (under_best false (under_said x cost most few false (le-ltb x cost l)))),
      )

-- ---- what is noted at a state

module _ (cost before op noted : ℕ) (most : before ≤ NONE) (few : cost ≤ NONE) where
  pub note_fallen : cost < before → advised op ≡ choose (under (said cost) (said before)) (advised op) (advised noted)
  note_fallen l = ap (λ (b : Bool). choose b (advised op) (advised noted)) (sym (under_said cost before most few true (lt-ltb cost before l)))

  pub note_kept : before ≤ cost → advised noted ≡ choose (under (said cost) (said before)) (advised op) (advised noted)
  note_kept l = ap (λ (b : Bool). choose b (advised op) (advised noted)) (sym (under_said cost before most few false (le-ltb cost before l)))
