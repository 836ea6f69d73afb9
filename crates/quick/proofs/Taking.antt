-- Laws of the state that is taken next: the least key names a state that waits; taken, its weight falls, so that the sum of weights does and the run ends; and where
-- the least key is none, nobody waits. Assumes nothing.
use mathlib.Core.Path.{◌≡◌, refl, sym, ap, subst}
use mathlib.Core.Logic.{⊎_elim}
use mathlib.Core.Bool.{true, false}
use mathlib.Core.List.{List}
use Prim.Native.Nat.{ℕ, zero, suc, ◌%◌, ◌≤◌, ◌<◌}
use native.Mathlib.Nat.{le_of_suc-le-suc, not-suc-le-zero, eq-or-lt_of_le}
use native.Mathlib.Decide.{ℕ_discrete}
use native.Mathlib.Omega.{arith}
use borrow.Author.Tests.{lt-ltb, le-ltb}
use lib.Dec.{ltb}
use lib.ListN.{get_or}
use Rattle.graph.specs.Graph.{Graph}
use Rattle.meaning.specs.Limits.{most_states}
use Rattle.meaning.specs.Split.{sum}
use Rattle.waiting.specs.Trees.{NOKEY, lowest, leaf, Leafed}
use Rattle.waiting.proofs.Trees.{root_below, root_leaf}
use Rattle.quick.specs.Inside.Runs.{Run, Every, Nothing, bit_if, weight, Fell}
use Rattle.quick.specs.Inside.Works.{Held}
use Rattle.quick.proofs.Running.{taken_run}

sum_le : (f g : ℕ → ℕ) (n : ℕ) → ((a : ℕ) → f a ≤ g a) → sum f n ≤ sum g n
sum_le f g zero h = omega arith
sum_le f g (suc n) h = omega (arith, sum_le f g n h, h n)

-- where one term is less and none is more, so is the sum
sum_lt : (f g : ℕ → ℕ) (n b : ℕ) → ((a : ℕ) → f a ≤ g a) → b < n → f b < g b → sum f n < sum g n
sum_lt f g zero b h l s = absurd (not-suc-le-zero l)
sum_lt f g (suc n) b h l s = ⊎_elim
    (λ e. let z : f n < g n = subst (λ (y : ℕ). f y < g y) e s in omega (arith, sum_le f g n h))
    (λ lt. omega (arith, sum_lt f g n b h lt s, h n))
    (eq-or-lt_of_le (le_of_suc-le-suc l))

module _ (L : List ℕ) {t t' : List ℕ} {b : ℕ} (f : Leafed b NOKEY t t') (w : leaf t b < NOKEY) where
  taken_less : weight L t' b < weight L t b
  unfolding weight
  taken_less =
      let x : ltb (leaf t' b) NOKEY ≡ false = le-ltb (leaf t' b) NOKEY (omega (arith, f.here)) in
      let y : ltb (leaf t b) NOKEY ≡ true = lt-ltb (leaf t b) NOKEY w in
      omega (arith, ap bit_if x, ap bit_if y)

  taken_fell : Fell L t L t'
  unfolding weight
  taken_fell a = pick (ℕ_discrete a b)
    where
      pick : Dec (a ≡ b) → weight L t' a ≤ weight L t a
      pick (yes e) = subst (λ (x : ℕ). weight L t' x ≤ weight L t x) (sym e) (omega (arith, taken_less))
      pick (no d) = let q : bit_if (ltb (leaf t' a) NOKEY) ≡ bit_if (ltb (leaf t a) NOKEY) = ap (λ (k : ℕ). bit_if (ltb k NOKEY)) (f.others a d) in omega arith

module _ {G : Graph} {b₀ : ℕ} {L t β : List ℕ} (R : Run G G.states b₀ Nothing L t β) (few : G.states ≤ most_states) {key : ℕ} (is : key ≡ lowest t 0 16) where
  pub none_waits : NOKEY ≤ key → (a : ℕ) → a < most_states → NOKEY ≤ leaf t a
  none_waits l a h = omega (arith, root_below t R.tree a h)

  module _ (l : key < NOKEY) where
    -- the least key is that of a state that waits
    pub next_waits : (key % 4096 < G.states) × (leaf t (key % 4096) < NOKEY)
    next_waits =
        let r = root_leaf t R.tree (omega arith) in
        let a = r.0 in
        let w : leaf t a < NOKEY = omega (arith, r.2) in
        let inside = R.waits a r.1 w in
        let e : key % 4096 ≡ a = omega (arith, r.2, r.1, R.shaped a inside w) in
        subst (λ (x : ℕ). (x < G.states) × (leaf t x < NOKEY)) (sym e) (inside, w)

    module _ {t' : List ℕ} (f : Leafed (key % 4096) NOKEY t t') where
      pub next_held : Held (key % 4096) (get_or L (key % 4096) 0) L t'
      next_held =
          let n = next_waits in
          record { is = refl; finite = omega (arith, R.shaped (key % 4096) n.0 n.1, n.1); done = omega (arith, f.here) }

      pub next_run : Run G G.states (key % 4096) Every L t' β
      next_run = taken_run R f

      pub next_less : (L'' t'' : List ℕ) → Fell L t' L'' t'' → sum (weight L'' t'') G.states < sum (weight L t) G.states
      next_less L'' t'' g =
          let n = next_waits in
          let b = key % 4096 in
          sum_lt (weight L'' t'') (weight L t) G.states b (λ a. omega (arith, g a, taken_fell L f n.1 a)) n.0 (omega (arith, g b, taken_less L f n.1))
