-- How large a least cost can be. Assumes nothing.
use mathlib.Core.Path.{◌≡◌, sym, subst}
use mathlib.Core.Logic.{⊎_elim}
use mathlib.Core.List.{List, [], ◌∷◌}
use Prim.Native.Nat.{ℕ, zero, suc, ◌*◌, ◌-◌, ◌≤◌, ◌<◌, zero-le}
use native.Mathlib.Nat.{le_of_suc-le-suc, not-suc-le-zero, eq-or-lt_of_le, suc-mul, mul-le-mul_right}
use native.Mathlib.Omega.{arith}
use lib.ListN.{length}
use Rattle.graph.specs.Cost.{fin}
use Rattle.graph.specs.Graph.{Graph, Closed, Leads, total, IsLeast, AnyLength, greatest}
use Rattle.graph.specs.Least.{least}
use Rattle.graph.proofs.Steps.{onward_elim}
use Rattle.graph.proofs.Leasts.{least_is_least, least_unique}
use Rattle.graph.proofs.Settles.{any_length, settled}

module _ (G : Graph) (K : ℕ) (small : (o : ℕ) → o < G.ops → G.cost o ≤ K) where
  total_most : (os : List ℕ) (a : ℕ) → Leads G os a → total G os ≤ length os * K
  unfolding Leads
  total_most [] a h = zero-le
  total_most (o ∷ os) a h =
      let s = onward_elim (Leads G os) (G.succ o a) h.1 in
      omega (arith, suc-mul (length os) K, small o h.0, total_most os s.0 s.2)

  pub least_most : (i a d : ℕ) → least G i a ≡ fin d → d ≤ i * K
  least_most i a d e =
      let t = (least_is_least G i a).attained d e in
      omega (arith, t.3, total_most t.0 a t.2, mul-le-mul_right K t.1)

  -- the longest distance
  pub distance_most : Closed G → 1 ≤ G.states → (a d : ℕ) → a < G.states → IsLeast G AnyLength a (fin d) → d ≤ (G.states - 1) * K
  distance_most closed p a d l h =
      let s : suc (G.states - 1) ≡ G.states = omega arith in
      let e : (b : ℕ) → b < G.states → least G (suc (G.states - 1)) b ≡ least G (G.states - 1) b = settled G closed (G.states - 1) (omega arith) in
      least_most (G.states - 1) a d (least_unique G AnyLength a (least G (G.states - 1) a) (fin d) (any_length G closed (G.states - 1) e a l) h)

-- each of the first k costs is at most the greatest of them
pub greatest_above : (c : ℕ → ℕ) (k o : ℕ) → o < k → c o ≤ greatest c k
greatest_above c zero o l = absurd (not-suc-le-zero l)
greatest_above c (suc k) o l =
    ⊎_elim
    (λ e. subst (λ (x : ℕ). c x ≤ greatest c (suc k)) (sym e) (omega arith))
    (λ lt. omega (arith, greatest_above c k o lt))
    (eq-or-lt_of_le (le_of_suc-le-suc l))
