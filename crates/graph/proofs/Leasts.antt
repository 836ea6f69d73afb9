-- The table over at most i steps holds the least over the sequences of at most i steps; a least cost is unique, and none exactly if there is no sequence.
-- Assumes nothing.
use mathlib.Core.Path.{◌≡◌, refl}
use mathlib.Core.Logic.{⊎_elim}
use mathlib.Core.List.{List, [], ◌∷◌}
use Prim.Native.Nat.{ℕ, zero, suc, ◌+◌, ◌≤◌, zero-le, suc-le-suc}
use native.Mathlib.Nat.{le_refl, le_antisymm, le_of_suc-le-suc, not-suc-le-zero}
use native.Mathlib.Omega.{arith}
use lib.ListN.{length}
use Rattle.graph.specs.Cost.{Cost, none, fin, ◌⊑◌}
use Rattle.graph.specs.Graph.{Graph, Leads, total, IsLeast, AtMost}
use Rattle.graph.specs.Least.{at_goal, best, least}
use Rattle.graph.proofs.Costs.{⊑_mono, ⊑_ext, ⊑_none, plus_intro}
use Rattle.graph.proofs.Steps.{goal_if_at, at_if_goal, via_to, via_elim, best_elim, best_goal, best_op, onward_intro, onward_elim}

module _ (G : Graph) where
  pub sound : (i a c : ℕ) → least G i a ⊑ c → (os : List ℕ) × (length os ≤ i) × Leads G os a × (total G os ≤ c)
  unfolding least Leads
  sound zero a c h = ([], zero-le, goal_if_at (G.goal a) c h, zero-le)
  sound (suc i) a c h = ⊎_elim
      (λ g. ([], zero-le, g, zero-le))
      (λ r.
      let s = via_elim G (least G i) a r.0 c r.2 in
      let t = sound i s.0 s.1 s.3 in
      (r.0 ∷ t.0, suc-le-suc t.1, (r.1, onward_intro (Leads G t.0) (G.succ r.0 a) s.0 s.2 t.2), omega arith))
      (best_elim G (least G i) a G.ops c h)

  pub complete : (os : List ℕ) (i a : ℕ) → length os ≤ i → Leads G os a → least G i a ⊑ total G os
  unfolding least Leads
  complete [] zero a l h = at_if_goal (G.goal a) 0 h
  complete [] (suc i) a l h = best_goal G (least G i) a G.ops 0 h
  complete (o ∷ os) zero a l h = absurd (not-suc-le-zero l)
  complete (o ∷ os) (suc i) a l h =
      let s = onward_elim (Leads G os) (G.succ o a) h.1 in
      let t = complete os i s.0 (le_of_suc-le-suc l) s.2 in
      best_op G (least G i) a G.ops (G.cost o + total G os) o h.0
      (rw (via_to G (least G i) a o s.0 s.1) (plus_intro (G.cost o) (least G i s.0) (total G os) t))

-- the equation of a round
pub least_zero : (G : Graph) (a : ℕ) → least G zero a ≡ at_goal (G.goal a)
unfolding least
least_zero G a = refl

pub least_suc : (G : Graph) (i a : ℕ) → least G (suc i) a ≡ best G (least G i) a G.ops
unfolding least
least_suc G i a = refl

-- a cost of which every bound is a list's total, and which is a bound of every list's total, is the least
pub is_least : (G : Graph) (P : List ℕ → Type 0) (a : ℕ) (v : Cost)
    → ((c : ℕ) → v ⊑ c → (os : List ℕ) × P os × Leads G os a × (total G os ≤ c))
    → ((os : List ℕ) → P os → Leads G os a → v ⊑ total G os)
    → IsLeast G P a v
is_least G P a v s b = record {
  attained = λ d e.
      let t = s d (rw e (le_refl d)) in
      let w : fin d ⊑ total G t.0 = rw e at (b t.0 t.1 t.2) in
      (t.0, t.1, t.2, le_antisymm t.3 w);
  below = b;
}

-- THEOREM 1
pub least_is_least : (G : Graph) (i a : ℕ) → IsLeast G (AtMost i) a (least G i a)
least_is_least G i a = is_least G (AtMost i) a (least G i a) (sound G i a) (λ os l h. complete G os i a l h)

-- what a least cost says of none, and that there is only one
module _ (G : Graph) (P : List ℕ → Type 0) (a : ℕ) where
  pub none_if : (v : Cost) → IsLeast G P a v → v ≡ none → (os : List ℕ) → P os → Leads G os a → ⊥
  none_if v l e os p h = ⊑_none v e (total G os) (l.below os p h)

  pub none_only : (v : Cost) → IsLeast G P a v → ((os : List ℕ) → P os → Leads G os a → ⊥) → v ≡ none
  none_only none l f = refl
  none_only (fin d) l f = let t = l.attained d refl in absurd (f t.0 t.1 t.2)

  least_within : (v w : Cost) → IsLeast G P a v → IsLeast G P a w → (c : ℕ) → v ⊑ c → w ⊑ c
  least_within none w lv lw c h = absurd h
  least_within (fin d) w lv lw c h =
      let t = lv.attained d refl in
      ⊑_mono w (total G t.0) c (lw.below t.0 t.1 t.2) (omega arith)

  pub least_unique : (v w : Cost) → IsLeast G P a v → IsLeast G P a w → v ≡ w
  least_unique v w lv lw = ⊑_ext v w (least_within v w lv lw) (least_within w v lw lv)
