-- A table with a certificate holds the distances, however it was found. Assumes nothing.
use mathlib.Core.Path.{◌≡◌, refl}
use mathlib.Core.List.{List, [], ◌∷◌}
use Prim.Native.Nat.{ℕ, ◌+◌, ◌≤◌, ◌<◌}
use native.Mathlib.Omega.{arith}
use Rattle.graph.specs.Cost.{Cost, none, fin, ◌⊑◌}
use Rattle.graph.specs.Graph.{Graph, Closed, Leads, total, IsLeast, AnyLength}
use Rattle.graph.specs.Certificate.{Certificate}
use Rattle.graph.proofs.Costs.{plus_intro}
use Rattle.graph.proofs.Steps.{via_to, onward_elim}
use Rattle.graph.proofs.Leasts.{is_least}

module _ (G : Graph) (closed : Closed G) (T : ℕ → Cost) (C : Certificate G T) where
  undercut : (os : List ℕ) (a : ℕ) → a < G.states → Leads G os a → T a ⊑ total G os
  unfolding Leads
  undercut [] a l h = C.goals a l h
  undercut (o ∷ os) a l h =
      let s = onward_elim (Leads G os) (G.succ o a) h.1 in
      C.steps a o (G.cost o + total G os) l h.0
      (rw (via_to G T a o s.0 s.1) (plus_intro (G.cost o) (T s.0) (total G os) (undercut os s.0 (closed o a s.0 h.0 l s.1) s.2)))

  pub certified : (a : ℕ) → a < G.states → IsLeast G AnyLength a (T a)
  certified a l = is_least G AnyLength a (T a) (λ c h. back (T a) refl c h) (λ os _ h. undercut os a l h)
    where
      back : (v : Cost) → T a ≡ v → (c : ℕ) → v ⊑ c → (os : List ℕ) × Unit {0} × Leads G os a × (total G os ≤ c)
      back none e c h = absurd h
      back (fin d) e c h = let t = C.reached a d l e in (t.0, tt, t.1, omega (arith, t.2))
