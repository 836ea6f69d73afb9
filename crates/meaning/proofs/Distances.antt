-- A view's distance is the least price over sequences of any length in the induced abstraction, and the table of the counted round holds it.
-- Assumes nothing.
use mathlib.Core.Path.{◌≡◌, refl, sym, ◌∙◌, subst}
use mathlib.Core.Logic.{◌↔◌}
use mathlib.Core.List.{List}
use Prim.Native.Nat.{ℕ, ◌+◌, ◌*◌, ◌-◌, ◌≤◌, ◌<◌}
use Rattle.graph.specs.Cost.{Cost, none, fin, ◌⊑◌}
use Rattle.graph.specs.Graph.{IsLeast, AnyLength, IsDistance}
use Rattle.graph.specs.Least.{least, Rounds}
use Rattle.meaning.specs.Sas.{State, Sas, IsState, MayRun, after, Passes, paid, Proper}
use Rattle.meaning.specs.Views.{View, image, α, abstract_states, Onto, AbstractlyLeads, IsLeastAt, IsDistanceAt, class_task, view_graph}
use Rattle.meaning.specs.Bound.{distance}
use Rattle.graph.proofs.Theorems.{distance_of, rounds_give_distances, least_is_unique, none_exactly_if_no_sequence, step_consistent}
use Rattle.graph.proofs.Sizes as sizes
use Rattle.meaning.proofs.Space.{after_state, to_after, total_paid, passes_leads}
use Rattle.meaning.proofs.Induced.{image_state, α_below, passes_image, class_task_proper, step_only, abstractly_leads, leads_abstractly, view_closed, some_state}

module _ (S : Sas) (W : View) (P : Proper S) (C : Onto S W) where
  -- the distance among the numbered states
  pub distance_least : (a : ℕ) → a < abstract_states S W → IsDistance (view_graph S W) a (distance S W a)
  distance_least a l = distance_of (view_graph S W) (view_closed S W P C) a l

  -- a least cost among the numbered states is one in the induced abstraction, and the other way round
  pub induced_least : (Q : List ℕ → Type 0) (a : ℕ) (v : Cost) → a < abstract_states S W → IsLeast (view_graph S W) Q a v → IsLeastAt S W Q a v
  induced_least Q a v l D =
      record {
        attained =
            λ d e.
            let t = D.attained d e in
            (t.0, t.1, leads_abstractly S W P C t.0 a l t.2, sym (total_paid (view_graph S W) t.0) ∙ t.3);
        below = λ os q h. rw (total_paid (view_graph S W) os) at (D.below os q (abstractly_leads S W P C os a h));
      }

  pub numbered_least : (Q : List ℕ → Type 0) (a : ℕ) (v : Cost) → a < abstract_states S W → IsLeastAt S W Q a v → IsLeast (view_graph S W) Q a v
  numbered_least Q a v l D =
      record {
        attained =
            λ d e.
            let t = D.attained d e in
            (t.0, t.1, abstractly_leads S W P C t.0 a t.2, total_paid (view_graph S W) t.0 ∙ t.3);
        below = λ os q h. rw (total_paid (view_graph S W) os) (D.below os q (leads_abstractly S W P C os a l h));
      }

  pub distance_is : (a : ℕ) → a < abstract_states S W → IsDistanceAt S W a (distance S W a)
  distance_is a l = induced_least AnyLength a (distance S W a) l (distance_least a l)

  pub distance_only : (a : ℕ) (v w : Cost) → a < abstract_states S W → IsDistanceAt S W a v → IsDistanceAt S W a w → v ≡ w
  distance_only a v w l D E =
      least_is_unique (view_graph S W) AnyLength a v w (numbered_least AnyLength a v l D) (numbered_least AnyLength a w l E)

  pub distance_none : (a : ℕ) (v : Cost) → a < abstract_states S W → IsDistanceAt S W a v
      → (v ≡ none) ↔ ((os : List ℕ) → AbstractlyLeads S W os a → ⊥)
  distance_none a v l D =
      let f = none_exactly_if_no_sequence (view_graph S W) AnyLength a v (numbered_least AnyLength a v l D) in
      ((λ e os h. f.0 e os tt (abstractly_leads S W P C os a h)), (λ g. f.1 (λ os _ h. g os (leads_abstractly S W P C os a l h))))

  -- the table of the counted round holds the distances
  pub round_distance : (r : ℕ) → Rounds (view_graph S W) r → (a : ℕ) → a < abstract_states S W → least (view_graph S W) r a ≡ distance S W a
  round_distance r R a l =
      least_is_unique (view_graph S W) AnyLength a (least (view_graph S W) r a) (distance S W a)
      (rounds_give_distances (view_graph S W) (view_closed S W P C) r R a l) (distance_least a l)

  -- a sequence that passes leads from the image of its start to a goal of the view, by the same operators
  pub passes_abstractly : (os : List ℕ) (s : State) → IsState S s → Passes S os s → AbstractlyLeads S W os (α S W s)
  passes_abstractly os s h p =
      leads_abstractly S W P C os (α S W s) (α_below S W P C s h)
      (passes_leads (class_task S W) (class_task_proper S W P C) os (image W s) (image_state S W P C s h) (passes_image S W P C os s p))

  -- so it pays at least the distance of the image
  pub distance_below : (os : List ℕ) (s : State) → IsState S s → Passes S os s → distance S W (α S W s) ⊑ paid W.price os
  distance_below os s h p = (distance_is (α S W s) (α_below S W P C s h)).below os tt (passes_abstractly os s h p)

  -- a step lowers the distance of the image by at most its price
  pub step_falls : (o : ℕ) (s : State) (c : ℕ) → IsState S s → o < S.ops → MayRun S o s
      → distance S W (α S W (after S o s)) ⊑ c → distance S W (α S W s) ⊑ W.price o + c
  step_falls o s c h lo r d =
      let t = after_state S P o s lo h in
      let e = step_only S W P C o (α S W s) (α S W (after S o s)) (s, h, refl, (after S o s, t, refl, to_after S P s o h lo r)) in
      step_consistent (view_graph S W) o (α S W s) (α S W (after S o s)) (distance S W (α S W s)) (distance S W (α S W (after S o s))) lo e
      (distance_least (α S W s) (α_below S W P C s h)) (distance_least (α S W (after S o s)) (α_below S W P C (after S o s) t)) c d

  -- with prices of at most K and at most n abstract states a distance is at most (n - 1) × K
  pub distance_most : (K a d : ℕ) → ((o : ℕ) → o < S.ops → W.price o ≤ K) → a < abstract_states S W → distance S W a ≡ fin d
      → d ≤ (abstract_states S W - 1) * K
  distance_most K a d k l e =
      sizes.distance_most (view_graph S W) K k (view_closed S W P C) (some_state S W P C) a d l
      (subst (λ (v : Cost). IsDistance (view_graph S W) a v) e (distance_least a l))
