-- What the tables of a map's view have at a state's image are its distance and its best step in the map, since distances are unique. Assumes nothing.
use mathlib.Core.Path.{◌≡◌, ap, ◌∙◌}
use mathlib.Core.List.{List, []}
use Prim.Native.Nat.{ℕ, ◌<◌}
use lib.ListN.{get_or}
use Rattle.graph.specs.Graph.{AnyLength}
use Rattle.graph.proofs.Theorems.{least_is_unique}
use Rattle.meaning.specs.Sas.{IsState}
use Rattle.meaning.specs.Views.{view_graph}
use Rattle.meaning.specs.Split.{view, Valid}
use Rattle.meaning.specs.Bound.{away}
use Rattle.meaning.proofs.Distances.{distance_least}
use Rattle.tables.specs.declared.Counts.{Counts}
use Rattle.tables.specs.Layout.{share_at}
use Rattle.tables.specs.Task.{task_of, tables, state_of}
use Rattle.maps.specs.declared.Pick.{Pick}
use Rattle.maps.specs.Said.{said, said_at, advised, advised_at}
use Rattle.maps.specs.Inside.Classes.{unpriced, view_graph_of, image_of}
use Rattle.maps.proofs.Viewing.{priced_alike, shared_onto, image_below}
use Rattle.quick.specs.Inside.Answers.{Distances, BestSteps, AtImage}
use Rattle.quick.proofs.Carrying.{distances_alike, steps_alike}

module _ (c : Counts) (facts shares : List ℕ) (m : ℕ) (ok : Valid (unpriced c facts)) (lm : m < c.maps) where
  pub at_image : (prices s : List ℕ) (p : Pick) {t₀ t b₀ b : List ℕ} {a : ℕ} → ((o : ℕ) → o < c.ops → get_or prices o 0 ≡ share_at shares m o)
      → Distances (view_graph_of c facts m prices) t₀ t → BestSteps (view_graph_of c facts m prices) b₀ b
      → IsState (unpriced c facts).sas (state_of s) → a ≡ image_of c facts m (state_of s)
      → p.cost ≡ get_or t a 0 → p.op ≡ get_or b a 0
      → AtImage (task_of (tables c facts [] shares)) (state_of s) m p
  at_image prices s p {t = t} {b = b} row D B h e cost op =
      let T = task_of (tables c facts [] shares) in
      let G = view_graph T.sas (view T m) in
      let same = priced_alike c facts [] shares m prices row in
      let i = image_of c facts m (state_of s) in
      let l = image_below c facts shares m ok lm s h in
      record {
        cost =
            ap said cost ∙ ap (said_at t) e
            ∙ least_is_unique G AnyLength i (said_at t i) (away T (state_of s) m) ((distances_alike same D).made i l)
            (distance_least T.sas (view T m) ok.proper (shared_onto c facts shares m ok lm) i l);
        op = rw (ap advised op ∙ ap (advised_at b) e) ((steps_alike same B).made i l);
      }
