-- Of an accepted task: there is no second answer, and what is promised is so; for distances and best steps, the distance of a state, its best step, its bound.
-- Assumes nothing.
use mathlib.Core.Path.{◌≡◌, refl, sym, ◌∙◌, subst}
use mathlib.Core.List.{List}
use Prim.Native.Nat.{ℕ, ◌≤◌, ◌<◌}
use native.Mathlib.Decide.{dec_lt}
use native.Mathlib.Omega.{arith}
use lib.ListN.{length, get_or}
use lib.Seq.{ext_get_or}
use Rattle.graph.specs.Cost.{Cost}
use Rattle.graph.specs.Best.{Advice}
use Rattle.graph.specs.Noted.{noted}
use Rattle.graph.proofs.Theorems.{rounds_note_best}
use Rattle.meaning.specs.Sas.{State, IsState}
use Rattle.meaning.specs.Views.{α, abstract_states, IsDistanceAt, view_graph}
use Rattle.meaning.specs.BestSteps.{IsBestStepAt}
use Rattle.meaning.specs.Split.{Task, view, Valid}
use Rattle.meaning.specs.Bound.{away, bound}
use Rattle.meaning.proofs.Induced.{α_below, view_closed}
use Rattle.meaning.proofs.Sums.{summed_same}
use Rattle.meaning.proofs.Bounds.{view_onto}
use Rattle.meaning.proofs.Theorems.{distance_is_least, distance_unique, computed_rounds_exactly_induced, round_holds_distances}
use Rattle.meaning.proofs.Theorems.{best_step_exists, best_step_unique, computed_best_exactly_induced}
use Rattle.sweep.specs.Said.{said_at, advised_at}
use Rattle.sweep.specs.Inside.Sweeps.{Counted}
use Rattle.views.specs.Entries.{DistancesOf, BestStepsOf, RoundsOf, IsAway, IsBest, IsBound}
use Rattle.sweep.proofs.Saids.{said_inj}
use Rattle.sweep.proofs.Picking.{advised_inj}

-- two tables of which the first n places are the same, and the others as they were, are the same
places_only : (n : ℕ) (out o u : List ℕ) → length o ≡ length out → length u ≡ length out → ((a : ℕ) → a < n → get_or o a 0 ≡ get_or u a 0)
    → ((a : ℕ) → n ≤ a → get_or o a 0 ≡ get_or out a 0) → ((a : ℕ) → n ≤ a → get_or u a 0 ≡ get_or out a 0) → o ≡ u
places_only n out o u p q made kept kept' = ext_get_or 0 o u (p ∙ sym q) (λ a _. pick a (dec_lt a n))
  where
    pick : (a : ℕ) → Dec (a < n) → get_or o a 0 ≡ get_or u a 0
    pick a (yes l) = made a l
    pick a (no l) = kept a (omega arith) ∙ sym (kept' a (omega arith))

module _ (T : Task) (ok : Valid T) (m : ℕ) (lm : m < T.maps) where
  -- the tables are settled
  pub distances_only : (out o u : List ℕ) → DistancesOf T m out o → DistancesOf T m out u → o ≡ u
  distances_only out o u D E =
      places_only (abstract_states T.sas (view T m)) out o u D.room E.room
      (λ a l.
      said_inj (get_or o a 0) (get_or u a 0) (distance_unique T ok m lm a (said_at o a) (said_at u a) l (D.distances a (omega (arith, l))) (E.distances a (omega (arith, l)))))
      D.others E.others

  pub best_only : (best b u : List ℕ) → BestStepsOf T m best b → BestStepsOf T m best u → b ≡ u
  best_only best b u D E =
      places_only (abstract_states T.sas (view T m)) best b u D.room E.room
      (λ a l. advised_inj (get_or b a 0) (get_or u a 0) (best_step_unique T ok m lm a (advised_at b a) (advised_at u a) l (D.steps a l) (E.steps a l)))
      D.others E.others

  module _ {out out' best best' : List ℕ} {r : ℕ} (C : Counted (view_graph T.sas (view T m)) out out' best best' r) where
    -- the counted rounds are the map's, their table holds the distances, and what they noted are the best steps
    pub counted_rounds : RoundsOf T m r
    counted_rounds = (computed_rounds_exactly_induced T ok m lm r).0 C.rounds

    pub counted_distances : DistancesOf T m out out'
    counted_distances =
        record {
          distances =
              λ a h.
              let l : a < abstract_states T.sas (view T m) = omega (arith, h) in
              subst (λ (v : Cost). IsDistanceAt T.sas (view T m) a v)
              (sym (C.table.made a l ∙ round_holds_distances T ok m lm r counted_rounds a l)) (distance_is_least T ok m lm a l);
          others = C.table.kept;
          room = C.table.size;
        }

    pub counted_best : BestStepsOf T m best best'
    counted_best =
        let G = view_graph T.sas (view T m) in
        record {
          steps =
              λ a l.
              subst (λ (x : Advice). IsBestStepAt T.sas (view T m) a x) (sym (C.notes.made a l))
              ((computed_best_exactly_induced T ok m lm a (noted G r a) l).0
              (rounds_note_best G (view_closed T.sas (view T m) ok.proper (view_onto T ok m lm)) r C.rounds a l));
          others = C.notes.kept;
          room = C.notes.size;
        }

  pub image_inside : (s : State) → IsState T.sas s → α T.sas (view T m) s < abstract_states T.sas (view T m)
  image_inside s h = α_below T.sas (view T m) ok.proper (view_onto T ok m lm) s h

  -- the distance of a state's image
  pub away_is : (s : State) → IsState T.sas s → IsAway T s m (away T s m)
  away_is s h = distance_is_least T ok m lm (α T.sas (view T m) s) (image_inside s h)

  pub away_only : (s : State) (v w : Cost) → IsState T.sas s → IsAway T s m v → IsAway T s m w → v ≡ w
  away_only s v w h A B = distance_unique T ok m lm (α T.sas (view T m) s) v w (image_inside s h) A B

  -- its best step
  pub best_is : (s : State) → IsState T.sas s → (x : Advice) × IsBest T s m x
  best_is s h = best_step_exists T ok m lm (α T.sas (view T m) s) (image_inside s h)

  pub best_is_only : (s : State) (x y : Advice) → IsState T.sas s → IsBest T s m x → IsBest T s m y → x ≡ y
  best_is_only s x y h A B = best_step_unique T ok m lm (α T.sas (view T m) s) x y (image_inside s h) A B

module _ (T : Task) (ok : Valid T) (s : State) (h : IsState T.sas s) where
  -- the summed bound
  pub bound_is : IsBound T s (bound T s)
  bound_is = (away T s, (λ m l. away_is T ok m l s h), refl)

  pub bound_only : (v w : Cost) → IsBound T s v → IsBound T s w → v ≡ w
  bound_only v w A B =
      A.2 ∙ summed_same A.0 B.0 T.maps (λ m l. away_only T ok m l s (A.0 m) (B.0 m) h (A.1 m l) (B.1 m l)) ∙ sym B.2
