-- Computed tests of what is shown of the tables of an accepted text. Assumes nothing.
use mathlib.Core.Path.{◌≡◌, sym, ◌∙◌, subst}
use mathlib.Core.List.{List, [], ◌∷◌, map}
use Prim.Native.Nat.{ℕ, ◌<◌}
use lib.ListN.{length, get_or}
use Rattle.graph.specs.Cost.{Cost, none}
use Rattle.graph.specs.Graph.{Graph, Closed}
use Rattle.graph.specs.Best.{Advice, halt}
use Rattle.meaning.specs.Limits.{most_states}
use Rattle.meaning.specs.Sas.{IsState}
use Rattle.meaning.specs.Views.{α, abstract_states, view_graph}
use Rattle.meaning.specs.BestSteps.{IsBestStepAt}
use Rattle.meaning.specs.Split.{view, Valid}
use Rattle.meaning.specs.Bound.{distance, summed, away}
use Rattle.meaning.proofs.Induced.{view_closed, α_below}
use Rattle.meaning.proofs.Sums.{summed_same}
use Rattle.meaning.proofs.Bounds.{view_onto}
use Rattle.meaning.proofs.Theorems.{computed_rounds_exactly_induced, computed_best_exactly_induced}
use Rattle.tables.specs.Layout.{Tables}
use Rattle.tables.specs.Task.{sas_of, task_of, state_of}
use Rattle.tables.specs.Steps.{copied}
use Rattle.sweep.specs.Said.{said, advised}
use Rattle.sequences.specs.Judging.{limited}
use Rattle.ledger.specs.declared.Run.{Run}
use Rattle.ledger.specs.Ledger.{fresh}
use Rattle.views.specs.Entries.{IsBest}
use Rattle.cases.specs.Told.{of_sequence, of_offer, Offering, Claim, distances, distance_at, best_at, bound_at, judging, run, entered, step_entered}
use Rattle.cases.proofs.Tests.{Test, le?, lt?, eq?, same?, advice?, told?, list?, ◌and◌, all, into, always}
use Rattle.cases.proofs.Rounds.{table_of, table_is, notes_of, notes_best, rounds?}
use Rattle.cases.proofs.Contracts.{Inside, Shows}
use Rattle.cases.proofs.Left.{offered_past, SaysPast, Shown}

-- the graph of a map, its table over as many steps as it has abstract states, and what stands noted then
abbrev pub graph_of : Tables → ℕ → Graph
graph_of t m = view_graph (sas_of t) (view (task_of t) m)

abbrev pub far_of : Tables → ℕ → ℕ → Cost
far_of t m a = get_or (table_of (graph_of t m) (graph_of t m).states) a none

abbrev pub best_of : Tables → ℕ → ℕ → Advice
best_of t m a = get_or (notes_of (graph_of t m) (graph_of t m).states) a halt

-- .. at the image of a state
abbrev pub far_from : Tables → List ℕ → ℕ → Cost
far_from t s m = far_of t m (α (sas_of t) (view (task_of t) m) (state_of s))

abbrev pub best_from : Tables → List ℕ → ℕ → Advice
best_from t s m = best_of t m (α (sas_of t) (view (task_of t) m) (state_of s))

module _ (t : Tables) (ok : Valid (task_of t)) where
  pub graph_closed : (m : ℕ) → m < t.counts.maps → Closed (graph_of t m)
  graph_closed m l = view_closed (sas_of t) (view (task_of t) m) ok.proper (view_onto (task_of t) ok m l)

  pub far_is : (m a : ℕ) → m < t.counts.maps → a < (graph_of t m).states → far_of t m a ≡ distance (sas_of t) (view (task_of t) m) a
  far_is m a l h = table_is (graph_of t m) (graph_closed m l) (graph_of t m).states a h

  pub from_is : (m : ℕ) (s : List ℕ) → m < t.counts.maps → IsState (sas_of t) (state_of s) → far_from t s m ≡ away (task_of t) (state_of s) m
  from_is m s l h = far_is m _ l (α_below (sas_of t) (view (task_of t) m) ok.proper (view_onto (task_of t) ok m l) (state_of s) h)

  pub best_is : (m a : ℕ) → m < t.counts.maps → a < (graph_of t m).states → IsBestStepAt (sas_of t) (view (task_of t) m) a (best_of t m a)
  best_is m a l h = (computed_best_exactly_induced (task_of t) ok m l a (best_of t m a) h).0 (notes_best (graph_of t m) (graph_closed m l) a h)

  pub best_from_is : (m : ℕ) (s : List ℕ) → m < t.counts.maps → IsState (sas_of t) (state_of s) → IsBest (task_of t) (state_of s) m (best_from t s m)
  best_from_is m s l h = best_is m _ l (α_below (sas_of t) (view (task_of t) m) ok.proper (view_onto (task_of t) ok m l) (state_of s) h)

  pub sum_is : (s : List ℕ) → IsState (sas_of t) (state_of s) → summed (far_from t s) t.counts.maps ≡ summed (away (task_of t) (state_of s)) t.counts.maps
  sum_is s h = summed_same (far_from t s) (away (task_of t) (state_of s)) t.counts.maps (λ m l. from_is m s l h)

  abbrev pub inside? : (s : List ℕ) → Test (Inside (task_of t) s)
  inside? s = le? t.counts.vars (length s) and all t.counts.vars (λ v. lt? (state_of s v) ((sas_of t).dom v))

  abbrev pub distances? : (m : ℕ) (ds : List Cost) (r : ℕ) (bs : List Advice) → Test (Shows (task_of t) m ds r bs)
  distances? m ds r bs =
      into
      (λ p.
      let q = p.1.1.1.1 in
      record {
        asked = p.0;
        count = p.1.0;
        steps_count = p.1.1.0;
        few = p.1.1.1.0;
        each = λ a l. sym (far_is m a p.0 l) ∙ q.0 a l;
        steps = λ a l. subst (IsBestStepAt (sas_of t) (view (task_of t) m) a) (q.1.0 a l) (best_is m a p.0 l);
        rounds = (computed_rounds_exactly_induced (task_of t) ok m p.0 r).0 (q.1.1 (graph_closed m p.0));
      })
      (lt? m t.counts.maps
      and eq? (length ds) (abstract_states (sas_of t) (view (task_of t) m))
      and eq? (length bs) (abstract_states (sas_of t) (view (task_of t) m))
      and le? (length ds) most_states
      and all (graph_of t m).states (λ a. same? (far_of t m a) (said (get_or (map entered ds) a 0)))
      and all (graph_of t m).states (λ a. advice? (best_of t m a) (advised (get_or (map step_entered bs) a 0)))
      and rounds? (graph_of t m) r)

  abbrev pub says? : (r : Run) (xs : List Offering) → Test (SaysPast t r xs)
  says? r [] = always tt
  says? r (x ∷ xs) =
      into (λ p. (p.0, p.1.0, p.1.1))
      (told? (of_offer (offered_past t r x.number x.operator).answer) x.answer
      and list? (offered_past t r x.number x.operator).run.columns x.columns
      and says? (offered_past t r x.number x.operator).run xs)

  abbrev pub shown? : (x : Claim) → Test (Shown t x)
  shown? (distances m ds r bs) = distances? m ds r bs
  shown? (distance_at m s v) =
      into (λ p. (p.0, p.1.0, sym (from_is m s p.0 p.1.0.1) ∙ p.1.1)) (lt? m t.counts.maps and inside? s and same? (far_from t s m) v)
  shown? (best_at m s x) =
      into (λ p. (p.0, p.1.0, subst (IsBest (task_of t) (state_of s) m) p.1.1 (best_from_is m s p.0 p.1.0.1)))
      (lt? m t.counts.maps and inside? s and advice? (best_from t s m) x)
  shown? (bound_at s v) = into (λ p. (p.0, sym (sum_is s p.0.1) ∙ p.1)) (inside? s and same? (summed (far_from t s) t.counts.maps) v)
  shown? (judging s os x) = inside? s and told? (of_sequence (limited (task_of t) (state_of s) os)) x
  shown? (run s xs) = inside? s and says? (fresh (copied s t.counts.vars)) xs
