-- The rounds of the computed graph are the view's: its table over at most i steps is the least price over at most i of the induced abstraction's steps,
-- and that is unique. Assumes nothing.
use mathlib.Core.Path.{◌≡◌, sym, ◌∙◌, subst}
use Prim.Native.Nat.{ℕ, ◌-◌, ◌≤◌, ◌<◌}
use Rattle.graph.specs.Cost.{Cost}
use Rattle.graph.specs.Graph.{AtMost}
use Rattle.graph.specs.Least.{least, Unchanged, Rounds}
use Rattle.graph.proofs.Theorems as graphs
use Rattle.meaning.specs.Sas.{Sas, Proper}
use Rattle.meaning.specs.Views.{View, abstract_states, Onto, IsLeastAt, UnchangedAt, IsRounds, view_graph}
use Rattle.meaning.proofs.Induced.{view_closed, some_state}
use Rattle.meaning.proofs.Distances.{induced_least, numbered_least}

module _ (S : Sas) (W : View) (P : Proper S) (C : Onto S W) where
  -- the table over at most i steps
  pub table_least : (i a : ℕ) → a < abstract_states S W → IsLeastAt S W (AtMost i) a (least (view_graph S W) i a)
  table_least i a l = induced_least S W P C (AtMost i) a (least (view_graph S W) i a) l (graphs.table_is_least (view_graph S W) i a)

  pub table_only : (i a : ℕ) (v : Cost) → a < abstract_states S W → IsLeastAt S W (AtMost i) a v → v ≡ least (view_graph S W) i a
  table_only i a v l D =
      graphs.least_is_unique (view_graph S W) (AtMost i) a v (least (view_graph S W) i a) (numbered_least S W P C (AtMost i) a v l D)
      (graphs.table_is_least (view_graph S W) i a)

  -- a round that changes nothing
  unchanged_numbered : (i : ℕ) → UnchangedAt S W i → Unchanged (view_graph S W) i
  unchanged_numbered i h a l =
      let t = h a l in
      sym (table_only i a t.0 l t.1) ∙ table_only (i - 1) a t.0 l t.2

  unchanged_induced : (i : ℕ) → Unchanged (view_graph S W) i → UnchangedAt S W i
  unchanged_induced i h a l =
      (least (view_graph S W) i a, table_least i a l, subst (IsLeastAt S W (AtMost (i - 1)) a) (sym (h a l)) (table_least (i - 1) a l))

  -- the rounds
  pub induced_rounds : (r : ℕ) → Rounds (view_graph S W) r → IsRounds S W r
  induced_rounds r R =
      record {
        positive = R.positive;
        unchanged = unchanged_induced r R.unchanged;
        smallest = λ i p l h. R.smallest i p l (unchanged_numbered i h);
      }

  pub numbered_rounds : (r : ℕ) → IsRounds S W r → Rounds (view_graph S W) r
  numbered_rounds r R =
      record {
        positive = R.positive;
        unchanged = unchanged_numbered r R.unchanged;
        smallest = λ i p l h. R.smallest i p l (unchanged_induced i h);
      }

  pub rounds_exist : (r : ℕ) × IsRounds S W r
  rounds_exist =
      let t = graphs.rounds_exist (view_graph S W) (view_closed S W P C) (some_state S W P C) in
      (t.0, induced_rounds t.0 t.1)

  pub rounds_unique : (r s : ℕ) → IsRounds S W r → IsRounds S W s → r ≡ s
  rounds_unique r s R T = graphs.rounds_unique (view_graph S W) r s (numbered_rounds r R) (numbered_rounds s T)

  pub rounds_most : (r : ℕ) → IsRounds S W r → r ≤ abstract_states S W
  rounds_most r R =
      graphs.rounds_never_pass_states (view_graph S W) (view_closed S W P C) (some_state S W P C) r (numbered_rounds r R)
