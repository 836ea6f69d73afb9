-- The first fault decides what an entry answers, and where there is none the task is valid, the map is there and the state is one of the task's.
-- Assumes nothing.
use Rattle.scan.specs.Found.{Found, clean}
use Rattle.std.specs.Prelude.{Option, Result, Ok, Err}
use mathlib.Core.Path.{◌≡◌, refl, sym, ap, ◌∙◌, subst}
use mathlib.Core.Logic.{◌⊎◌, inl, inr}
use mathlib.Core.Bool.{Bool, true, false}
use mathlib.Core.List.{List, []}
use Prim.Native.Nat.{ℕ, ◌≤◌, ◌<◌}
use lib.Dec.{leb, ltb}
use lib.ListN.{length, get_or}
use borrow.Author.Tests.{le-leb, lt-leb, lt-ltb, ltb-true}
use Rattle.graph.specs.Cost.{Cost}
use Rattle.graph.specs.Best.{Advice, IsBestStep}
use Rattle.refusals.specs.declared.Refusal.{Refusal}
use Rattle.refusals.specs.declared.Refusal.TheVariants.{OutOfRange, TableTooShort}
use Rattle.meaning.specs.Limits.{most_states}
use Rattle.meaning.specs.Sas.{IsState}
use Rattle.meaning.specs.Views.{α, view_graph}
use Rattle.meaning.specs.Split.{Task, view, Valid}
use Rattle.meaning.specs.Bound.{away, bound}
use Rattle.meaning.proofs.Theorems.{computed_best_exactly_induced}
use Rattle.tables.specs.Layout.{Tables, share_at}
use Rattle.tables.specs.Task.{sas_of, task_of, tables, state_of}
use Rattle.scan.specs.Scan.{unless, ◌then◌, tables_fault, state_fault, input_fault}
use Rattle.scan.proofs.Walks.{clean_first, clean_next, kept, rule_held}
use Rattle.scan.proofs.Validity.{clean_valid, state_clean}
use Rattle.sweep.specs.Said.{said}
use Rattle.sweep.specs.Inside.Sweeps.{Counted}
use Rattle.sweep.specs.Inside.Classes.{unpriced, view_graph_of, SharesSmall}
use Rattle.views.specs.Entries.{no_such_map, asked_fault, state_table, distances_fault, distance_fault, ByFault, DistancesGiven}
use Rattle.views.specs.Entries.{distance_said, best_said, bound_said, DistanceGiven, BestGiven, BoundGiven}
use Rattle.sweep.proofs.Alike.{counted_alike}
use Rattle.sweep.proofs.Viewing.{priced_alike, valid_unpriced}
use Rattle.views.proofs.Answers.{counted_rounds, counted_distances, counted_best, image_inside, away_is, bound_is}

-- ---- one fault after the other

pub by_fault : (g : Found) (refused : Refusal → Type 0) (accepted : Type 0) (f : Refusal) → g ≡ Err f → refused f → ByFault g refused accepted
by_fault g refused accepted f e h = subst (λ (x : Found). ByFault x refused accepted) (sym e) h

pub by_clean : (g : Found) (refused : Refusal → Type 0) (accepted : Type 0) → g ≡ clean → accepted → ByFault g refused accepted
by_clean g refused accepted e h = subst (λ (x : Found). ByFault x refused accepted) (sym e) h

module _ (t : Tables) (m : ℕ) where
  -- a map that the task has
  pub map_there : m < t.counts.maps → clean ≡ no_such_map t m
  map_there l = sym (kept (OutOfRange 0) (lt-ltb m t.counts.maps l))

  pub asked_clean : asked_fault t m ≡ clean → Valid (task_of t) × (m < t.counts.maps)
  unfolding asked_fault
  asked_clean e = (
    clean_valid t (clean_first (tables_fault t) (no_such_map t m) e),
    ltb-true m t.counts.maps (rule_held (ltb m t.counts.maps) (OutOfRange 0) (clean_next (tables_fault t) (no_such_map t m) e)),
  )

  pub distance_clean : (s : List ℕ) → distance_fault t m s ≡ clean → Valid (task_of t) × (m < t.counts.maps) × IsState (sas_of t) (state_of s)
  unfolding distance_fault
  distance_clean s e =
      let asked = asked_clean (clean_first (asked_fault t m) (state_fault t.counts t.facts s) e) in
      (asked.0, asked.1, ((state_clean t s).0 (clean_next (asked_fault t m) (state_fault t.counts t.facts s) e)).1)

  -- then a state's image in the map may be asked for
  pub image_asked : (s : List ℕ) → distance_fault t m s ≡ clean
      → Valid (unpriced t.counts t.facts) × (m < t.counts.maps) × SharesSmall t.counts t.shares m × IsState (unpriced t.counts t.facts).sas (state_of s)
  image_asked s e =
      let q = distance_clean s e in
      (valid_unpriced t q.0, q.1, (λ o l. q.0.shares m o q.1 l), q.2)

  -- ---- lent tables that are long enough, and such of which one isn't
  module _ (out best : List ℕ) where
    -- a short second table is 8 whatever the first
    short_next : (long : Bool) → (unless long TableTooShort then Err TableTooShort then asked_fault t m) ≡ Err TableTooShort
    short_next true = refl
    short_next false = refl

    distances_short : (length out < most_states) ⊎ (length best < most_states) → distances_fault t m out best ≡ Err TableTooShort
    unfolding distances_fault
    distances_short (inl l) = rw (lt-leb most_states (length out) l) refl
    distances_short (inr l) = rw (lt-leb most_states (length best) l) (short_next (leb most_states (length out)))

    distances_asked : most_states ≤ length out → most_states ≤ length best → distances_fault t m out best ≡ asked_fault t m
    unfolding distances_fault
    distances_asked l k = rw (le-leb most_states (length out) l, le-leb most_states (length best) k) refl

    pub clean_asked : distances_fault t m out best ≡ clean → asked_fault t m ≡ clean
    unfolding distances_fault
    clean_asked e = clean_next (state_table best) (asked_fault t m) (clean_next (state_table out) (state_table best then asked_fault t m) e)

    pub distances_clean : distances_fault t m out best ≡ clean → Valid (task_of t) × (m < t.counts.maps)
    distances_clean e = asked_clean (clean_asked e)

    pub given_short : (length out < most_states) ⊎ (length best < most_states) → DistancesGiven t m out best (Err TableTooShort) out best
    given_short l = by_fault (distances_fault t m out best) _ _ TableTooShort (distances_short l) (refl, refl, refl)

    pub given_refused : (f : Refusal) {answer : Result ℕ Refusal} → most_states ≤ length out → most_states ≤ length best → asked_fault t m ≡ Err f
        → answer ≡ Err f → DistancesGiven t m out best answer out best
    given_refused f l k e is = by_fault (distances_fault t m out best) _ _ f (distances_asked l k ∙ e) (is, refl, refl)

module _ (t : Tables) (s : List ℕ) where
  pub bound_clean : input_fault t s ≡ clean → Valid (task_of t) × IsState (sas_of t) (state_of s)
  unfolding input_fault
  bound_clean e = (
    clean_valid t (clean_first (tables_fault t) (state_fault t.counts t.facts s) e),
    ((state_clean t s).0 (clean_next (tables_fault t) (state_fault t.counts t.facts s) e)).1,
  )

-- ---- accepted

-- what the sweep gives, whatever the task costs, is promised of the task
module _ (t : Tables) where
  abbrev costless : Task
  costless = task_of (tables t.counts t.facts [] t.shares)

  pub given_rounds : (m : ℕ) (prices : List ℕ) {out out' best best' : List ℕ} {r : ℕ}
      → ((o : ℕ) → o < t.counts.ops → get_or prices o 0 ≡ share_at t.shares m o) → most_states ≤ length out → most_states ≤ length best → asked_fault t m ≡ clean
      → Counted (view_graph_of t.counts t.facts m prices) out out' best best' r → DistancesGiven t m out best (Ok r) out' best'
  given_rounds m prices {out = out} {best = best} {r = r} row l k e C =
      let asked = asked_clean t m e in
      let D = counted_alike (priced_alike t.counts t.facts t.costs t.shares m prices row) C in
      by_clean (distances_fault t m out best) _ _ (distances_asked t m out best l k ∙ e) (
        r,
        refl,
        counted_rounds (task_of t) asked.0 m asked.1 D,
        counted_distances (task_of t) asked.0 m asked.1 D,
        counted_best (task_of t) asked.0 m asked.1 D,
      )

  pub given_distance : (m : ℕ) (s : List ℕ) (d : ℕ) {answer : Result (Option ℕ) Refusal} → distance_fault t m s ≡ clean
      → said d ≡ away costless (state_of s) m → answer ≡ distance_said (said d) → DistanceGiven t m s answer
  given_distance m s d e h a =
      let q = distance_clean t m s e in
      by_clean (distance_fault t m s) _ _ e
      (away (task_of t) (state_of s) m, a ∙ ap distance_said h, away_is (task_of t) q.0 m q.1 (state_of s) q.2)

  pub given_best : (m : ℕ) (s : List ℕ) (x : Advice) {answer : Result (Option ℕ) Refusal} → distance_fault t m s ≡ clean
      → IsBestStep (view_graph costless.sas (view costless m)) (α costless.sas (view costless m) (state_of s)) x → answer ≡ best_said x → BestGiven t m s answer
  given_best m s x e B a =
      let T = task_of t in
      let q = distance_clean t m s e in
      by_clean (distance_fault t m s) _ _ e
      (x, a, (computed_best_exactly_induced T q.0 m q.1 (α T.sas (view T m) (state_of s)) x (image_inside T q.0 m q.1 (state_of s) q.2)).0 B)

  pub given_bound : (s : List ℕ) {v : Cost} {answer : Result (Option ℕ) Refusal} → input_fault t s ≡ clean → v ≡ bound costless (state_of s)
      → answer ≡ bound_said v → BoundGiven t s answer
  given_bound s e h a =
      let q = bound_clean t s e in
      by_clean (input_fault t s) _ _ e (bound (task_of t) (state_of s), a ∙ ap bound_said h, bound_is (task_of t) q.0 (state_of s) q.1)
