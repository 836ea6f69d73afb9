-- A task's own places alone are read: tables that are read alike, and states that agree at the variables, have the same distances, best
-- steps, rounds and bound, and an answer and tables that meet an entry's promise over the ones meet it over the others. Assumes nothing.
use Rattle.scan.specs.Found.{Found, clean}
use Rattle.std.specs.Prelude.{Option, Result, Err, Ok}
use mathlib.Core.Path.{◌≡◌, refl, ap, ◌∙◌, subst}
use mathlib.Core.List.{List}
use Prim.Native.Nat.{ℕ, ◌<◌}
use native.Mathlib.Omega.{arith}
use lib.Dec.{ltb}
use Rattle.graph.specs.Cost.{Cost}
use Rattle.graph.specs.Best.{Advice}
use Rattle.refusals.specs.declared.Refusal.{Refusal}
use Rattle.refusals.specs.declared.Refusal.TheVariants.{OutOfRange}
use Rattle.meaning.specs.Sas.{State, IsState}
use Rattle.meaning.specs.Views.{α, IsDistanceAt}
use Rattle.meaning.specs.BestSteps.{IsBestStepAt}
use Rattle.meaning.specs.Split.{Task, view}
use Rattle.meaning.specs.Bound.{summed}
use Rattle.meaning.proofs.Unread.{SameAt, SameTask, α_alike, states_alike, least_alike, best_alike, rounds_alike, view_alike}
use Rattle.tables.specs.Layout.{Tables}
use Rattle.tables.specs.Task.{sas_of, task_of, state_of}
use Rattle.scan.specs.Scan.{unless, ◌then◌, tables_fault, state_fault, input_fault}
use Rattle.scan.specs.Own.{OwnState}
use Rattle.scan.proofs.Walks.{clean_first}
use Rattle.scan.proofs.Unread.{ReadAlike, then_same, state_same, input_same}
use Rattle.sweep.specs.Said.{said_at, advised_at}
use Rattle.views.specs.Entries.{DistancesOf, BestStepsOf, IsAway, IsBest, IsBound, no_such_map, asked_fault, state_table, distances_fault, distance_fault, ByFault}
use Rattle.views.specs.Entries.{distance_said, best_said, DistancesGiven, DistanceGiven, BestGiven, BoundGiven}
use Rattle.views.proofs.Judging.{clean_asked, distances_clean, distance_clean, bound_clean}

-- ---- what is promised of a task, of one that agrees with it at its own places

module _ {T U : Task} (E : SameTask T U) where
  -- the tables of distances and of best steps
  tables_alike : (m : ℕ) (out best out' best' : List ℕ) → m < T.maps → DistancesOf T m out out' × BestStepsOf T m best best'
      → DistancesOf U m out out' × BestStepsOf U m best best'
  tables_alike m out best out' best' lm D =
      let C = view_alike E m lm in
      let same = states_alike E.sas C in (
        record {
          distances = λ a l. least_alike E.sas C a (said_at out' a) (D.0.distances a (omega (arith, same)));
          others = λ a l. D.0.others a (omega (arith, same));
          room = D.0.room;
        },
        record {
          steps = λ a l. best_alike E.sas C a (advised_at best' a) (D.1.steps a (omega (arith, same)));
          others = λ a l. D.1.others a (omega (arith, same));
          room = D.1.room;
        },
      )

  module _ (s z : State) (g : SameAt T.sas s z) (h : IsState T.sas s) where
    away_alike : (m : ℕ) (v : Cost) → m < T.maps → IsAway T s m v → IsAway U z m v
    away_alike m v lm A =
        let C = view_alike E m lm in
        subst (λ (a : ℕ). IsDistanceAt U.sas (view U m) a v) (α_alike E.sas C s z h g) (least_alike E.sas C (α T.sas (view T m) s) v A)

    best_step_alike : (m : ℕ) (x : Advice) → m < T.maps → IsBest T s m x → IsBest U z m x
    best_step_alike m x lm B =
        let C = view_alike E m lm in
        subst (λ (a : ℕ). IsBestStepAt U.sas (view U m) a x) (α_alike E.sas C s z h g) (best_alike E.sas C (α T.sas (view T m) s) x B)

    bound_alike : (v : Cost) → IsBound T s v → IsBound U z v
    bound_alike v B =
        (B.0, (λ m l. let lm : m < T.maps = omega (arith, E.maps) in away_alike m (B.0 m) lm (B.1 m lm)), B.2 ∙ ap (summed B.0) E.maps)

-- ---- the first fault

-- where there is none, the tables are clean
module _ (t : Tables) where
  asked_tables : (m : ℕ) → asked_fault t m ≡ clean → tables_fault t ≡ clean
  unfolding asked_fault
  asked_tables m e = clean_first (tables_fault t) (no_such_map t m) e

  distances_tables : (m : ℕ) (out best : List ℕ) → distances_fault t m out best ≡ clean → tables_fault t ≡ clean
  distances_tables m out best e = asked_tables m (clean_asked t m out best e)

  distance_tables : (m : ℕ) (s : List ℕ) → distance_fault t m s ≡ clean → tables_fault t ≡ clean
  unfolding distance_fault
  distance_tables m s e = asked_tables m (clean_first (asked_fault t m) (state_fault t.counts t.facts s) e)

  input_tables : (s : List ℕ) → input_fault t s ≡ clean → tables_fault t ≡ clean
  unfolding input_fault
  input_tables s e = clean_first (tables_fault t) (state_fault t.counts t.facts s) e

module _ {t u : Tables} (E : ReadAlike t u) where
  asked_same : (m : ℕ) → asked_fault t m ≡ asked_fault u m
  unfolding asked_fault
  asked_same m =
      then_same _ _ _ _ E.fault (λ e. ap (λ (n : ℕ). unless (ltb m n) (OutOfRange 0)) (E.task e).maps)

  distances_same : (m : ℕ) (out best : List ℕ) → distances_fault t m out best ≡ distances_fault u m out best
  unfolding distances_fault
  distances_same m out best = ap (λ (f : Found). state_table out then state_table best then f) (asked_same m)

  distance_same : (m : ℕ) (s z : List ℕ) → OwnState t.counts s z → distance_fault t m s ≡ distance_fault u m z
  unfolding distance_fault
  distance_same m s z O = then_same _ _ _ _ (asked_same m) (λ e. state_same E s z O (asked_tables t m e))

-- a promise by its fault: refused alike, and where there is none, accepted alike
by_fault_alike : (g g' : Found) (refused : Refusal → Type 0) (a a' : Type 0) → g ≡ g' → (g ≡ clean → a → a') → ByFault g refused a → ByFault g' refused a'
by_fault_alike g g' refused a a' e h p = subst (λ (x : Found). ByFault x refused a') e (at g h p)
  where
    at : (x : Found) → (x ≡ clean → a → a') → ByFault x refused a → ByFault x refused a'
    at (Ok tt) h p = h refl p
    at (Err f) h p = p

-- ---- THE ENTRIES

module _ {t u : Tables} (E : ReadAlike t u) where
  pub distances_given_alike : (m : ℕ) (out best out' best' : List ℕ) (x : Result ℕ Refusal) → DistancesGiven t m out best x out' best'
      → DistancesGiven u m out best x out' best'
  distances_given_alike m out best out' best' x =
      by_fault_alike (distances_fault t m out best) (distances_fault u m out best) _ _ _ (distances_same E m out best)
      (λ e p.
      let T = E.task (distances_tables t m out best e) in
      let lm = (distances_clean t m out best e).1 in
      let q = tables_alike T m out best out' best' lm (p.3, p.4) in
      (p.0, p.1, rounds_alike T.sas (view_alike T m lm) p.0 p.2, q.0, q.1))

  module _ (s z : List ℕ) (O : OwnState t.counts s z) where
    -- an answer that says what is so of the state in map m
    said_alike : {A X : Type 0} (m : ℕ) (said : X → A) (refused : Refusal → A) (P Q : X → Type 0)
        → (SameTask (task_of t) (task_of u) → m < t.counts.maps → IsState (sas_of t) (state_of s) → (v : X) → P v → Q v)
        → (x : A) → ByFault (distance_fault t m s) (λ f. x ≡ refused f) ((v : X) × (x ≡ said v) × P v)
        → ByFault (distance_fault u m z) (λ f. x ≡ refused f) ((v : X) × (x ≡ said v) × Q v)
    said_alike m said refused P Q alike x =
        by_fault_alike (distance_fault t m s) (distance_fault u m z) _ _ _ (distance_same E m s z O)
        (λ e p. let c = distance_clean t m s e in (p.0, p.1, alike (E.task (distance_tables t m s e)) c.1 c.2 p.0 p.2))

    pub distance_given_alike : (m : ℕ) (x : Result (Option ℕ) Refusal) → DistanceGiven t m s x → DistanceGiven u m z x
    distance_given_alike m =
        said_alike m distance_said Err (IsAway (task_of t) (state_of s) m) (IsAway (task_of u) (state_of z) m)
        (λ T lm h v. away_alike T (state_of s) (state_of z) O.values h m v lm)

    pub best_given_alike : (m : ℕ) (x : Result (Option ℕ) Refusal) → BestGiven t m s x → BestGiven u m z x
    best_given_alike m =
        said_alike m best_said Err (IsBest (task_of t) (state_of s) m) (IsBest (task_of u) (state_of z) m)
        (λ T lm h x. best_step_alike T (state_of s) (state_of z) O.values h m x lm)

    pub bound_given_alike : (x : Result (Option ℕ) Refusal) → BoundGiven t s x → BoundGiven u z x
    bound_given_alike x =
        by_fault_alike (input_fault t s) (input_fault u z) _ _ _ (input_same E s z O)
        (λ e p. (p.0, p.1, bound_alike (E.task (input_tables t s e)) (state_of s) (state_of z) O.values (bound_clean t s e).1 p.0 p.2))
