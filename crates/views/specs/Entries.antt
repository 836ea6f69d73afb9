-- What the entries promise: the distances and best steps of a map, the distance of a state, its best step, and its summed bound; and where they say no, in the
-- paper's order.
use Rattle.scan.specs.Found.{Found}
use Rattle.std.specs.Prelude.{◌≡◌, List, ℕ, ◌≤◌, ◌<◌, leb, ltb, length, get_or, Option, None, Some, Result, Ok, Err}
use Rattle.graph.specs.Cost.{Cost, none, fin}
use Rattle.graph.specs.Best.{Advice, halt, take}
use Rattle.refusals.specs.declared.Refusal.{Refusal}
use Rattle.refusals.specs.declared.Refusal.TheVariants.{OutOfRange, TableTooShort}
use Rattle.meaning.specs.Limits.{most_states}
use Rattle.meaning.specs.Sas.{State}
use Rattle.meaning.specs.Views.{α, abstract_states, IsDistanceAt, IsRounds}
use Rattle.meaning.specs.BestSteps.{IsBestStepAt}
use Rattle.meaning.specs.Split.{Task, view}
use Rattle.meaning.specs.Bound.{summed}
use Rattle.tables.specs.Layout.{Tables}
use Rattle.tables.specs.Task.{task_of, state_of}
use Rattle.scan.specs.Scan.{unless, ◌then◌, tables_fault, state_fault, input_fault}
use Rattle.sweep.specs.Said.{said_at, advised_at}

-- DISTANCES AND BEST STEPS. The tables: out' holds the distances of map m at all its abstract states, and the places beyond the map are as they were
pub record DistancesOf (T : Task) (m : ℕ) (out out' : List ℕ) : Type 0 where
  pub distances : (a : ℕ) → a < abstract_states T.sas (view T m) → IsDistanceAt T.sas (view T m) a (said_at out' a)
  pub others : (a : ℕ) → abstract_states T.sas (view T m) ≤ a → get_or out' a 0 ≡ get_or out a 0
  pub room : length out' ≡ length out

-- best' holds the best steps of map m at all its abstract states, 255 where it is to halt, and the places beyond the map are as they were
pub record BestStepsOf (T : Task) (m : ℕ) (best best' : List ℕ) : Type 0 where
  pub steps : (a : ℕ) → a < abstract_states T.sas (view T m) → IsBestStepAt T.sas (view T m) a (advised_at best' a)
  pub others : (a : ℕ) → abstract_states T.sas (view T m) ≤ a → get_or best' a 0 ≡ get_or best a 0
  pub room : length best' ≡ length best

-- the rounds: the smallest i of at least 1 for which, at all abstract states, the least over at most i steps equals that over at most i - 1 steps
abbrev pub RoundsOf : Task → ℕ → ℕ → Type 0
RoundsOf T m r = IsRounds T.sas (view T m) r

-- v is the distance of the state's image in map m
abbrev pub IsAway : Task → State → ℕ → Cost → Type 0
IsAway T s m v = IsDistanceAt T.sas (view T m) (α T.sas (view T m) s) v

-- x is the best step of the state's image in map m
abbrev pub IsBest : Task → State → ℕ → Advice → Type 0
IsBest T s m x = IsBestStepAt T.sas (view T m) (α T.sas (view T m) s) x

-- v is the summed bound of the state: the sum of the distances of its images, none if one of them is
abbrev pub IsBound : Task → State → Cost → Type 0
IsBound T s v = (d : ℕ → Cost) × ((m : ℕ) → m < T.maps → IsAway T s m (d m)) × (v ≡ summed d T.maps)

-- WHEN THE DESK SAYS NO. A map asked for by a number that the task hasn't: 3, place 0
abbrev pub no_such_map : Tables → ℕ → Found
no_such_map t m = unless (ltb m t.counts.maps) (OutOfRange 0)

-- the tables, then the map
unfoldable pub asked_fault : Tables → ℕ → Found
asked_fault t m = tables_fault t then no_such_map t m

-- a table with a place for each abstract state, else 8
abbrev pub state_table : List ℕ → Found
state_table out = unless (leb most_states (length out)) TableTooShort

-- 8 for every lent table before all: for the tables of distances and best steps here, and for the others as the first of the tables' faults
unfoldable pub distances_fault : Tables → ℕ → List ℕ → List ℕ → Found
distances_fault t m out best = state_table out then state_table best then asked_fault t m

-- the tables and the map, then the state
unfoldable pub distance_fault : Tables → ℕ → List ℕ → Found
distance_fault t m s = asked_fault t m then state_fault t.counts t.facts s

-- THE PROMISES. The first fault is answered as refused says, and where there is none, accepted holds
abbrev pub ByFault : Found → (Refusal → Type 0) → Type 0 → Type 0
ByFault (Ok tt) refused accepted = accepted
ByFault (Err f) refused accepted = refused f

-- a refusal leaves both lent tables as they were
abbrev pub DistancesGiven : Tables → ℕ → List ℕ → List ℕ → Result ℕ Refusal → List ℕ → List ℕ → Type 0
DistancesGiven t m out best answer out' best' =
    ByFault (distances_fault t m out best) (λ f. (answer ≡ Err f) × (out' ≡ out) × (best' ≡ best))
    ((r : ℕ) × (answer ≡ Ok r) × RoundsOf (task_of t) m r × DistancesOf (task_of t) m out out' × BestStepsOf (task_of t) m best best')

-- a distance, a best step or a sum as an answer: none is a case of its own, `None`
abbrev pub distance_said : Cost → Result (Option ℕ) Refusal
distance_said none = Ok None
distance_said (fin d) = Ok (Some d)

abbrev pub best_said : Advice → Result (Option ℕ) Refusal
best_said halt = Ok None
best_said (take o) = Ok (Some o)

abbrev pub bound_said : Cost → Result (Option ℕ) Refusal
bound_said v = distance_said v

abbrev pub DistanceGiven : Tables → ℕ → List ℕ → Result (Option ℕ) Refusal → Type 0
DistanceGiven t m s answer =
    ByFault (distance_fault t m s) (λ f. answer ≡ Err f)
    ((v : Cost) × (answer ≡ distance_said v) × IsAway (task_of t) (state_of s) m v)

abbrev pub BestGiven : Tables → ℕ → List ℕ → Result (Option ℕ) Refusal → Type 0
BestGiven t m s answer =
    ByFault (distance_fault t m s) (λ f. answer ≡ Err f)
    ((x : Advice) × (answer ≡ best_said x) × IsBest (task_of t) (state_of s) m x)

abbrev pub BoundGiven : Tables → List ℕ → Result (Option ℕ) Refusal → Type 0
BoundGiven t s answer =
    ByFault (input_fault t s) (λ f. answer ≡ Err f) ((v : Cost) × (answer ≡ bound_said v) × IsBound (task_of t) (state_of s) v)
