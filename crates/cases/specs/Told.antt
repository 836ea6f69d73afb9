-- What an answer of the desk tells, in the paper's numbers; what a case claims; and when a claim holds.
-- Everything is claimed over the contracts of the public entries (crates/desk/src/lib.rt). A contract that is an equation gives one outcome, and the claim
-- is of that outcome. The contracts of distances, best steps and bounds say what the numbers mean, so there the claim is that an outcome meets the contract
-- exactly if it is the one of the case: that one meets it, and no other does.
use Rattle.refusals.specs.declared.Refusal.{Refusal}
use Rattle.grammar.specs.Readings.{Reading}
use Rattle.std.specs.Prelude.{◌≡◌, ◌↔◌, List, [], ◌∷◌, ◌++◌, map, ℕ, suc, ◌≤◌, length, drop, Ok, Err, Result, Option}
use Prim.Native.String.{String}
use Rattle.graph.specs.Cost.{Cost, none, fin}
use Rattle.graph.specs.Best.{Advice, halt, take}
use Rattle.refusals.specs.Listed.{number_of, place_of}
use Rattle.meaning.specs.Limits.{most_states}
use Rattle.meaning.specs.Views.{abstract_states}
use Rattle.meaning.specs.Split.{view}
use Rattle.tables.specs.Layout.{Tables}
use Rattle.tables.specs.Task.{sas_of, task_of, tables}
use Rattle.grammar.specs.Fields.{Outcome, bytes_of}
use Rattle.grammar.specs.Grammar.{read_text}
use Rattle.sweep.specs.Said.{NONE, HALT}
use Rattle.views.specs.Entries.{DistancesGiven, distance_said, DistanceGiven, best_said, BestGiven, bound_said, BoundGiven}
use Rattle.sequences.specs.Judging.{judged_of}
use Rattle.ledger.specs.declared.Run.{Run}
use Rattle.ledger.specs.declared.Answer.{Answer}
use Rattle.ledger.specs.declared.Answer.TheVariants.{Accepted, Repeated}
use Rattle.ledger.specs.Ledger.{offered, begun}

-- yes; yes at a cost; the same again; or no, with the number and the place of the paper's list
pub data Told : Type 0 where
  yes! : Told
  costs : ℕ → Told
  again : Told
  no! : ℕ → ℕ → Told

abbrev pub of_text : Reading → Told
of_text (Ok n) = yes!
of_text (Err r) = no! (number_of r) (place_of r)

abbrev pub of_sequence : Result ℕ Refusal → Told
of_sequence (Ok c) = costs c
of_sequence (Err r) = no! (number_of r) (place_of r)

abbrev pub of_offer : Result Answer Refusal → Told
of_offer (Ok Accepted) = yes!
of_offer (Ok Repeated) = again
of_offer (Err r) = no! (number_of r) (place_of r)

-- an offer, what it is answered, and the columns then
pub record Offering : Type 0 where
  pub number : ℕ
  pub operator : ℕ
  pub answer : Told
  pub columns : List ℕ

-- what a case claims of a task: a map's distances at all abstract states, its rounds, and its best steps at all abstract states; the distance of a state in a
-- map; its best step there; the bound of a state; what judging a sequence from a state tells; what a run from a state tells, offer by offer
pub data Claim : Type 0 where
  distances : ℕ → List Cost → ℕ → List Advice → Claim
  distance_at : ℕ → List ℕ → Cost → Claim
  best_at : ℕ → List ℕ → Advice → Claim
  bound_at : List ℕ → Cost → Claim
  judging : List ℕ → List ℕ → Told → Claim
  run : List ℕ → List Offering → Claim

-- P holds of each element of a list, with its place
abbrev pub EachAt : {X : Type 0} → (ℕ → X → Type 0) → ℕ → List X → Type 0
EachAt P i [] = Unit {0}
EachAt P i (x ∷ xs) = P i x × EachAt P (suc i) xs

-- the number that stands for a distance in a table, and the one for a best step
abbrev pub entered : Cost → ℕ
entered none = NONE
entered (fin d) = d

abbrev pub step_entered : Advice → ℕ
step_entered halt = HALT
step_entered (take o) = o

-- such numbers in the first places of a lent table, and beyond them what stood there
abbrev pub entered_in : {X : Type 0} → (X → ℕ) → List X → List ℕ → List ℕ
entered_in number xs out = map number xs ++ drop (length xs) out

-- the offers one after another, each to the run that the one before handed back
abbrev pub SaysThat : Tables → Run → List Offering → Type 0
SaysThat t r [] = Unit {0}
SaysThat t r (x ∷ xs) =
    (of_offer (offered t r x.number x.operator).answer ≡ x.answer)
    × ((offered t r x.number x.operator).run.columns ≡ x.columns)
    × SaysThat t (offered t r x.number x.operator).run xs

-- the lent tables of distances and best steps may hold anything, and more places than they have to; a run is from a start that is accepted
abbrev pub ClaimHolds : Tables → Claim → Type 0
ClaimHolds t (distances m ds r bs) =
    (length ds ≡ abstract_states (sas_of t) (view (task_of t) m))
    × (length bs ≡ abstract_states (sas_of t) (view (task_of t) m))
    × ((out best : List ℕ) → most_states ≤ length out → most_states ≤ length best → (answer : Result ℕ Refusal) (out' best' : List ℕ)
    → DistancesGiven t m out best answer out' best' ↔ ((answer ≡ Ok r) × (out' ≡ entered_in entered ds out) × (best' ≡ entered_in step_entered bs best)))
ClaimHolds t (distance_at m s v) = (answer : Result (Option ℕ) Refusal) → DistanceGiven t m s answer ↔ (answer ≡ distance_said v)
ClaimHolds t (best_at m s x) = (answer : Result (Option ℕ) Refusal) → BestGiven t m s answer ↔ (answer ≡ best_said x)
ClaimHolds t (bound_at s v) = (answer : Result (Option ℕ) Refusal) → BoundGiven t s answer ↔ (answer ≡ bound_said v)
ClaimHolds t (judging s os x) = of_sequence (judged_of t s os) ≡ x
ClaimHolds t (run s xs) = (of_offer (begun t s).answer ≡ yes!) × SaysThat t (begun t s).run xs

-- a case: a text, what reading it tells, and what is claimed of the task that it spells
pub record Case : Type 0 where
  pub text : String
  pub read : Told
  pub claims : List Claim

-- claims are made of what an accepted text leaves: its counts and the three lent tables
abbrev pub AllHold : Reading → List ℕ → List ℕ → List ℕ → List Claim → Type 0
AllHold (Ok n) f c s cs = EachAt (λ i x. ClaimHolds (tables n f c s) x) 0 cs
AllHold (Err r) f c s cs = cs ≡ []

-- the case is right of an outcome of the reader
pub record RightOf (x : Case) (o : Outcome) : Type 0 where
  pub read : of_text o.answer ≡ x.read
  pub claims : AllHold o.answer o.facts o.costs o.shares x.claims

-- .. with the tables f, c and s lent to it
abbrev pub Right : List ℕ → List ℕ → List ℕ → Case → Type 0
Right f c s x = RightOf x (read_text (bytes_of x.text) f c s)
