-- What holds of every valid task and split, every state and every sequence of any length, each with its statement alone;
-- the roads are the files that this one uses. Assumes nothing.
use mathlib.Core.Path.{◌≡◌, sym, ap, ◌∙◌}
use mathlib.Core.Logic.{◌⊎◌, ◌↔◌}
use mathlib.Core.Bool.{true}
use mathlib.Core.List.{List, ◌++◌}
use Prim.Native.Nat.{ℕ, ◌+◌, ◌≤◌, ◌<◌}
use lib.ListN.{length}
use Rattle.graph.specs.Cost.{Cost, none, fin, ◌⊑◌}
use Rattle.graph.specs.Graph.{to, Leads}
use Rattle.graph.specs.Least.{least, Rounds}
use Rattle.graph.specs.Best.{Advice, halt, IsBestStep}
use Rattle.meaning.specs.Numbering.{size, number, digit, Positive, Digits}
use Rattle.meaning.specs.Sas.{State, Sas, IsState, MayRun, Transition, after, Runs, end, Passes, paid, Proper}
use Rattle.meaning.specs.Views.{α, abstract_states, AbstractStep, AbstractGoal, AbstractlyLeads, IsDistanceAt, IsRounds, space, view_graph}
use Rattle.meaning.specs.BestSteps.{IsBestStepAt, FollowsAt, ForemostAt}
use Rattle.meaning.specs.Split.{Task, sum, view, Valid}
use Rattle.meaning.specs.Bound.{distance, away, summed, bound}
use Rattle.meaning.specs.Quota.{KeepsQuota, StoresWithin, PassesWithin}
use Rattle.meaning.proofs.Numbers as numbers
use Rattle.meaning.proofs.Space as spaces
use Rattle.meaning.proofs.Induced as induced
use Rattle.meaning.proofs.Distances as distances
use Rattle.meaning.proofs.Rounds as rounds
use Rattle.meaning.proofs.BestSteps as bests
use Rattle.meaning.proofs.Sums as sums
use Rattle.meaning.proofs.Bounds as bounds
use Rattle.meaning.proofs.Falling as falling
use Rattle.meaning.proofs.Quota as quota

-- ---- numbering, for any list of radices

-- a number with k digits is below the product of the radices
pub number_is_below : (r d : ℕ → ℕ) (k : ℕ) → Digits r d k → number r d k < size r k
number_is_below r d k h = numbers.number_below r d k h

-- the digits of the number with the digits d are d
pub digits_of_number : (r d : ℕ → ℕ) (k : ℕ) → Digits r d k → (v : ℕ) → v < k → digit r (number r d k) v ≡ d v
digits_of_number r d k h v l = numbers.digit_number r d k h v l

-- the number with the digits of a is a
pub number_of_digits : (r : ℕ → ℕ) (a k : ℕ) → Positive r k → a < size r k → number r (digit r a) k ≡ a
number_of_digits r a k p l = numbers.number_digits r a k p l

-- ---- steps

-- from a state an operator that may run has exactly one transition, to the state after it
pub transition_to_after : (S : Sas) → Proper S → (s : State) (o : ℕ) → IsState S s → o < S.ops → MayRun S o s → Transition S s o (after S o s)
transition_to_after S P s o h l r = spaces.to_after S P s o h l r

pub transition_only_to_after : (S : Sas) (s : State) (o : ℕ) (t : State) → Transition S s o t → (v : ℕ) → v < S.vars → t v ≡ after S o s v
transition_only_to_after S s o t h v l = spaces.only_after S s o t h v l

-- a sequence passes exactly if it leads to a goal among the numbered states
pub passes_exactly_leads : (S : Sas) → Proper S → (os : List ℕ) (s : State) → IsState S s
    → Passes S os s ↔ Leads (space S) os (number S.dom s S.vars)
passes_exactly_leads S P os s h = (spaces.passes_leads S P os s h, spaces.leads_passes S P os s h)

-- ---- views of a valid task

module _ (T : Task) (ok : Valid T) (m : ℕ) (lm : m < T.maps) where
  -- the successor computed from classes is the induced abstraction's step
  pub computed_step_exactly_induced : (o a b : ℕ) → o < T.sas.ops → a < abstract_states T.sas (view T m)
      → ((view_graph T.sas (view T m)).succ o a ≡ to b) ↔ AbstractStep T.sas (view T m) o a b
  computed_step_exactly_induced o a b lo la = (
    induced.step_is T.sas (view T m) ok.proper (bounds.view_onto T ok m lm) o a b lo la,
    induced.step_only T.sas (view T m) ok.proper (bounds.view_onto T ok m lm) o a b,
  )

  -- the goal computed from classes is the induced abstraction's goal
  pub computed_goal_exactly_induced : (a : ℕ) → a < abstract_states T.sas (view T m)
      → ((view_graph T.sas (view T m)).goal a ≡ true) ↔ AbstractGoal T.sas (view T m) a
  computed_goal_exactly_induced a la = (
    induced.goal_is T.sas (view T m) ok.proper (bounds.view_onto T ok m lm) a la,
    induced.goal_only T.sas (view T m) ok.proper (bounds.view_onto T ok m lm) a,
  )

  -- an operator has at most one abstract step from an abstract state
  pub abstract_step_unique : (o a b c : ℕ) → AbstractStep T.sas (view T m) o a b → AbstractStep T.sas (view T m) o a c → b ≡ c
  abstract_step_unique o a b c = induced.one_step T.sas (view T m) ok.proper (bounds.view_onto T ok m lm) o a b c

  -- the distance is the share cost of some sequence, and no sequence of any length is cheaper
  pub distance_is_least : (a : ℕ) → a < abstract_states T.sas (view T m) → IsDistanceAt T.sas (view T m) a (distance T.sas (view T m) a)
  distance_is_least a l = distances.distance_is T.sas (view T m) ok.proper (bounds.view_onto T ok m lm) a l

  -- there is no second distance
  pub distance_unique : (a : ℕ) (v w : Cost) → a < abstract_states T.sas (view T m)
      → IsDistanceAt T.sas (view T m) a v → IsDistanceAt T.sas (view T m) a w → v ≡ w
  distance_unique a v w l = distances.distance_only T.sas (view T m) ok.proper (bounds.view_onto T ok m lm) a v w l

  -- none exactly if no sequence leads to a goal of the view
  pub none_exactly_if_no_sequence : (a : ℕ) (v : Cost) → a < abstract_states T.sas (view T m) → IsDistanceAt T.sas (view T m) a v
      → (v ≡ none) ↔ ((os : List ℕ) → AbstractlyLeads T.sas (view T m) os a → ⊥)
  none_exactly_if_no_sequence a v l = distances.distance_none T.sas (view T m) ok.proper (bounds.view_onto T ok m lm) a v l

  -- rounds over the induced abstraction's own steps exist, are unique, and never pass the number of abstract states
  pub rounds_exist : (r : ℕ) × IsRounds T.sas (view T m) r
  rounds_exist = rounds.rounds_exist T.sas (view T m) ok.proper (bounds.view_onto T ok m lm)

  pub rounds_unique : (r s : ℕ) → IsRounds T.sas (view T m) r → IsRounds T.sas (view T m) s → r ≡ s
  rounds_unique r s R Q = rounds.rounds_unique T.sas (view T m) ok.proper (bounds.view_onto T ok m lm) r s R Q

  pub rounds_at_most_states : (r : ℕ) → IsRounds T.sas (view T m) r → r ≤ abstract_states T.sas (view T m)
  rounds_at_most_states r R = rounds.rounds_most T.sas (view T m) ok.proper (bounds.view_onto T ok m lm) r R

  -- they are the rounds of the computed graph ..
  pub computed_rounds_exactly_induced : (r : ℕ) → Rounds (view_graph T.sas (view T m)) r ↔ IsRounds T.sas (view T m) r
  computed_rounds_exactly_induced r = (
    rounds.induced_rounds T.sas (view T m) ok.proper (bounds.view_onto T ok m lm) r,
    rounds.numbered_rounds T.sas (view T m) ok.proper (bounds.view_onto T ok m lm) r,
  )

  -- .. whose table after so many rounds holds the distances
  pub round_holds_distances : (r : ℕ) → IsRounds T.sas (view T m) r → (a : ℕ) → a < abstract_states T.sas (view T m)
      → least (view_graph T.sas (view T m)) r a ≡ distance T.sas (view T m) a
  round_holds_distances r R a l =
      distances.round_distance T.sas (view T m) ok.proper (bounds.view_onto T ok m lm) r ((computed_rounds_exactly_induced r).1 R) a l

  -- the longest distance
  pub distance_at_most : (a d : ℕ) → a < abstract_states T.sas (view T m) → distance T.sas (view T m) a ≡ fin d → d ≤ 4095000000
  distance_at_most a d l e = bounds.away_most T ok m lm a d l e

  -- the best step among the numbered states is that of the induced abstraction, and there is exactly one
  pub computed_best_exactly_induced : (a : ℕ) (x : Advice) → a < abstract_states T.sas (view T m)
      → IsBestStep (view_graph T.sas (view T m)) a x ↔ IsBestStepAt T.sas (view T m) a x
  computed_best_exactly_induced a x l = (
    bests.induced_best T.sas (view T m) ok.proper (bounds.view_onto T ok m lm) a l x,
    bests.numbered_best T.sas (view T m) ok.proper (bounds.view_onto T ok m lm) a l x,
  )

  pub best_step_exists : (a : ℕ) → a < abstract_states T.sas (view T m) → (x : Advice) × IsBestStepAt T.sas (view T m) a x
  best_step_exists a l = bests.best_exists T.sas (view T m) ok.proper (bounds.view_onto T ok m lm) a l

  pub best_step_unique : (a : ℕ) (x y : Advice) → a < abstract_states T.sas (view T m)
      → IsBestStepAt T.sas (view T m) a x → IsBestStepAt T.sas (view T m) a y → x ≡ y
  best_step_unique a x y l = bests.best_only T.sas (view T m) ok.proper (bounds.view_onto T ok m lm) a l x y

  -- it is to halt exactly at a goal of the view or where the distance is none
  pub halt_exactly : (a : ℕ) (x : Advice) → a < abstract_states T.sas (view T m) → IsBestStepAt T.sas (view T m) a x
      → (x ≡ halt) ↔ (AbstractGoal T.sas (view T m) a ⊎ IsDistanceAt T.sas (view T m) a none)
  halt_exactly a x l = bests.halt_exactly T.sas (view T m) ok.proper (bounds.view_onto T ok m lm) a l x

  -- following the best steps from where the view has a distance ends at a goal of the view, having cost exactly the distance: by the foremost sequence
  pub following_reaches : (B : ℕ → Advice) → ((b : ℕ) → b < abstract_states T.sas (view T m) → IsBestStepAt T.sas (view T m) b (B b))
      → (a d : ℕ) → a < abstract_states T.sas (view T m) → IsDistanceAt T.sas (view T m) a (fin d)
      → (os : List ℕ) × FollowsAt T.sas (view T m) B os a × AbstractlyLeads T.sas (view T m) os a × (paid (T.share m) os ≡ d)
      × ForemostAt T.sas (view T m) a os
  following_reaches B best a d l D = bests.following T.sas (view T m) ok.proper (bounds.view_onto T ok m lm) B best a d l D

  -- there is one way to follow ..
  pub follows_unique : (B : ℕ → Advice) (os vs : List ℕ) (a : ℕ) → FollowsAt T.sas (view T m) B os a → FollowsAt T.sas (view T m) B vs a → os ≡ vs
  follows_unique B os vs a = bests.follows_only T.sas (view T m) ok.proper (bounds.view_onto T ok m lm) B os vs a

  -- .. and one foremost sequence, with fewer steps than there are abstract states
  pub foremost_unique : (a : ℕ) (os vs : List ℕ) → a < abstract_states T.sas (view T m)
      → ForemostAt T.sas (view T m) a os → ForemostAt T.sas (view T m) a vs → os ≡ vs
  foremost_unique a os vs l = bests.foremost_only T.sas (view T m) ok.proper (bounds.view_onto T ok m lm) a l os vs

  pub foremost_is_short : (a : ℕ) (os : List ℕ) → a < abstract_states T.sas (view T m)
      → ForemostAt T.sas (view T m) a os → length os < abstract_states T.sas (view T m)
  foremost_is_short a os l = bests.foremost_short T.sas (view T m) ok.proper (bounds.view_onto T ok m lm) a l os

  -- a concrete sequence is one in every view, with the same operators
  pub passes_in_every_view : (os : List ℕ) (s : State) → IsState T.sas s → Passes T.sas os s
      → AbstractlyLeads T.sas (view T m) os (α T.sas (view T m) s)
  passes_in_every_view os s h p = distances.passes_abstractly T.sas (view T m) ok.proper (bounds.view_onto T ok m lm) os s h p

  -- one_step consistency: a step lowers the view's distance by at most its share
  pub step_lowers_by_share : (o : ℕ) (s : State) (c : ℕ) → IsState T.sas s → o < T.sas.ops → MayRun T.sas o s
      → away T (after T.sas o s) m ⊑ c → away T s m ⊑ T.share m o + c
  step_lowers_by_share o s c h lo r d = distances.step_falls T.sas (view T m) ok.proper (bounds.view_onto T ok m lm) o s c h lo r d

  -- so a sequence lowers it by at most its shares
  pub sequence_lowers_by_shares : (os : List ℕ) (s : State) (c : ℕ) → IsState T.sas s → Runs T.sas os s
      → away T (end T.sas os s) m ⊑ c → away T s m ⊑ paid (T.share m) os + c
  sequence_lowers_by_shares os s c h r d = falling.away_falls T ok m lm os s h r c d

-- ---- the summed bound

-- the sum is none exactly if some map says none
pub sum_none_exactly_if_some : (d : ℕ → Cost) (k : ℕ) → (summed d k ≡ none) ↔ ((m : ℕ) × (m < k) × (d m ≡ none))
sum_none_exactly_if_some d k = (sums.summed_none d k, λ t. sums.none_summed d k t.0 t.1 t.2)

-- it is a number exactly if every map says one, and then their sum
pub sum_number_exactly_if_all : (d : ℕ → Cost) (k x : ℕ) → (summed d k ≡ fin x) ↔ ((c : ℕ → ℕ) × ((m : ℕ) → m < k → d m ≡ fin (c m)) × (x ≡ sum c k))
sum_number_exactly_if_all d k x = (sums.summed_number d k x, λ t. sums.numbers_summed d t.0 k t.1 ∙ ap fin (sym t.2))

-- for a valid task and split the bound is at most the cost of every sequence to the goal
pub bound_at_most_cost : (T : Task) → Valid T → (os : List ℕ) (s : State) → IsState T.sas s → Passes T.sas os s
    → bound T s ⊑ paid T.sas.cost os
bound_at_most_cost T ok os s h p = bounds.admissible T ok os s h p

-- so it is for those that keep the quota, each counting its own storing steps from 0: the bound ignores the quota
pub bound_at_most_cost_within : (T : Task) → Valid T → (os : List ℕ) (s : State) → IsState T.sas s → PassesWithin T os s
    → bound T s ⊑ paid T.sas.cost os
bound_at_most_cost_within T ok os s h p = bounds.admissible T ok os s h p.0

-- where the sum says none there is no sequence
pub none_so_no_sequence : (T : Task) → Valid T → (s : State) → IsState T.sas s → bound T s ≡ none
    → (os : List ℕ) → Passes T.sas os s → ⊥
none_so_no_sequence T ok s h e os p = bounds.none_so_none T ok s h e os p

-- and so none that keeps the quota
pub none_so_no_sequence_within : (T : Task) → Valid T → (s : State) → IsState T.sas s → bound T s ≡ none
    → (os : List ℕ) → PassesWithin T os s → ⊥
none_so_no_sequence_within T ok s h e os p = bounds.none_so_none T ok s h e os p.0

-- nor is there where one map says none
pub one_none_so_no_sequence : (T : Task) → Valid T → (s : State) → IsState T.sas s → (m : ℕ) → m < T.maps → away T s m ≡ none
    → (os : List ℕ) → Passes T.sas os s → ⊥
one_none_so_no_sequence T ok s h m l e os p = bounds.one_none_so_none T ok s h m l e os p

-- if some sequence reaches the goal, every map says a number, at most what the map is paid for the sequence
pub sequence_so_every_number : (T : Task) → Valid T → (os : List ℕ) (s : State) → IsState T.sas s → Passes T.sas os s
    → (m : ℕ) → m < T.maps → (d : ℕ) × (away T s m ≡ fin d) × (d ≤ paid (T.share m) os)
sequence_so_every_number T ok os s h p m l = bounds.reached_so_number T ok os s h p m l

-- a sequence lowers the bound by at most what the maps are paid for it
pub sequence_lowers_bound : (T : Task) → Valid T → (os : List ℕ) (s : State) (c : ℕ) → IsState T.sas s → Runs T.sas os s
    → bound T (end T.sas os s) ⊑ c → bound T s ⊑ sum (λ m. paid (T.share m) os) T.maps + c
sequence_lowers_bound T ok os s c h r d = falling.bound_falls T ok os s h r c d

-- ---- the quota of stored tests

-- a sequence keeps the quota exactly if no step of it stores beyond the quota
pub keeps_exactly_each_step : (T : Task) (os : List ℕ) → KeepsQuota T os ↔ StoresWithin T 0 os
keeps_exactly_each_step T os = quota.keeps_exactly T os

-- every part of a sequence that keeps the quota keeps it
pub parts_keep : (T : Task) (os qs : List ℕ) → KeepsQuota T (os ++ qs) → KeepsQuota T os × KeepsQuota T qs
parts_keep T os qs h = (quota.front_keeps T os qs h, quota.back_keeps T os qs h)

-- where no operator stores a test, every sequence keeps it
pub unmarked_keeps_quota : (T : Task) → ((o : ℕ) → T.mark o ≡ 0) → (os : List ℕ) → KeepsQuota T os
unmarked_keeps_quota T h os = quota.unmarked_keeps T h os
