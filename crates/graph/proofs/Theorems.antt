-- The theorems on goal distances and best steps, each with its statement alone; the roads to them are the files that this one uses.
-- They hold for any number of states and operators and any costs. Assumes nothing.
use mathlib.Core.Path.{◌≡◌, refl, subst}
use mathlib.Core.Logic.{◌⊎◌, ◌↔◌}
use mathlib.Core.Bool.{true}
use mathlib.Core.List.{List, ◌∷◌}
use Prim.Native.Nat.{ℕ, suc, ◌+◌, ◌*◌, ◌-◌, ◌≤◌, ◌<◌}
use native.Mathlib.Omega.{arith}
use lib.ListN.{length}
use Rattle.graph.specs.Cost.{Cost, none, fin, ◌⊑◌}
use Rattle.graph.specs.Graph.{to, Graph, Closed, Leads, total, IsLeast, AtMost, IsDistance, greatest}
use Rattle.graph.specs.Least.{least, Rounds}
use Rattle.graph.specs.Certificate.{Certificate, scaled}
use Rattle.graph.specs.Best.{Advice, halt, take, Cheapest, IsLowest, IsBestStep, Follows, Foremost}
use Rattle.graph.specs.Noted.{noted, Attains}
use Rattle.graph.proofs.Costs.{⊑_mono, ⊑_fin}
use Rattle.graph.proofs.Steps.{onward_intro}
use Rattle.graph.proofs.Leasts.{least_is_least, least_unique, none_if, none_only}
use Rattle.graph.proofs.Settles.{stays_from, any_length, settled}
use Rattle.graph.proofs.Rounded as rounded
use Rattle.graph.proofs.Sizes as sizes
use Rattle.graph.proofs.Certified as certificates
use Rattle.graph.proofs.Scaled as scales
use Rattle.graph.proofs.Cheapests as cheapests
use Rattle.graph.proofs.Following as followings
use Rattle.graph.proofs.Noting as notes

-- the table over at most i steps is exactly the least over sequences of at most i steps
pub table_is_least : (G : Graph) (i a : ℕ) → IsLeast G (AtMost i) a (least G i a)
table_is_least G i a = least_is_least G i a

-- a least cost is unique
pub least_is_unique : (G : Graph) (P : List ℕ → Type 0) (a : ℕ) (v w : Cost) → IsLeast G P a v → IsLeast G P a w → v ≡ w
least_is_unique G P a v w l m = least_unique G P a v w l m

-- a least cost is none exactly if no sequence leads to a goal
pub none_exactly_if_no_sequence : (G : Graph) (P : List ℕ → Type 0) (a : ℕ) (v : Cost) → IsLeast G P a v
    → (v ≡ none) ↔ ((os : List ℕ) → P os → Leads G os a → ⊥)
none_exactly_if_no_sequence G P a v l = (none_if G P a v l, none_only G P a v l)

-- once unchanged, the table stays for ever ..
pub unchanged_stays : (G : Graph) → Closed G → (i : ℕ) → ((a : ℕ) → a < G.states → least G (suc i) a ≡ least G i a)
    → (j : ℕ) → i ≤ j → (a : ℕ) → a < G.states → least G j a ≡ least G i a
unchanged_stays G closed i e j l a h = stays_from G closed i e j l a h

-- .. and holds the least over sequences of any length
pub unchanged_is_distance : (G : Graph) → Closed G → (i : ℕ) → ((a : ℕ) → a < G.states → least G (suc i) a ≡ least G i a)
    → (a : ℕ) → a < G.states → IsDistance G a (least G i a)
unchanged_is_distance G closed i e a h = any_length G closed i e a h

-- as many steps as there are states are enough: every graph has its distances
pub distance_of : (G : Graph) → Closed G → (a : ℕ) → a < G.states → IsDistance G a (least G G.states a)
distance_of G closed a h = any_length G closed G.states (settled G closed G.states (omega arith)) a h

-- rounds exist, are unique, never pass the number of states, and their table holds the distances
pub rounds_exist : (G : Graph) → Closed G → 1 ≤ G.states → (r : ℕ) × Rounds G r
rounds_exist G closed h = rounded.rounds_exist G closed h

pub rounds_unique : (G : Graph) (r s : ℕ) → Rounds G r → Rounds G s → r ≡ s
rounds_unique G r s R S = rounded.rounds_unique G r s R S

pub rounds_never_pass_states : (G : Graph) → Closed G → 1 ≤ G.states → (r : ℕ) → Rounds G r → r ≤ G.states
rounds_never_pass_states G closed h r R = rounded.rounds_most G closed r h R

pub rounds_give_distances : (G : Graph) → Closed G → (r : ℕ) → Rounds G r → (a : ℕ) → a < G.states → IsDistance G a (least G r a)
rounds_give_distances G closed r R a h = rounded.rounds_least G closed r R a h

-- a distance is at most (states - 1) × the greatest cost
pub distance_at_most : (G : Graph) → Closed G → 1 ≤ G.states → (a d : ℕ) → a < G.states → IsDistance G a (fin d)
    → d ≤ (G.states - 1) * greatest G.cost G.ops
distance_at_most G closed h a d l D =
    sizes.distance_most G (greatest G.cost G.ops) (λ o g. sizes.greatest_above G.cost G.ops o g) closed h a d l D

-- one_step consistency: a step lowers the distance by at most its cost
pub step_consistent : (G : Graph) (o a b : ℕ) (v w : Cost) → o < G.ops → G.succ o a ≡ to b
    → IsDistance G a v → IsDistance G b w → (c : ℕ) → w ⊑ c → v ⊑ G.cost o + c
unfolding Leads
step_consistent G o a b v w l e here there c h =
    let f = ⊑_fin w c h in
    let t = there.attained f.0 f.1 in
    ⊑_mono v (G.cost o + total G t.0) (G.cost o + c)
    (here.below (o ∷ t.0) tt (l, onward_intro (Leads G t.0) (G.succ o a) b e t.2))
    (omega (arith, t.3, f.2))

-- the certificate law: a table found in any way holds the distances if each number is reached, each goal has 0 and no step undercuts it
pub certified : (G : Graph) → Closed G → (T : ℕ → Cost) → Certificate G T → (a : ℕ) → a < G.states → IsDistance G a (T a)
certified G closed T C a h = certificates.certified G closed T C a h

-- scaled costs: with each operator at cost × N + 1 a cheapest sequence is cheapest in G, and of those has fewest steps
pub scaled_is_cheapest_then_shortest : (G : Graph) → Closed G → (N a : ℕ) → G.states ≤ N → a < G.states → (os : List ℕ) → Leads G os a
    → ((vs : List ℕ) → Leads G vs a → total (scaled G N) os ≤ total (scaled G N) vs)
    → (vs : List ℕ) → Leads G vs a → (total G os ≤ total G vs) × (total G vs ≡ total G os → length os ≤ length vs)
scaled_is_cheapest_then_shortest G closed N a n h os l m vs g = scales.scaled_best G closed N a n h os l m vs g

-- .. and the same sequences lead to a goal in both
pub scaled_leads_exactly : (G : Graph) (N : ℕ) (os : List ℕ) (a : ℕ) → Leads G os a ↔ Leads (scaled G N) os a
scaled_leads_exactly G N os a = (scales.scaled_leads G N os a, scales.leads_scaled G N os a)

-- ---- best steps

-- every state has exactly one
pub best_step_unique : (G : Graph) (a : ℕ) (x y : Advice) → IsBestStep G a x → IsBestStep G a y → x ≡ y
best_step_unique G a x y h k = followings.best_step_unique G a x y h k

pub best_step_exists : (G : Graph) → Closed G → (a : ℕ) → a < G.states → (x : Advice) × IsBestStep G a x
best_step_exists G closed a l = (noted G G.states a, notes.noted_best G G.states a (distance_of G closed a l))

-- it is to halt exactly at a goal or where the distance is none
pub halt_exactly : (G : Graph) (a : ℕ) (x : Advice) → IsBestStep G a x → (x ≡ halt) ↔ ((G.goal a ≡ true) ⊎ IsDistance G a none)
halt_exactly G a x h = (followings.halt_where G a x h, followings.where_halt G a x h)

-- following the best steps from a state that has a distance ends at a goal, having cost exactly the distance: by the foremost sequence, also round loops that
-- cost 0
pub following_reaches : (G : Graph) → Closed G → (B : ℕ → Advice) → ((b : ℕ) → b < G.states → IsBestStep G b (B b))
    → (a d : ℕ) → a < G.states → IsDistance G a (fin d)
    → (os : List ℕ) × Follows G B os a × Leads G os a × (total G os ≡ d) × Foremost G a os
following_reaches G closed B best a d l D =
    let t = D.attained d refl in
    let u = cheapests.cheapest_exists G closed a t.0 l t.2 in
    let f = followings.following G closed B best a u.0 l u.1 in
    (f.0, f.1, f.2.cheapest.leads, cheapests.cheapest_total G a d f.0 D f.2.cheapest, f.2)

-- the foremost sequence has fewer steps than there are states
pub foremost_is_short : (G : Graph) → Closed G → (a : ℕ) (os : List ℕ) → a < G.states → Foremost G a os → length os < G.states
foremost_is_short G closed a os l F = cheapests.cheapest_short G closed a os l F.cheapest

-- there is one way to follow, and one foremost sequence
pub follows_unique : (G : Graph) (B : ℕ → Advice) (os vs : List ℕ) (a : ℕ) → Follows G B os a → Follows G B vs a → os ≡ vs
follows_unique G B os vs a h k = followings.follows_unique G B os vs a h k

pub foremost_unique : (G : Graph) (a : ℕ) (os vs : List ℕ) → Foremost G a os → Foremost G a vs → os ≡ vs
foremost_unique G a os vs F H = followings.foremost_unique G a os vs F H

-- the first round whose number at a is the distance d is the fewest steps ..
pub first_round_is_fewest : (G : Graph) (a d i : ℕ) → IsDistance G a (fin d)
    → notes.FirstRound G a d i ↔ ((os : List ℕ) × (length os ≡ i) × Cheapest G a os)
first_round_is_fewest G a d i D = (
  notes.first_fewest G a d i D,
  λ t. subst (λ (x : ℕ). notes.FirstRound G a d x) t.1 (notes.fewest_first G a d t.0 D t.2),
)

-- .. and the best step is the lowest operator that attains d from the table of the round before
pub best_step_in_its_round : (G : Graph) (a d i o : ℕ) → IsDistance G a (fin d) → notes.FirstRound G a d (suc i)
    → IsBestStep G a (take o) ↔ IsLowest (Attains G (least G i) a d) o
best_step_in_its_round G a d i o D F = (notes.best_lowest_attains G a d i o D F, notes.lowest_attains_best G a d i o D F)

-- so what the rounds have noted is the best step as soon as the number is the distance; in the counted round everywhere
pub noted_is_best : (G : Graph) (i a : ℕ) → IsDistance G a (least G i a) → IsBestStep G a (noted G i a)
noted_is_best G i a D = notes.noted_best G i a D

pub rounds_note_best : (G : Graph) → Closed G → (r : ℕ) → Rounds G r → (a : ℕ) → a < G.states → IsBestStep G a (noted G r a)
rounds_note_best G closed r R a l = noted_is_best G r a (rounds_give_distances G closed r R a l)
