-- What the entries' answers mean: no second outcome meets a promise, the rounds never pass the abstract states, following the best steps reaches a goal at
-- exactly the distance, no sequence costs less than the bound, and the bound is none exactly if some map says none. Assumes nothing.
use Rattle.scan.specs.Found.{Found, clean}
use Rattle.std.specs.Prelude.{Option, None, Some, Result, Ok, Err}
use mathlib.Core.Path.{◌≡◌, refl, sym, ap, ◌∙◌, subst}
use mathlib.Core.Logic.{◌⊎◌, ◌↔◌, inl, inr, ⊎_elim}
use mathlib.Core.List.{List}
use Prim.Native.Nat.{ℕ, ◌≤◌, ◌<◌}
use native.Mathlib.Omega.{arith}
use lib.ListN.{length, get_or}
use Rattle.graph.specs.Cost.{Cost, none, fin, ◌⊑◌}
use Rattle.graph.specs.Best.{Advice}
use Rattle.graph.proofs.Costs.{⊑_fin}
use Rattle.refusals.specs.declared.Refusal.{Refusal}
use Rattle.meaning.specs.Sas.{Passes, paid}
use Rattle.meaning.specs.Views.{α, abstract_states, AbstractGoal, AbstractlyLeads, IsDistanceAt}
use Rattle.meaning.specs.BestSteps.{IsBestStepAt, FollowsAt, ForemostAt}
use Rattle.meaning.specs.Split.{Task, sum, view, Valid}
use Rattle.meaning.specs.Bound.{away, bound}
use Rattle.meaning.specs.Quota.{PassesWithin}
use Rattle.meaning.proofs.Theorems.{rounds_unique, rounds_at_most_states, distance_unique, sum_none_exactly_if_some, sum_number_exactly_if_all}
use Rattle.meaning.proofs.Theorems.{bound_at_most_cost, none_so_no_sequence, one_none_so_no_sequence, sequence_so_every_number}
use Rattle.meaning.proofs.Theorems as meanings
use Rattle.tables.specs.Layout.{Tables}
use Rattle.tables.specs.Task.{sas_of, task_of, state_of}
use Rattle.sweep.specs.Said.{HALT, said_at, advised_at}
use Rattle.sweep.proofs.Picking.{advised_none, advised_inj}
use Rattle.views.specs.Entries.{distances_fault, distance_fault, ByFault, DistancesOf, BestStepsOf, RoundsOf, IsAway, IsBest, IsBound, DistancesGiven}
use Rattle.views.specs.Entries.{distance_said, best_said, bound_said, DistanceGiven, BestGiven, BoundGiven}
use Rattle.scan.specs.Scan.{input_fault}
use Rattle.views.proofs.Answers.{image_inside, distances_only, best_only, away_is, away_only, best_is_only, bound_only}
use Rattle.views.proofs.Judging.{by_clean, distances_clean, distance_clean, bound_clean}
use Rattle.views.proofs.Answered.{by_told, input_asked, asked_input, distance_answered, best_answered, bound_answered}

-- two outcomes that are judged by one fault are the same: refused they are told by the fault, and accepted they are settled
by_fault_only : {A : Type 0} (g : Found) (R : A → Refusal → Type 0) (P : A → Type 0) → ((x y : A) (f : Refusal) → R x f → R y f → x ≡ y)
    → ((x y : A) → g ≡ clean → P x → P y → x ≡ y) → (x y : A) → ByFault g (R x) (P x) → ByFault g (R y) (P y) → x ≡ y
by_fault_only (Ok tt) R P told settled x y p q = settled x y refl p q
by_fault_only (Err f) R P told settled x y p q = told x y f p q

-- and so are two answers that each say what is so, where one thing alone is
said_only : {A X : Type 0} (g : Found) (said : X → A) (refused : Refusal → A) (Is : X → Type 0) → (g ≡ clean → (v w : X) → Is v → Is w → v ≡ w)
    → (x y : A) → ByFault g (λ f. x ≡ refused f) ((v : X) × (x ≡ said v) × Is v) → ByFault g (λ f. y ≡ refused f) ((v : X) × (y ≡ said v) × Is v) → x ≡ y
said_only {X = X} g said refused Is only =
    by_fault_only g (λ x f. x ≡ refused f) (λ x. (v : X) × (x ≡ said v) × Is v) (λ x y f p q. p ∙ sym q)
    (λ x y e p q. p.1 ∙ ap said (only e p.0 q.0 p.2 q.2) ∙ sym q.1)

-- what an answer of `distances` and the tables after it are, together: that of distances, and that of best steps
pub record Outcome : Type 0 where
  pub answer : Result ℕ Refusal
  pub table : List ℕ
  pub best : List ℕ

outcome : {x y : Outcome} → x.answer ≡ y.answer → x.table ≡ y.table → x.best ≡ y.best → x ≡ y
outcome p q r = λ i. record { answer = p i; table = q i; best = r i }

-- no second answer, count of rounds or table
pub distances_unique : (t : Tables) (m : ℕ) (out best : List ℕ) (x y : Outcome) → DistancesGiven t m out best x.answer x.table x.best
    → DistancesGiven t m out best y.answer y.table y.best → x ≡ y
distances_unique t m out best =
    by_fault_only (distances_fault t m out best) (λ x f. (x.answer ≡ Err f) × (x.table ≡ out) × (x.best ≡ best))
    (λ x. (r : ℕ) × (x.answer ≡ Ok r) × RoundsOf (task_of t) m r × DistancesOf (task_of t) m out x.table × BestStepsOf (task_of t) m best x.best)
    (λ x y f p q. outcome (p.0 ∙ sym q.0) (p.1 ∙ sym q.1) (p.2 ∙ sym q.2))
    (λ x y e p q.
    let c = distances_clean t m out best e in
    outcome (p.1 ∙ ap Ok (rounds_unique (task_of t) c.0 m c.1 p.0 q.0 p.2 q.2) ∙ sym q.1)
    (distances_only (task_of t) c.0 m c.1 out x.table y.table p.3 q.3)
    (best_only (task_of t) c.0 m c.1 best x.best y.best p.4 q.4))

pub distance_at_unique : (t : Tables) (m : ℕ) (s : List ℕ) (x y : Result (Option ℕ) Refusal) → DistanceGiven t m s x → DistanceGiven t m s y → x ≡ y
distance_at_unique t m s =
    said_only (distance_fault t m s) distance_said Err (IsAway (task_of t) (state_of s) m)
    (λ e v w. let c = distance_clean t m s e in away_only (task_of t) c.0 m c.1 (state_of s) v w c.2)

pub best_at_unique : (t : Tables) (m : ℕ) (s : List ℕ) (x y : Result (Option ℕ) Refusal) → BestGiven t m s x → BestGiven t m s y → x ≡ y
best_at_unique t m s =
    said_only (distance_fault t m s) best_said Err (IsBest (task_of t) (state_of s) m)
    (λ e v w. let c = distance_clean t m s e in best_is_only (task_of t) c.0 m c.1 (state_of s) v w c.2)

pub bound_unique : (t : Tables) (s : List ℕ) (x y : Result (Option ℕ) Refusal) → BoundGiven t s x → BoundGiven t s y → x ≡ y
bound_unique t s =
    said_only (input_fault t s) bound_said Err (IsBound (task_of t) (state_of s))
    (λ e. let c = bound_clean t s e in bound_only (task_of t) c.0 (state_of s) c.1)

-- what is answered in one way alone is answered exactly so
exactly : {A : Type 0} (P : A → Type 0) (y : A) → ((x : A) → P x → P y → x ≡ y) → P y → (x : A) → P x ↔ (x ≡ y)
exactly P y only p x = ((λ q. only x q p), (λ e. subst P (sym e) p))

-- following the advice B from a in map m takes a sequence that leads to a goal of the map and costs d by the map's shares: the foremost, with fewer steps than
-- there are abstract states
abbrev pub FollowedTo : Task → ℕ → (ℕ → Advice) → ℕ → ℕ → Type 0
FollowedTo T m B a d =
    (os : List ℕ) × FollowsAt T.sas (view T m) B os a × AbstractlyLeads T.sas (view T m) os a × (paid (T.share m) os ≡ d)
    × ForemostAt T.sas (view T m) a os × (length os < abstract_states T.sas (view T m))

-- that is so where B has the best step of every abstract state, from each that has a distance
followed : (T : Task) → Valid T → (m : ℕ) → m < T.maps → (B : ℕ → Advice)
    → ((b : ℕ) → b < abstract_states T.sas (view T m) → IsBestStepAt T.sas (view T m) b (B b))
    → (a d : ℕ) → a < abstract_states T.sas (view T m) → IsDistanceAt T.sas (view T m) a (fin d) → FollowedTo T m B a d
followed T ok m lm B best a d l D =
    let f = meanings.following_reaches T ok m lm B best a d l D in
    (f.0, f.1, f.2, f.3, f.4, meanings.foremost_is_short T ok m lm a f.0 l f.4)

module _ (t : Tables) (m : ℕ) (out best out' best' : List ℕ) (r : ℕ) (given : DistancesGiven t m out best (Ok r) out' best') where
  -- where rounds are answered, nothing was at fault and the tables hold the distances and the best steps
  pub rounds_given : (distances_fault t m out best ≡ clean) × RoundsOf (task_of t) m r × DistancesOf (task_of t) m out out' × BestStepsOf (task_of t) m best best'
  rounds_given =
      let p = by_told (distances_fault t m out best) _ _ (λ f q. let e = q.0 in let z : ◌≡◌ {A = ℕ} 0 1 = cc in omega arith) given in
      let q = p.1 in
      let e = q.1 in
      let k : q.0 ≡ r = cc in
      (p.0, subst (RoundsOf (task_of t) m) k q.2, q.3, q.4)

  -- the task is valid and has the map
  there : Valid (task_of t) × (m < t.counts.maps)
  there = distances_clean t m out best rounds_given.0

  -- the rounds never pass the number of abstract states
  pub rounds_within_states : r ≤ abstract_states (sas_of t) (view (task_of t) m)
  rounds_within_states = rounds_at_most_states (task_of t) there.0 m there.1 r rounds_given.1

  -- a state's distance is what the map's table says of its image
  pub distance_in_table : (s : List ℕ) → distance_fault t m s ≡ clean → DistanceGiven t m s (distance_said (said_at out' (α (sas_of t) (view (task_of t) m) (state_of s))))
  distance_in_table s e =
      let c = distance_clean t m s e in
      let a = α (sas_of t) (view (task_of t) m) (state_of s) in
      by_clean (distance_fault t m s) _ _ e
      (said_at out' a, refl, rounds_given.2.distances a (omega (arith, image_inside (task_of t) c.0 m c.1 (state_of s) c.2)))

  pub distance_as_table : (s : List ℕ) → distance_fault t m s ≡ clean
      → (x : Result (Option ℕ) Refusal) → DistanceGiven t m s x ↔ (x ≡ distance_said (said_at out' (α (sas_of t) (view (task_of t) m) (state_of s))))
  distance_as_table s e = exactly (DistanceGiven t m s) _ (λ x. distance_at_unique t m s x _) (distance_in_table s e)

  -- and its best step what the table of best steps advises there
  pub best_as_table : (s : List ℕ) → distance_fault t m s ≡ clean
      → (x : Result (Option ℕ) Refusal) → BestGiven t m s x ↔ (x ≡ best_said (advised_at best' (α (sas_of t) (view (task_of t) m) (state_of s))))
  best_as_table s e =
      let c = distance_clean t m s e in
      let a = α (sas_of t) (view (task_of t) m) (state_of s) in
      exactly (BestGiven t m s) (best_said (advised_at best' a)) (λ x. best_at_unique t m s x (best_said (advised_at best' a)))
      ((best_answered t s m (advised_at best' a)).1 (e, rounds_given.3.steps a (image_inside (task_of t) c.0 m c.1 (state_of s) c.2)))

  module _ (a : ℕ) (l : a < abstract_states (sas_of t) (view (task_of t) m)) where
    said_is : IsDistanceAt (sas_of t) (view (task_of t) m) a (said_at out' a)
    said_is = rounds_given.2.distances a (omega (arith, l))

    -- the table of best steps has 255 exactly at the goals of the map and where the other table says none
    pub halts_exactly : (get_or best' a 0 ≡ HALT) ↔ (AbstractGoal (sas_of t) (view (task_of t) m) a ⊎ (said_at out' a ≡ none))
    halts_exactly =
        let T = task_of t in
        let h = meanings.halt_exactly T there.0 m there.1 a (advised_at best' a) l (rounds_given.3.steps a l) in (
          (λ e.
              ⊎_elim (λ g. inl g) (λ N. inr (distance_unique T there.0 m there.1 a (said_at out' a) none l said_is N))
              (h.0 (advised_none (get_or best' a 0) e))),
          (λ w.
              advised_inj (get_or best' a 0) HALT
              (h.1 (⊎_elim (λ g. inl g) (λ e. inr (subst (λ (v : Cost). IsDistanceAt T.sas (view T m) a v) e said_is)) w) ∙ sym (advised_none HALT refl))),
        )

    -- following the table of best steps from a reaches a goal at exactly the distance that the other table says, also round loops that cost 0
    pub following_reaches : (d : ℕ) → said_at out' a ≡ fin d → FollowedTo (task_of t) m (advised_at best') a d
    following_reaches d e =
        let T = task_of t in
        followed T there.0 m there.1 (advised_at best') rounds_given.3.steps a d l (subst (λ (v : Cost). IsDistanceAt T.sas (view T m) a v) e said_is)

-- following the answers of `best_at`, where B has at each abstract state what it answers at some state that is seen as that
module _ (t : Tables) (m : ℕ) (B : ℕ → Advice)
    (told : (b : ℕ) → b < abstract_states (sas_of t) (view (task_of t) m)
    → (s : List ℕ) × (α (sas_of t) (view (task_of t) m) (state_of s) ≡ b) × BestGiven t m s (best_said (B b))) where
  -- from an abstract state reaches a goal at exactly its distance ..
  pub following_answers : (a d : ℕ) → a < abstract_states (sas_of t) (view (task_of t) m) → IsDistanceAt (sas_of t) (view (task_of t) m) a (fin d)
      → FollowedTo (task_of t) m B a d
  following_answers a d l D =
      let here = told a l in
      let c = distance_clean t m here.0 ((best_answered t here.0 m (B a)).0 here.2).0 in
      followed (task_of t) c.0 m c.1 B
      (λ b k.
      let s = told b k in
      subst (λ (x : ℕ). IsBestStepAt (sas_of t) (view (task_of t) m) x (B b)) s.1 ((best_answered t s.0 m (B b)).0 s.2).1)
      a d l D

  -- .. and so from a state's image, at what `distance_at` answers
  pub following_answers_at : (s : List ℕ) (d : ℕ) → DistanceGiven t m s (Ok (Some d))
      → FollowedTo (task_of t) m B (α (sas_of t) (view (task_of t) m) (state_of s)) d
  following_answers_at s d given =
      let h = (distance_answered t s m (fin d)).0 given in
      let c = distance_clean t m s h.0 in
      following_answers (α (sas_of t) (view (task_of t) m) (state_of s)) d (image_inside (task_of t) c.0 m c.1 (state_of s) c.2)
      (subst (IsAway (task_of t) (state_of s) m) h.1 (away_is (task_of t) c.0 m c.1 (state_of s) c.2))

-- DEMAND 3, over the answers of `bound` and `distance_at`
module _ (t : Tables) (s : List ℕ) where
  -- every sequence of any length that passes from the state costs at least the bound
  pub bound_admissible : (b : ℕ) → BoundGiven t s (Ok (Some b)) → (os : List ℕ) → Passes (sas_of t) os (state_of s) → b ≤ paid (sas_of t).cost os
  bound_admissible b given os p =
      let h = (bound_answered t s (fin b)).0 given in
      let c = bound_clean t s h.0 in
      subst (λ (v : Cost). v ⊑ paid (sas_of t).cost os) h.1 (bound_at_most_cost (task_of t) c.0 os (state_of s) c.1 p)

  -- so does every one that also keeps the quota, which is what may be run: the bound ignores the quota
  pub bound_admissible_within : (b : ℕ) → BoundGiven t s (Ok (Some b)) → (os : List ℕ) → PassesWithin (task_of t) os (state_of s) → b ≤ paid (sas_of t).cost os
  bound_admissible_within b given os p = bound_admissible b given os p.0

  -- where the answer is none, there is no such sequence
  pub none_admissible : BoundGiven t s (Ok None) → (os : List ℕ) → Passes (sas_of t) os (state_of s) → ⊥
  none_admissible given =
      let h = (bound_answered t s none).0 given in
      let c = bound_clean t s h.0 in
      none_so_no_sequence (task_of t) c.0 (state_of s) c.1 h.1

  pub none_admissible_within : BoundGiven t s (Ok None) → (os : List ℕ) → PassesWithin (task_of t) os (state_of s) → ⊥
  none_admissible_within given os p = none_admissible given os p.0

  -- nor is there where one map's answer is none
  pub map_none_admissible : (m : ℕ) → DistanceGiven t m s (Ok None) → (os : List ℕ) → Passes (sas_of t) os (state_of s) → ⊥
  map_none_admissible m given =
      let h = (distance_answered t s m none).0 given in
      let c = distance_clean t m s h.0 in
      one_none_so_no_sequence (task_of t) c.0 (state_of s) c.2 m c.1 h.1

  -- if some sequence reaches the goal, every map answers a number, at most what the map is paid for the sequence ..
  pub reached_so_numbers : (os : List ℕ) → Passes (sas_of t) os (state_of s) → (m : ℕ) → distance_fault t m s ≡ clean
      → (x : Result (Option ℕ) Refusal) → DistanceGiven t m s x → (d : ℕ) × (x ≡ Ok (Some d)) × (d ≤ paid ((task_of t).share m) os)
  reached_so_numbers os p m e x given =
      let c = distance_clean t m s e in
      let d = sequence_so_every_number (task_of t) c.0 os (state_of s) c.2 p m c.1 in
      (d.0, distance_at_unique t m s x (Ok (Some d.0)) given ((distance_answered t s m (fin d.0)).1 (e, d.1)), d.2)

  -- .. and so does the bound
  pub reached_so_bound : (os : List ℕ) → Passes (sas_of t) os (state_of s) → input_fault t s ≡ clean
      → (x : Result (Option ℕ) Refusal) → BoundGiven t s x → (b : ℕ) × (x ≡ Ok (Some b)) × (b ≤ paid (sas_of t).cost os)
  reached_so_bound os p e x given =
      let c = bound_clean t s e in
      let b = ⊑_fin (bound (task_of t) (state_of s)) (paid (sas_of t).cost os) (bound_at_most_cost (task_of t) c.0 os (state_of s) c.1 p) in
      (b.0, bound_unique t s x (Ok (Some b.0)) given ((bound_answered t s (fin b.0)).1 (e, b.1)), b.2)

  -- the bound is none exactly if some map says none
  pub bound_none_exactly : BoundGiven t s (Ok None) ↔ ((m : ℕ) × DistanceGiven t m s (Ok None))
  bound_none_exactly = (
    (λ given.
        let h = (bound_answered t s none).0 given in
        let one = (sum_none_exactly_if_some (away (task_of t) (state_of s)) t.counts.maps).0 h.1 in
        (one.0, (distance_answered t s one.0 none).1 (input_asked t s one.0 h.0 one.1, one.2))),
    (λ one.
        let h = (distance_answered t s one.0 none).0 one.1 in
        let i = asked_input t s one.0 h.0 in
        (bound_answered t s none).1 (i.0, (sum_none_exactly_if_some (away (task_of t) (state_of s)) t.counts.maps).1 (one.0, i.1, h.1))),
  )

  -- it is a number exactly if every map says one, and then their sum
  pub bound_number_exactly : (b : ℕ) → input_fault t s ≡ clean
      → BoundGiven t s (Ok (Some b)) ↔ ((c : ℕ → ℕ) × ((m : ℕ) → m < t.counts.maps → DistanceGiven t m s (Ok (Some (c m)))) × (b ≡ sum c t.counts.maps))
  bound_number_exactly b e = (
    (λ given.
        let h = (bound_answered t s (fin b)).0 given in
        let c = (sum_number_exactly_if_all (away (task_of t) (state_of s)) t.counts.maps b).0 h.1 in
        (c.0, (λ m l. (distance_answered t s m (fin (c.0 m))).1 (input_asked t s m e l, c.1 m l)), c.2)),
    (λ c.
        let each : (m : ℕ) → m < t.counts.maps → away (task_of t) (state_of s) m ≡ fin (c.0 m) = λ m l. ((distance_answered t s m (fin (c.0 m))).0 (c.1 m l)).1 in
        (bound_answered t s (fin b)).1 (e, (sum_number_exactly_if_all (away (task_of t) (state_of s)) t.counts.maps b).1 (c.0, each, c.2))),
  )
