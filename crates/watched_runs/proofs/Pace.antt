-- The answers of `distance_at` and `bound` at the two ends of a sequence keep pace with what the maps are paid for it. Assumes nothing.
use mathlib.Core.Path.{◌≡◌, refl, sym, ap, ◌∙◌, subst}
use mathlib.Core.List.{List}
use Prim.Native.Nat.{ℕ, ◌+◌, ◌<◌}
use native.Mathlib.Nat.{le_refl}
use native.Mathlib.Omega.{arith}
use Rattle.scan.specs.Found.{clean}
use Rattle.graph.specs.Cost.{Cost, none, fin, ◌⊑◌}
use Rattle.graph.proofs.Costs.{⊑_none}
use Rattle.std.specs.Prelude.{Option, Result}
use Rattle.refusals.specs.declared.Refusal.{Refusal}
use Rattle.meaning.specs.Sas.{IsState, Runs, end, paid}
use Rattle.meaning.specs.Split.{sum, Valid}
use Rattle.meaning.specs.Bound.{away, summed, bound}
use Rattle.meaning.proofs.Sums.{summed_falls}
use Rattle.meaning.proofs.Falling.{away_same}
use Rattle.meaning.proofs.Theorems.{sequence_lowers_by_shares}
use Rattle.scan.specs.Scan.{input_fault}
use Rattle.tables.specs.Layout.{Tables}
use Rattle.tables.specs.Task.{sas_of, task_of, state_of}
use Rattle.views.specs.Entries.{distance_said, bound_said, DistanceGiven, BoundGiven}
use Rattle.views.proofs.Judging.{bound_clean}
use Rattle.views.proofs.Answered.{input_asked, distance_answered, bound_answered}
use Rattle.views.proofs.Promises.{distance_at_unique, bound_unique}
use Rattle.watched_runs.specs.Watched.{FallsAtMost, KeepsPace}

-- v falls to w by at most k if it is at most k more than whatever w is at most ..
falls_at_most : (k : ℕ) (v w : Cost) → ((c : ℕ) → w ⊑ c → v ⊑ k + c) → FallsAtMost k v w
falls_at_most k none none h = tt
falls_at_most k none (fin b) h = absurd (h b (le_refl b))
falls_at_most k (fin a) none h = tt
falls_at_most k (fin a) (fin b) h = omega (arith, h b (le_refl b))

-- .. and nothing else: so none falls to none only ..
fallen : (k : ℕ) (v w : Cost) → FallsAtMost k v w → (c : ℕ) → w ⊑ c → v ⊑ k + c
fallen k v none h c d = absurd d
fallen k none (fin b) h c d = absurd h
fallen k (fin a) (fin b) h c d = omega arith

none_falls : (k : ℕ) (v w : Cost) → FallsAtMost k v w → v ≡ none → w ≡ none
none_falls k v none h e = refl
none_falls k v (fin b) h e = absurd (⊑_none v e (k + b) (fallen k v (fin b) h b (le_refl b)))

-- .. and what falls by its part in each map falls by the parts together in the sum
sums_fall : (p : ℕ → ℕ) (d e : ℕ → Cost) (n : ℕ) → ((m : ℕ) → m < n → FallsAtMost (p m) (d m) (e m)) → FallsAtMost (sum p n) (summed d n) (summed e n)
sums_fall p d e n h = falls_at_most (sum p n) (summed d n) (summed e n) (summed_falls d e p n (λ m l. fallen (p m) (d m) (e m) (h m l)))

-- ---- two answers that keep pace

-- where the earlier says none, the later does
pub none_kept : {A : Type 0} (said : Cost → A) → ((v w : Cost) → said v ≡ said w → v ≡ w) → (k : ℕ) {x y : A} → KeepsPace said k x y → x ≡ said none
    → y ≡ said none
none_kept said told k pace e =
    pace.3 ∙ ap said (none_falls k pace.0 pace.1 pace.4 (told pace.0 none (sym pace.2 ∙ e)))

-- what is told by answers keeps pace as they do
pub told_keeps_pace : {A B : Type 0} (said : Cost → A) (f : A → B) {j k : ℕ} {a b : A} {x y : B} → j ≡ k → x ≡ f a → y ≡ f b → KeepsPace said k a b
    → KeepsPace (λ v. f (said v)) j x y
told_keeps_pace said f e p q pace = (pace.0, pace.1, p ∙ ap f pace.2, q ∙ ap f pace.3, rw e pace.4)

-- ---- where nothing is at fault, the answer is the task's own distance or bound

module _ (t : Tables) (s : List ℕ) (clean : input_fault t s ≡ clean) where
  distance_is_away : (m : ℕ) → m < t.counts.maps → (x : Result (Option ℕ) Refusal) → DistanceGiven t m s x
      → x ≡ distance_said (away (task_of t) (state_of s) m)
  distance_is_away m l x given =
      let own = away (task_of t) (state_of s) m in
      distance_at_unique t m s x (distance_said own) given ((distance_answered t s m own).1 (input_asked t s m clean l, refl))

  bound_is_sum : (x : Result (Option ℕ) Refusal) → BoundGiven t s x → x ≡ bound_said (bound (task_of t) (state_of s))
  bound_is_sum x given =
      let own = bound (task_of t) (state_of s) in
      bound_unique t s x (bound_said own) given ((bound_answered t s own).1 (clean, refl))

-- ---- the steps os run from the state s to the state z

module _ (t : Tables) (s z os : List ℕ) (from : input_fault t s ≡ clean) (into : input_fault t z ≡ clean) (legal : Runs (sas_of t) os (state_of s))
    (lands : (v : ℕ) → v < t.counts.vars → state_of z v ≡ end (sas_of t) os (state_of s) v) where
  valid : Valid (task_of t)
  valid = (bound_clean t s from).0

  state : IsState (sas_of t) (state_of s)
  state = (bound_clean t s from).1

  away_paced : (m : ℕ) → m < t.counts.maps
      → FallsAtMost (paid ((task_of t).share m) os) (away (task_of t) (state_of s) m) (away (task_of t) (state_of z) m)
  away_paced m l =
      let reached = end (sas_of t) os (state_of s) in
      falls_at_most (paid ((task_of t).share m) os) (away (task_of t) (state_of s) m) (away (task_of t) (state_of z) m)
      (λ c d.
      sequence_lowers_by_shares (task_of t) valid m l os (state_of s) c state legal
      (subst (λ (v : Cost). v ⊑ c) (away_same (task_of t) (state_of z) reached lands m) d))

  bound_paced : FallsAtMost (sum (λ m. paid ((task_of t).share m) os) t.counts.maps) (bound (task_of t) (state_of s)) (bound (task_of t) (state_of z))
  bound_paced = sums_fall (λ m. paid ((task_of t).share m) os) (away (task_of t) (state_of s)) (away (task_of t) (state_of z)) t.counts.maps away_paced

  pub distances_keep_pace : (m k : ℕ) → m < t.counts.maps → k ≡ paid ((task_of t).share m) os → (x y : Result (Option ℕ) Refusal)
      → DistanceGiven t m s x → DistanceGiven t m z y → KeepsPace distance_said k x y
  distances_keep_pace m k l e x y p q = (
    away (task_of t) (state_of s) m,
    away (task_of t) (state_of z) m,
    distance_is_away t s from m l x p,
    distance_is_away t z into m l y q,
    rw e (away_paced m l),
  )

  pub bounds_keep_pace : (k : ℕ) → k ≡ sum (λ m. paid ((task_of t).share m) os) t.counts.maps → (x y : Result (Option ℕ) Refusal)
      → BoundGiven t s x → BoundGiven t z y → KeepsPace bound_said k x y
  bounds_keep_pace k e x y p q =
      (bound (task_of t) (state_of s), bound (task_of t) (state_of z), bound_is_sum t s from x p, bound_is_sum t z into y q, rw e bound_paced)
