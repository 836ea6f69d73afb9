-- THE BOUND DOESN'T JUMP. Of any start that `begin` accepts and any offers, refused and repeated ones among them: between two moments each map's distance, and
-- the bound, fall by at most what the map, or the maps together, were paid in between; and at every moment the bound at the start is at most what the maps were
-- paid so far and the bound now. A run that was begun is one that the desk takes (Kept.antt). Assumes nothing.
use mathlib.Core.Path.{◌≡◌, refl, sym, ◌∙◌, subst}
use mathlib.Core.List.{List, [], ◌++◌}
use Prim.Native.Nat.{ℕ, ◌<◌}
use native.Mathlib.Omega.{arith}
use Rattle.std.specs.Prelude.{Option, None, Result, Ok}
use Rattle.refusals.specs.declared.Refusal.{Refusal}
use Rattle.meaning.specs.Split.{sum}
use Rattle.meaning.proofs.Columns.{sum_same}
use Rattle.scan.proofs.Validity.{clean_valid, state_clean}
use Rattle.tables.specs.Layout.{Tables}
use Rattle.tables.specs.Task.{task_of, state_of}
use Rattle.views.specs.Entries.{distance_said, bound_said, DistanceGiven, BoundGiven}
use Rattle.views.proofs.Answered.{distance_said_lem, bound_said_lem}
use Rattle.sequences.proofs.Passing.{input_clean}
use Rattle.ledger.specs.declared.Run.{Run}
use Rattle.ledger.specs.declared.Answer.TheVariants.{Accepted}
use Rattle.ledger.specs.Ledger.{begun}
use Rattle.ledger.specs.History.{Offer, added, really_run, ran, run_after, GivenByStartAndLog, Sized}
use Rattle.ledger.proofs.Entries.{Began, accepted_began}
use Rattle.ledger.proofs.Told.{is_run_lem}
use Rattle.ledger.proofs.History.{after_told, history, run_sized, map_paid}
use Rattle.ledger.proofs.Sound.{run_exactly}
use Rattle.watched_runs.specs.Watched.{KeepsPace, column_of, Shows, NeverJumps}
use Rattle.watched_runs.proofs.Pace.{none_kept}
use Rattle.watched_runs.proofs.Kept.{kept_now_shown, kept_never_jumps}

-- where the earlier is none, the later is: of a map, and of the bound
module _ (t : Tables) (earlier later : Run) (a b : List ℕ) (never : NeverJumps t earlier later a b) where
  pub map_none_stays : (m : ℕ) → m < t.counts.maps → (x y : Result (Option ℕ) Refusal) → DistanceGiven t m a x → DistanceGiven t m b y → x ≡ Ok None
      → y ≡ Ok None
  map_none_stays m l x y f g = none_kept distance_said distance_said_lem _ (never.map m l x y f g)

  pub none_stays : (x y : Result (Option ℕ) Refusal) → BoundGiven t a x → BoundGiven t b y → x ≡ Ok None → y ≡ Ok None
  none_stays x y f g = none_kept bound_said bound_said_lem _ (never.bound x y f g)

-- ---- of any accepted start and any offers

module _ (t : Tables) (s : List ℕ) (accepted : (begun t s).answer ≡ Ok Accepted) where
  began : Began t s
  began = accepted_began t s accepted

  -- the run that is begun is one that the desk takes
  pub begun_sized : Sized (begun t s).run
  unfolding ran
  begun_sized = run_sized t s accepted []

  pub begun_given : GivenByStartAndLog (task_of t) (begun t s).run
  unfolding ran
  begun_given =
      (run_exactly t began.clean (begun t s).run begun_sized).0
      (is_run_lem t s began.clean began.state (really_run (task_of t) (state_of s) []) (begun t s).run (after_told t s accepted []))

  -- at every moment the run's own lists show its state now, and the start as it was handed in; and what was handed in shows that too
  pub now_shown : (xs : List Offer) → Shows t.counts.vars (run_after t s xs).now (state_of (run_after t s xs).now)
  now_shown = kept_now_shown t (begun t s).run began.clean begun_sized begun_given

  pub start_shown : (xs : List Offer) → Shows t.counts.vars (run_after t s xs).start (state_of s)
  start_shown xs = (omega (arith, (run_sized t s accepted xs).start, (clean_valid t began.clean).vars.1), (history t s accepted xs).start)

  pub handed_in_shown : Shows t.counts.vars s (state_of s)
  handed_in_shown = (((state_clean t s).0 (input_clean t s began.input).1).0, λ v l. refl)

  -- BETWEEN TWO MOMENTS: after the offers xs, and after the offers ys that follow them
  pub never_jumps : (xs ys : List Offer) (a b : List ℕ) → Shows t.counts.vars a (state_of (run_after t s xs).now)
      → Shows t.counts.vars b (state_of (run_after t s (xs ++ ys)).now) → NeverJumps t (run_after t s xs) (run_after t s (xs ++ ys)) a b
  never_jumps = kept_never_jumps t (begun t s).run began.clean begun_sized begun_given

  -- AT EVERY MOMENT the bound at the start is at most what the maps were paid so far and the bound now; and so of each map alone
  module _ (xs : List Offer) (a b : List ℕ) (p : Shows t.counts.vars a (state_of s)) (q : Shows t.counts.vars b (state_of (run_after t s xs).now)) where
    -- the start is the first moment, at which nothing was paid
    at_start : Shows t.counts.vars a (state_of (run_after t s []).now)
    unfolding added
    at_start = (p.0, λ v l. p.1 v l ∙ sym ((history t s accepted []).now v l))

    nothing_yet : (m : ℕ) → m < t.counts.maps → column_of (run_after t s []) m ≡ 0
    unfolding added
    nothing_yet m l = map_paid t s accepted [] m l

    pub map_from_start : (m : ℕ) → m < t.counts.maps → (x y : Result (Option ℕ) Refusal) → DistanceGiven t m a x → DistanceGiven t m b y
        → KeepsPace distance_said (column_of (run_after t s xs) m) x y
    map_from_start m l x y f g =
        subst (λ (k : ℕ). KeepsPace distance_said k x y) (omega (arith, nothing_yet m l)) ((never_jumps [] xs a b at_start q).map m l x y f g)

    pub bound_from_start : (x y : Result (Option ℕ) Refusal) → BoundGiven t a x → BoundGiven t b y
        → KeepsPace bound_said (sum (column_of (run_after t s xs)) t.counts.maps) x y
    bound_from_start x y f g =
        subst (λ (k : ℕ). KeepsPace bound_said k x y)
        (sum_same _ _ t.counts.maps (λ m l. omega (arith, nothing_yet m l)))
        ((never_jumps [] xs a b at_start q).bound x y f g)
