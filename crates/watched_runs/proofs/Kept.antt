-- ANY RUN THAT THE DESK TAKES, begun here or kept elsewhere: one that isn't 17, since it is what its start and log give. Between two of its moments each map's
-- distance, and the bound, fall by at most what the map, or the maps together, were paid in between. By the steps that were really run in between, which lead
-- from the one state to the other. Assumes nothing.
use mathlib.Core.Path.{◌≡◌, refl, sym, ◌∙◌, subst}
use mathlib.Core.List.{List, ◌++◌}
use Prim.Native.Nat.{ℕ, ◌-◌, ◌<◌}
use native.Mathlib.Omega.{arith}
use Rattle.scan.specs.Found.{clean}
use Rattle.meaning.specs.Sas.{IsState, Runs, end, paid}
use Rattle.meaning.specs.Split.{Task, sum, Valid}
use Rattle.meaning.proofs.Columns.{sum_same}
use Rattle.scan.specs.Scan.{tables_fault, input_fault}
use Rattle.scan.proofs.Validity.{clean_valid, state_clean}
use Rattle.tables.specs.Layout.{Tables}
use Rattle.tables.specs.Task.{sas_of, task_of, state_of}
use Rattle.sequences.proofs.Passing.{clean_input}
use Rattle.ledger.specs.declared.Run.{Run}
use Rattle.ledger.specs.History.{Offer, added, ran, Between, GivenByStartAndLog, Sized}
use Rattle.ledger.proofs.Sequences.{runs_same, end_same}
use Rattle.ledger.proofs.Told.{Told}
use Rattle.ledger.proofs.History.{gains_shares, ran_told, told_state, told_between}
use Rattle.ledger.proofs.Sound.{given_told}
use Rattle.watched_runs.specs.Watched.{column_of, paid_between, Shows, NeverJumps}
use Rattle.watched_runs.proofs.Pace.{distances_keep_pace, bounds_keep_pace}

-- ---- what the maps were paid between two moments are their shares of the steps between

module _ (T : Task) (valid : Valid T) (os : List ℕ) (earlier later : Run) (steps : Between T os earlier later) where
  map_grew : (m : ℕ) → m < T.maps → column_of later m - column_of earlier m ≡ paid (T.share m) os
  map_grew m l = omega (arith, steps.column m (omega (arith, valid.maps.1)), gains_shares T (state_of earlier.now) os steps.legal m l)

  maps_grew : paid_between (column_of earlier) (column_of later) T.maps ≡ sum (λ m. paid (T.share m) os) T.maps
  maps_grew = sum_same _ _ T.maps (λ m l. omega (arith, map_grew m l))

-- ---- THE THEOREM

module _ (t : Tables) (r : Run) (judged : tables_fault t ≡ clean) (sized : Sized r) (given : GivenByStartAndLog (task_of t) r) where
  valid : Valid (task_of t)
  valid = clean_valid t judged

  -- the steps that it tells
  abbrev done : List ℕ
  done = (given_told t judged r sized given).0

  told : (xs : List Offer) → Told t r.start (done ++ added (task_of t) (state_of r.start) done xs) (ran t r xs)
  told xs = ran_told t r.start judged given.0 xs done r (given_told t judged r sized given).1

  now_state : (xs : List Offer) → IsState (sas_of t) (state_of (ran t r xs).now)
  now_state xs = told_state t r.start judged given.0 (done ++ added (task_of t) (state_of r.start) done xs) (ran t r xs) (told xs)

  -- at every moment the run's own list shows its state now
  pub kept_now_shown : (xs : List Offer) → Shows t.counts.vars (ran t r xs).now (state_of (ran t r xs).now)
  kept_now_shown xs = (omega (arith, (told xs).sized.now, valid.vars.1), λ v l. refl)

  -- what shows the state now is not refused
  now_clean : (xs : List Offer) (a : List ℕ) → Shows t.counts.vars a (state_of (ran t r xs).now) → input_fault t a ≡ clean
  now_clean xs a (long, same) =
      let state = now_state xs in
      clean_input t a judged ((state_clean t a).1 (long, λ v l. subst (λ (x : ℕ). x < (sas_of t).dom v) (sym (same v l)) (state v l)))

  -- BETWEEN TWO MOMENTS: after the offers xs, and after the offers ys that follow them
  module _ (xs ys : List Offer) where
    abbrev earlier : Run
    earlier = ran t r xs

    abbrev later : Run
    later = ran t r (xs ++ ys)

    abbrev steps : List ℕ
    steps = added (task_of t) (state_of r.start) (done ++ added (task_of t) (state_of r.start) done xs) ys

    between : Between (task_of t) steps earlier later
    between = told_between t r.start judged given.0 done r (given_told t judged r sized given).1 xs ys

    module _ (a b : List ℕ) (p : Shows t.counts.vars a (state_of earlier.now)) (q : Shows t.counts.vars b (state_of later.now)) where
      back : (v : ℕ) → v < t.counts.vars → state_of earlier.now v ≡ state_of a v
      back v l = sym (p.1 v l)

      legal : Runs (sas_of t) steps (state_of a)
      legal = runs_same (sas_of t) steps (state_of earlier.now) (state_of a) back between.legal

      lands : (v : ℕ) → v < t.counts.vars → state_of b v ≡ end (sas_of t) steps (state_of a) v
      lands v l = q.1 v l ∙ between.now v l ∙ end_same (sas_of t) steps (state_of earlier.now) (state_of a) back v l

      pub kept_never_jumps : NeverJumps t earlier later a b
      kept_never_jumps =
          record {
            column = λ c l. omega (arith, between.column c l);
            map =
                λ m l.
                distances_keep_pace t a b steps (now_clean xs a p) (now_clean (xs ++ ys) b q) legal lands m (column_of later m - column_of earlier m) l
                (map_grew (task_of t) valid steps earlier later between m l);
            bound =
                bounds_keep_pace t a b steps (now_clean xs a p) (now_clean (xs ++ ys) b q) legal lands
                (paid_between (column_of earlier) (column_of later) t.counts.maps) (maps_grew (task_of t) valid steps earlier later between);
          }
