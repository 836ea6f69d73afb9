-- THE HISTORY: after any offers a run tells the steps that the offers alone say were really run. From that: each map was paid its shares, the unshared
-- column has cost less shares, these together are the costs; and what was run between two moments is a sequence from the earlier state. Assumes nothing.
use Prim.Native.Nat.{ℕ, ◌<◌}
use mathlib.Core.Path.{◌≡◌, refl, ap, sym, ◌∙◌, subst}
use mathlib.Core.List.{List, [], ◌∷◌, ◌++◌, append_assoc, append-nil}
use native.Mathlib.Omega.{arith}
use lib.ListN.{get_or}
use Rattle.scan.specs.Found.{clean}
use Rattle.meaning.specs.Sas.{State, IsState, Runs, end, paid}
use Rattle.meaning.specs.Split.{Task, Valid, sum}
use Rattle.meaning.specs.Quota.{stored}
use Rattle.meaning.proofs.Bounds.{end_state}
use Rattle.meaning.proofs.Quota.{paid_parts, back_keeps}
use Rattle.scan.specs.Scan.{tables_fault}
use Rattle.scan.proofs.Validity.{clean_valid}
use Rattle.tables.specs.Layout.{Tables}
use Rattle.tables.specs.Task.{task_of, sas_of, state_of}
use Rattle.meaning.proofs.Facts.{by_cases}
use Rattle.std.specs.Prelude.{Ok}
use Rattle.ledger.specs.declared.Run.{Run}
use Rattle.ledger.specs.declared.Answer.TheVariants.{Accepted}
use Rattle.ledger.specs.Ledger.{fresh, offered, begun}
use Rattle.meaning.specs.Columns.{cost_columns, unshared, rest, gain}
use Rattle.ledger.specs.History.{Offer, really_runs, added, really_run, ran, run_after, Tells, Between, Sized, stored_in}
use Rattle.meaning.proofs.Columns.{sum_same, gain_map, gain_rest, gain_all}
use Rattle.ledger.proofs.Sequences.{end_append, end_same, runs_later, runs_same, paid_same, paid_sum}
use Rattle.ledger.proofs.Entries.{Began, accepted_began}
use Rattle.ledger.proofs.Begun.{start_of}
use Rattle.ledger.proofs.Told.{Told, tells_stored, fresh_told, offer_told}

-- what steps that run add to a map's column are the map's shares
pub gains_shares : (T : Task) (s : State) (os : List ℕ) → Runs T.sas os s → (m : ℕ) → m < T.maps → paid (gain T m) os ≡ paid (T.share m) os
gains_shares T s os legal m h = paid_same T.sas (gain T m) (T.share m) (λ o l. gain_map T m o h) os s legal

-- ---- what a run that tells its steps says of the columns

module _ (T : Task) (valid : Valid T) (s : State) (done : List ℕ) (r : Run) (tells : Tells T s done r) where
  -- each map was paid its shares
  tells_map : (m : ℕ) → m < T.maps → get_or r.columns m 0 ≡ paid (T.share m) done
  tells_map m h = tells.column m (omega (arith, valid.maps.1)) ∙ gains_shares T s done tells.legal m h

  -- what is left of the costs stands in the unshared column
  tells_unshared : get_or r.columns unshared 0 ≡ paid (rest T) done
  tells_unshared =
      tells.column unshared (omega arith)
      ∙ paid_same T.sas (gain T unshared) (rest T) (λ o l. gain_rest T unshared o valid.maps.1 refl) done s tells.legal

  -- these together are the costs
  pub tells_all : sum (λ c. get_or r.columns c 0) cost_columns ≡ paid T.sas.cost done
  tells_all =
      sum_same (λ c. get_or r.columns c 0) (λ c. paid (gain T c) done) cost_columns (λ c h. tells.column c (omega arith))
      ∙ paid_sum (gain T) cost_columns done
      ∙ paid_same T.sas (λ o. sum (λ c. gain T c o) cost_columns) T.sas.cost (gain_all T valid) done s tells.legal

-- ---- two runs of which the later tells more steps

tells_between : (T : Task) (s : State) (done os : List ℕ) (r q : Run) → Tells T s done r → Tells T s (done ++ os) q → Between T os r q
tells_between T s done os r q before after =
    let back : (v : ℕ) → v < T.sas.vars → end T.sas done s v ≡ state_of r.now v = λ v l. sym (before.now v l) in
    record {
      legal =
          runs_same T.sas os (end T.sas done s) (state_of r.now) back (runs_later T.sas done os s after.legal);
      keeps = back_keeps T done os after.keeps;
      now =
          λ v l.
          after.now v l
          ∙ ap (λ (f : State). f v) (end_append T.sas done os s)
          ∙ end_same T.sas os (end T.sas done s) (state_of r.now) back v l;
      column = λ c h. omega (arith, before.column c h, after.column c h, paid_parts (gain T c) done os);
    }

-- ---- after any offers

ran_append : (t : Tables) (r : Run) (xs ys : List Offer) → ran t r (xs ++ ys) ≡ ran t (ran t r xs) ys
unfolding ran
ran_append t r [] ys = refl
ran_append t r (x ∷ xs) ys = ran_append t (offered t r x.number x.op).run xs ys

module _ (t : Tables) (s : List ℕ) (clean : tables_fault t ≡ clean) (state : IsState (sas_of t) (state_of s)) where
  pub ran_told : (xs : List Offer) (done : List ℕ) (q : Run) → Told t s done q
      → Told t s (done ++ added (task_of t) (state_of s) done xs) (ran t q xs)
  unfolding ran added
  ran_told [] done q told = rw (append-nil done) told
  ran_told (x ∷ xs) done q told =
      let next = (offered t q x.number x.op).run in
      let on = offer_told t s clean state done q told x in
      by_cases (really_runs (task_of t) (state_of s) done x)
      (λ p.
      rw p
      (subst (λ (l : List ℕ). Told t s l (ran t next xs))
      (append_assoc done (x.op ∷ []) (added (task_of t) (state_of s) (done ++ (x.op ∷ [])) xs))
      (ran_told xs (done ++ (x.op ∷ [])) next (rw p at on))))
      (λ p. rw p (ran_told xs done next (rw p at on)))

  fresh_ran : (xs : List Offer) → Told t s (really_run (task_of t) (state_of s) xs) (ran t (fresh (start_of t s)) xs)
  fresh_ran xs = ran_told xs [] (fresh (start_of t s)) (fresh_told t s clean state)

  -- of a run that tells steps: its state now is a state of the task ..
  pub told_state : (done : List ℕ) (q : Run) → Told t s done q → IsState (sas_of t) (state_of q.now)
  told_state done q told v l =
      rw (told.tells.now v l) (end_state (sas_of t) (clean_valid t clean).proper done (state_of s) state told.tells.legal v l)

  -- .. and what further offers add runs from the earlier state to the later, and the columns grow by it
  pub told_between : (done : List ℕ) (q : Run) → Told t s done q → (xs ys : List Offer)
      → Between (task_of t) (added (task_of t) (state_of s) (done ++ added (task_of t) (state_of s) done xs) ys) (ran t q xs) (ran t q (xs ++ ys))
  told_between done q told xs ys =
      let earlier = ran t q xs in
      let so_far = done ++ added (task_of t) (state_of s) done xs in
      let on = ran_told xs done q told in
      rw (ran_append t q xs ys)
      (tells_between (task_of t) (state_of s) so_far (added (task_of t) (state_of s) so_far ys) earlier (ran t earlier ys) on.tells
      (ran_told ys so_far earlier on).tells)

-- ---- THE THEOREMS, of any accepted start and any offers, so at every moment

module _ (t : Tables) (s : List ℕ) (accepted : (begun t s).answer ≡ Ok Accepted) where
  began : Began t s
  began = accepted_began t s accepted

  valid : Valid (task_of t)
  valid = clean_valid t began.clean

  pub after_told : (xs : List Offer) → Told t s (really_run (task_of t) (state_of s) xs) (run_after t s xs)
  after_told xs = rw began.run (fresh_ran t s began.clean began.state xs)

  -- the run tells the steps really run
  pub history : (xs : List Offer) → Tells (task_of t) (state_of s) (really_run (task_of t) (state_of s) xs) (run_after t s xs)
  history xs = (after_told xs).tells

  -- it is as its type has it
  pub run_sized : (xs : List Offer) → Sized (run_after t s xs)
  run_sized xs = (after_told xs).sized

  -- the state now is a state of the task
  pub now_state : (xs : List Offer) → IsState (sas_of t) (state_of (run_after t s xs).now)
  now_state xs = told_state t s began.clean began.state (really_run (task_of t) (state_of s) xs) (run_after t s xs) (after_told xs)

  -- each map was paid its shares of them
  pub map_paid : (xs : List Offer) (m : ℕ) → m < t.counts.maps
      → get_or (run_after t s xs).columns m 0 ≡ paid ((task_of t).share m) (really_run (task_of t) (state_of s) xs)
  map_paid xs = tells_map (task_of t) valid (state_of s) (really_run (task_of t) (state_of s) xs) (run_after t s xs) (history xs)

  -- the unshared column has their costs less their shares
  pub unshared_paid : (xs : List Offer)
      → get_or (run_after t s xs).columns unshared 0 ≡ paid (rest (task_of t)) (really_run (task_of t) (state_of s) xs)
  unshared_paid xs =
      tells_unshared (task_of t) valid (state_of s) (really_run (task_of t) (state_of s) xs) (run_after t s xs) (history xs)

  -- the columns of the cost together are their costs
  pub all_paid : (xs : List Offer)
      → sum (λ c. get_or (run_after t s xs).columns c 0) cost_columns ≡ paid (sas_of t).cost (really_run (task_of t) (state_of s) xs)
  all_paid xs = tells_all (task_of t) valid (state_of s) (really_run (task_of t) (state_of s) xs) (run_after t s xs) (history xs)

  -- the column of the stored tests counts theirs, and is none of those
  pub stored_told : (xs : List Offer) → stored_in (run_after t s xs) ≡ stored (task_of t) (really_run (task_of t) (state_of s) xs)
  stored_told xs = tells_stored (task_of t) valid (state_of s) (really_run (task_of t) (state_of s) xs) (run_after t s xs) (history xs)

  -- what further offers add runs from the earlier state to the later, and the columns grow by it
  pub between : (xs ys : List Offer)
      → Between (task_of t) (added (task_of t) (state_of s) (really_run (task_of t) (state_of s) xs) ys) (run_after t s xs)
      (run_after t s (xs ++ ys))
  between xs ys =
      rw began.run
      (told_between t s began.clean began.state [] (fresh (start_of t s)) (fresh_told t s began.clean began.state) xs ys)
