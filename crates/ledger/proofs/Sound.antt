-- 17, EXACTLY: a run is what its start and log give exactly if its start is a state of the task and it tells steps from there; and there is only one run
-- that tells given steps. So a run that passes is determined at every place, and every run that tells its steps passes. Assumes nothing.
use Prim.Native.Nat.{ℕ, ◌+◌, ◌≤◌, ◌<◌}
use mathlib.Core.Path.{◌≡◌, refl, ap, sym, ◌∙◌, subst}
use mathlib.Core.Logic.{◌↔◌, ◌⊎◌, inl, inr, ⊎_elim}
use mathlib.Core.List.{List, [], ◌∷◌, ◌++◌, append_assoc, append-nil}
use mathlib.Core.Bool.{true, false, false≢true}
use native.Mathlib.Omega.{arith}
use lib.ListN.{length, get_or, take, length-append, length-take}
use lib.Seq.{ext_get_or, get_or-take}
use borrow.Author.Tests.{lt-ltb, eqb-true, ltb-true}
use Rattle.scan.specs.Found.{clean}
use Rattle.meaning.specs.Limits.{most_vars, most_steps}
use Rattle.meaning.specs.Sas.{State, IsState, Runs, end}
use Rattle.meaning.specs.Split.{Task, Valid}
use Rattle.meaning.specs.Quota.{stored, KeepsQuota}
use Rattle.meaning.proofs.Quota.{paid_parts, stores_within}
use Rattle.meaning.proofs.Facts.{every_true, true_complies, by_cases, by_order}
use Rattle.scan.specs.Scan.{tables_fault}
use Rattle.scan.proofs.Validity.{clean_valid}
use Rattle.tables.specs.Layout.{Tables, dom_at}
use Rattle.tables.specs.Task.{task_of, sas_of, state_of}
use Rattle.std.specs.Prelude.{Option, Some, None}
use Rattle.ledger.specs.declared.Run.{Run}
use Rattle.ledger.specs.declared.replay.Standing.{Standing}
use Rattle.ledger.specs.Ledger.{all_columns, at_start, standing, fresh, advanced, can_follow, replayed, given, starts_at, start_in, is_run}
use Rattle.ledger.specs.History.{may_follow, Tells, GivenByStartAndLog, Sized}
use Rattle.ledger.proofs.Answers.{start_within, start_beyond}
use Rattle.ledger.proofs.Runs.{SamePlaces, Tested, advanced_stands, zeros_unused, replayed_yes, replayed_no, run_tested}
use Rattle.ledger.proofs.Begun.{start_of, from_at, from_beyond, from_size}
use Rattle.ledger.proofs.Sequences.{end_append}
use Rattle.ledger.proofs.Told.{Told, fresh_told, step_told, follow_is, is_run_lem}

-- ---- one run

places_equal : (n : ℕ) (xs ys : List ℕ) → length xs ≡ n → length ys ≡ n → ((i : ℕ) → i < n → get_or xs i 0 ≡ get_or ys i 0) → xs ≡ ys
places_equal n xs ys p q h = ext_get_or 0 xs ys (p ∙ sym q) (λ i l. h i (omega arith))

-- runs that are the same at every place are one
same_equal : (r q : Run) → Sized r → Sized q → SamePlaces r q → r ≡ q
same_equal r q z w e =
    let start = places_equal most_vars r.start q.start z.start w.start e.start in
    let log = places_equal most_steps r.log q.log z.log w.log e.log in
    let now = places_equal most_vars r.now q.now z.now w.now e.now in
    let columns = places_equal all_columns r.columns q.columns z.columns w.columns e.columns in
    ap (λ (x : List ℕ). record { start = x; log = r.log; len = r.len; now = r.now; columns = r.columns }) start
    ∙ ap (λ (x : List ℕ). record { start = q.start; log = x; len = r.len; now = r.now; columns = r.columns }) log
    ∙ ap (λ (x : ℕ). record { start = q.start; log = q.log; len = x; now = r.now; columns = r.columns }) e.len
    ∙ ap (λ (x : List ℕ). record { start = q.start; log = q.log; len = q.len; now = x; columns = r.columns }) now
    ∙ ap (λ (x : List ℕ). record { start = q.start; log = q.log; len = q.len; now = q.now; columns = x }) columns

-- THERE IS ONLY ONE RUN THAT TELLS THE STEPS
module _ (T : Task) (s : State) (done : List ℕ) (r q : Run) (a : Tells T s done r) (b : Tells T s done q) where
  log_equal : (i : ℕ) → get_or r.log i 0 ≡ get_or q.log i 0
  log_equal i =
      by_order i (length done)
      (λ h.
      sym (get_or-take (length done) r.log i 0 h)
      ∙ ap (λ (l : List ℕ). get_or l i 0) (a.log ∙ sym b.log)
      ∙ get_or-take (length done) q.log i 0 h)
      (λ h. a.log_unused i h ∙ sym (b.log_unused i h))

  tells_same : SamePlaces r q
  tells_same =
      let n = T.sas.vars in
      record {
        start = λ v l. by_order v n (λ h. a.start v h ∙ sym (b.start v h)) (λ h. a.start_unused v h ∙ sym (b.start_unused v h));
        now = λ v l. by_order v n (λ h. a.now v h ∙ sym (b.now v h)) (λ h. a.now_unused v h ∙ sym (b.now_unused v h));
        len = a.len ∙ sym b.len;
        log = λ i l. log_equal i;
        columns = λ c l. a.column c l ∙ sym (b.column c l);
      }

  pub tells_one : Sized r → Sized q → r ≡ q
  tells_one z w = same_equal r q z w tells_same

-- ---- replaying steps: each can be the next and the run then tells them; or they may not run one after another, or don't keep the quota

module _ (t : Tables) (s : List ℕ) (clean : tables_fault t ≡ clean) (state : IsState (sas_of t) (state_of s)) where
  -- some run tells them all and stands where they lead
  abbrev TellsAll : List ℕ → List ℕ → Run → Type 0
  TellsAll done os q = (z : Run) × (replayed t (standing q) os ≡ Some (standing z)) × Told t s (done ++ os) z

  abbrev Stops : List ℕ → List ℕ → Run → Type 0
  Stops done os q =
      (replayed t (standing q) os ≡ None) × (Runs (sas_of t) os (end (sas_of t) done (state_of s)) → KeepsQuota (task_of t) (done ++ os) → ⊥)

  module _ (done : List ℕ) (q : Run) (told : Told t s done q) (o : ℕ) (os : List ℕ) where
    abbrev more : List ℕ
    more = done ++ (o ∷ [])

    -- the steps after one that can follow lead on from the run with that step
    after : can_follow t.counts t.facts (standing q) o ≡ true → replayed t (standing q) (o ∷ os) ≡ replayed t (standing (advanced t q o)) os
    after p = replayed_yes t (standing q) o os p ∙ ap (λ (x : Standing). replayed t x os) (sym (advanced_stands t q o))

    replay_on : can_follow t.counts t.facts (standing q) o ≡ true → TellsAll more os (advanced t q o) ⊎ Stops more os (advanced t q o)
        → TellsAll done (o ∷ os) q ⊎ Stops done (o ∷ os) q
    replay_on p (inl (z, k, on)) = inl (z, after p ∙ k, subst (λ (l : List ℕ). Told t s l z) (append_assoc done (o ∷ []) os) on)
    replay_on p (inr (k, never)) =
        inr (
          after p ∙ k,
          λ h keeps.
              never (subst (Runs (sas_of t) os) (sym (end_append (sas_of t) done (o ∷ []) (state_of s))) h.2)
              (subst (KeepsQuota (task_of t)) (sym (append_assoc done (o ∷ []) os)) keeps),
        )

    replay_not : can_follow t.counts t.facts (standing q) o ≡ false → Stops done (o ∷ os) q
    unfolding may_follow
    replay_not p = (
      replayed_no t (standing q) o os p,
      λ h keeps.
          let may = true_complies (sas_of t) ((sas_of t).pre o) (end (sas_of t) done (state_of s)) h.1 in
          let within = stores_within (task_of t) (stored (task_of t) done) o (omega (arith, paid_parts (task_of t).mark done (o ∷ os))) in
          false≢true (sym p ∙ follow_is t s clean state done q told o ∙ rw (lt-ltb o t.counts.ops h.0, may, within) refl),
    )

  replay_either : (os done : List ℕ) (q : Run) → Told t s done q → length done + length os ≤ most_steps
      → TellsAll done os q ⊎ Stops done os q
  unfolding replayed
  replay_either [] done q told l = inl (q, refl, rw (append-nil done) told)
  replay_either (o ∷ os) done q told l =
      by_cases (can_follow t.counts t.facts (standing q) o)
      (λ p.
      replay_on done q told o os p
      (replay_either os (done ++ (o ∷ [])) (advanced t q o) (step_told t s clean state done q told o p (omega arith))
      (omega (arith, length-append done (o ∷ [])))))
      (λ p. inr (replay_not done q told o os p))

  -- from the fresh run
  abbrev replay : List ℕ → Option Standing
  replay os = replayed t (at_start (start_of t s)) os

  from_fresh : {A : Type 0} (os : List ℕ) → length os ≤ most_steps
      → ((z : Run) → replay os ≡ Some (standing z) → Told t s os z → A)
      → ((replay os ≡ None) × (Runs (sas_of t) os (state_of s) → KeepsQuota (task_of t) os → ⊥) → A)
      → A
  unfolding fresh
  from_fresh os l on off =
      ⊎_elim (λ x. on x.0 x.1 x.2) off (replay_either os [] (fresh (start_of t s)) (fresh_told t s clean state) (omega arith))

-- ---- the start of a run that passes

module _ (t : Tables) (valid : Valid (task_of t)) (s : List ℕ) (wide : length s ≡ most_vars)
    (p : start_in t.counts t.facts s ≡ true) where
  place : (v : ℕ) → v < most_vars → starts_at t.counts t.facts s v ≡ true
  unfolding start_in
  place v h = every_true (starts_at t.counts t.facts s) most_vars p v h

  start_state : IsState (sas_of t) (state_of s)
  start_state v l =
      ltb-true (state_of s v) (dom_at t.facts v)
      (start_within t.counts t.facts v (state_of s v) (dom_at t.facts v) l refl
      ∙ place v (omega (arith, valid.vars.1)))

  start_from_self : start_of t s ≡ s
  start_from_self =
      places_equal most_vars (start_of t s) s (from_size t s valid) wide
      (λ v h.
      by_order v t.counts.vars (from_at t s valid v)
      (λ l.
      from_beyond t s valid v l
      ∙ sym (eqb-true (state_of s v) 0 (start_beyond t.counts t.facts v (state_of s v) l ∙ place v h))))

-- a run that passes has, at every place, what the run has that replaying its own log leads to
replayed_places : {t : Tables} (r z : Run) → Sized r → Tested t r → Told t r.start (take r.len r.log) z → start_of t r.start ≡ r.start
    → standing r ≡ standing z
    → SamePlaces r z
replayed_places {t} r z sized tested told self same =
    let done = take r.len r.log in
    let many : length done ≡ r.len = omega (arith, length-take r.len r.log, sized.log, tested.len) in
    record {
      start = λ v h. ap (λ (l : List ℕ). get_or l v 0) (sym (told.from ∙ self));
      now = λ v h. ap (λ (x : Standing). get_or x.now v 0) same;
      len = sym (told.tells.len ∙ many);
      log =
          λ i h.
          by_order i r.len
          (λ l.
          sym (get_or-take r.len r.log i 0 l)
          ∙ ap (λ (l : List ℕ). get_or l i 0) (sym told.tells.log)
          ∙ get_or-take (length done) z.log i 0 (omega arith))
          (λ l. zeros_unused r.log r.len tested.unused i l ∙ sym (told.tells.log_unused i (omega arith)));
      columns = λ c h. ap (λ (x : Standing). get_or x.columns c 0) same;
    }

-- ---- THE THEOREM

module _ (t : Tables) (clean : tables_fault t ≡ clean) (r : Run) (sized : Sized r) where
  abbrev TellsSteps : Type 0
  TellsSteps = (done : List ℕ) × Tells (task_of t) (state_of r.start) done r

  run_tells : is_run t r ≡ true → IsState (sas_of t) (state_of r.start) × TellsSteps
  unfolding given
  run_tells p =
      let tested = run_tested t r p in
      let state = start_state t (clean_valid t clean) r.start sized.start tested.inside in
      let done = take r.len r.log in
      let self = start_from_self t (clean_valid t clean) r.start sized.start tested.inside in
      let again : replayed t (at_start (start_of t r.start)) done ≡ given t r = ap (λ (x : List ℕ). replayed t (at_start x) done) self in (
        state,
        from_fresh t r.start clean state done (omega (arith, length-take r.len r.log, tested.len))
            (λ z leads told.
            let same : standing r ≡ standing z = (let e = sym tested.same ∙ sym again ∙ leads in cc) in
            let one : r ≡ z = same_equal r z sized told.sized (replayed_places r z sized tested told self same) in
            (done, subst (Tells (task_of t) (state_of r.start) done) (sym one) told.tells))
            (λ off. let e = sym tested.same ∙ sym again ∙ off.0 in cc),
      )

  -- a run that is what its start and log give tells its steps, and is the run that replaying them gives
  pub given_told : GivenByStartAndLog (task_of t) r → (done : List ℕ) × Told t r.start done r
  given_told (state, (done, tells)) =
      from_fresh t r.start clean state done tells.few
      (λ z leads told.
      let one : r ≡ z = tells_one (task_of t) (state_of r.start) done r z tells told.tells sized told.sized in
      (done, subst (Told t r.start done) (sym one) told))
      (λ off. absurd (off.1 tells.legal tells.keeps))

  tells_run : GivenByStartAndLog (task_of t) r → is_run t r ≡ true
  tells_run h =
      let told = given_told h in
      is_run_lem t r.start clean h.0 told.0 r told.1

  pub run_exactly : (is_run t r ≡ true) ↔ GivenByStartAndLog (task_of t) r
  run_exactly = (run_tells, tells_run)
