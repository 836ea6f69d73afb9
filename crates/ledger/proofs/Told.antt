-- A run that tells the steps done tells one more after an accepted offer, and the same after any other: the invariant of the history. Assumes nothing.
use Prim.Native.Nat.{ℕ, ◌+◌, ◌<◌}
use mathlib.Core.Path.{◌≡◌, refl, ap, ap₂, sym, ◌∙◌}
use mathlib.Core.List.{List, [], ◌∷◌, ◌++◌}
use mathlib.Core.Bool.{Bool, true, ◌&&◌, cond, false≢true}
use native.Mathlib.Numerals.{add-one}
use native.Mathlib.Omega.{arith}
use lib.Dec.{ltb, eqb}
use lib.ListN.{length, set, take, length-append}
use lib.Seq.{take-suc-set, get_or-set_other}
use borrow.Author.Tests.{lt-ltb, le-leb, eq-eqb, eqb-true, ltb-true}
use Rattle.scan.specs.Found.{clean}
use Rattle.meaning.specs.Limits.{most_steps}
use Rattle.meaning.specs.Sas.{State, IsState, end}
use Rattle.meaning.specs.Views.{complies}
use Rattle.meaning.specs.Split.{Task, Valid}
use Rattle.meaning.specs.Columns.{stored_tests, gain}
use Rattle.meaning.specs.Quota.{stored, KeepsQuota, may_store}
use Rattle.meaning.proofs.Columns.{gain_stored}
use Rattle.meaning.proofs.Quota.{paid_parts, may_store_lem}
use Rattle.meaning.proofs.Facts.{and_right, complies_true, complies_same, by_cases}
use Rattle.meaning.proofs.Space.{after_same}
use Rattle.scan.specs.Scan.{tables_fault}
use Rattle.scan.proofs.Validity.{clean_valid}
use Rattle.tables.specs.Layout.{Tables}
use Rattle.tables.specs.Task.{task_of, sas_of, state_of}
use Rattle.tables.specs.Steps.{stepped}
use Rattle.tables.proofs.Meant.{may_run_is, stepped_is, stepped_beyond}
use Rattle.std.specs.Prelude.{Some, Ok}
use Rattle.ledger.specs.declared.Run.{Run}
use Rattle.ledger.specs.declared.replay.Standing.{Standing}
use Rattle.ledger.specs.declared.Answer.TheVariants.{Accepted}
use Rattle.ledger.specs.Ledger.{all_columns, at_start, onward, standing, fresh, advanced, can_run, within_quota, can_follow, replayed, given, start_in, is_run, answered, offered}
use Rattle.ledger.specs.History.{Offer, may_follow, really_runs, Tells, Sized, stored_in, steps_in}
use Rattle.ledger.proofs.Gains.{zeros_at, booked_at_lem}
use Rattle.ledger.proofs.Answers.{within_is, follow_both, follow_quota, follow_parts, next_go}
use Rattle.ledger.proofs.Begun.{start_of, from_at, from_beyond, from_size, from_inside}
use Rattle.ledger.proofs.Runs.{three, advanced_stands, fresh_sized, advanced_sized, alike_refl, unused_zeros, replayed_yes, replayed_no, follow_exists}
use Rattle.ledger.proofs.Sequences.{end_append, runs_append, paid_same}
use Rattle.ledger.proofs.Accepted.{next_late, accepted_had, offer_runs, offer_stays}

length_snoc : (done : List ℕ) (o : ℕ) → length (done ++ (o ∷ [])) ≡ length done + 1
length_snoc done o = length-append done (o ∷ [])

-- a step more that can follow is replayed after the others
replayed_snoc : (t : Tables) (os : List ℕ) (x y : Standing) (o : ℕ) → replayed t x os ≡ Some y
    → can_follow t.counts t.facts y o ≡ true
    → replayed t x (os ++ (o ∷ [])) ≡ Some (onward t y o)
unfolding replayed
replayed_snoc t [] x y o e c =
    let h : x ≡ y = cc in
    let c' : can_follow t.counts t.facts x o ≡ true = rw h c in
    replayed_yes t x o [] c' ∙ ap (λ (z : Standing). Some (onward t z o)) h
replayed_snoc t (p ∷ os) x y o e c =
    by_cases (can_follow t.counts t.facts x p)
    (λ can.
    replayed_yes t x p (os ++ (o ∷ [])) can
    ∙ replayed_snoc t os (onward t x p) y o (sym (replayed_yes t x p os can) ∙ e) c)
    (λ not. let q = sym (replayed_no t x p os not) ∙ e in cc)

-- the log has the steps done and no more
pub tells_steps : (T : Task) (s : State) (done : List ℕ) (r : Run) → Tells T s done r → steps_in r ≡ done
tells_steps T s done r tells = ap (λ (k : ℕ). take k r.log) tells.len ∙ tells.log

-- the column of the stored tests counts those of the steps done
pub tells_stored : (T : Task) → Valid T → (s : State) (done : List ℕ) (r : Run) → Tells T s done r → stored_in r ≡ stored T done
tells_stored T valid s done r tells =
    tells.column stored_tests (omega arith)
    ∙ paid_same T.sas (gain T stored_tests) T.mark (λ o l. gain_stored T stored_tests o (omega (arith, valid.maps.1)) refl) done s tells.legal

-- the run tells the steps done from the lent state s, and stands where replaying them leads
pub record Told (t : Tables) (s done : List ℕ) (q : Run) : Type 0 where
  pub tells : Tells (task_of t) (state_of s) done q
  pub sized : Sized q
  pub from : q.start ≡ start_of t s
  pub given : replayed t (at_start (start_of t s)) done ≡ Some (standing q)

module _ (t : Tables) (s : List ℕ) (clean : tables_fault t ≡ clean) (state : IsState (sas_of t) (state_of s)) where
  valid : Valid (task_of t)
  valid = clean_valid t clean

  -- ---- the fresh run

  fresh_tells : Tells (task_of t) (state_of s) [] (fresh (start_of t s))
  unfolding fresh at_start
  fresh_tells =
      record {
        few = omega arith;
        len = refl;
        log = refl;
        log_unused = λ i h. zeros_at most_steps i;
        legal = tt;
        keeps = omega arith;
        start = from_at t s valid;
        start_unused = from_beyond t s valid;
        now = from_at t s valid;
        now_unused = from_beyond t s valid;
        column = λ c h. zeros_at all_columns c;
      }

  pub fresh_told : Told t s [] (fresh (start_of t s))
  unfolding fresh replayed
  fresh_told = record { tells = fresh_tells; sized = fresh_sized (start_of t s) (from_size t s valid); from = refl; given = refl }

  -- ---- what can follow is what may follow the steps done

  module _ (done : List ℕ) (q : Run) (told : Told t s done q) where
    abbrev reached : State
    reached = end (sas_of t) done (state_of s)

    can_is : (o : ℕ) → can_run t.counts t.facts q.now o ≡ (ltb o t.counts.ops && complies (sas_of t) ((sas_of t).pre o) reached)
    unfolding can_run
    can_is o =
        ap (λ (b : Bool). ltb o t.counts.ops && b)
        (may_run_is t q.now o ∙ complies_same (sas_of t) ((sas_of t).pre o) (state_of q.now) reached told.tells.now)

    quota_is : (o : ℕ) → within_quota t.counts t.facts q.columns o ≡ may_store (task_of t) (stored (task_of t) done) o
    quota_is o =
        within_is t q.columns o
        ∙ ap (λ (n : ℕ). may_store (task_of t) n o) (tells_stored (task_of t) valid (state_of s) done q told.tells)

    pub follow_is : (o : ℕ) → can_follow t.counts t.facts (standing q) o ≡ may_follow (task_of t) (state_of s) done o
    unfolding may_follow
    follow_is o = follow_both t.counts t.facts (standing q) o ∙ ap₂ ◌&&◌ (can_is o) (quota_is o)

    -- ---- one step more

    module _ (o : ℕ) (can : can_follow t.counts t.facts (standing q) o ≡ true) where
      abbrev more : List ℕ
      more = done ++ (o ∷ [])

      parts : (can_run t.counts t.facts q.now o ≡ true) × (within_quota t.counts t.facts q.columns o ≡ true)
      parts = follow_parts t.counts t.facts (standing q) o can

      may : complies (sas_of t) ((sas_of t).pre o) reached ≡ true
      may = and_right (ltb o t.counts.ops) (complies (sas_of t) ((sas_of t).pre o) reached) (sym (can_is o) ∙ parts.0)

      keeps_more : KeepsQuota (task_of t) more
      keeps_more =
          omega (arith, may_store_lem (task_of t) (stored (task_of t) done) o (sym (quota_is o) ∙ parts.1), paid_parts (task_of t).mark done (o ∷ []))

      now_more : (v : ℕ) → v < t.counts.vars → state_of (stepped t.counts t.facts q.now o) v ≡ end (sas_of t) more (state_of s) v
      now_more v h =
          stepped_is t q.now o v (omega (arith, told.sized.now, valid.vars.1)) h
          ∙ after_same (sas_of t) o (state_of q.now) reached told.tells.now v h
          ∙ ap (λ (f : State). f v) (sym (end_append (sas_of t) done (o ∷ []) (state_of s)))

      module _ (room : length done < most_steps) where
        log_more : take (length more) (set q.log q.len o) ≡ more
        log_more =
            let i : length done < length q.log = omega (arith, told.sized.log) in
            rw (length_snoc done o, add-one, told.tells.len, take-suc-set q.log (length done) o i, told.tells.log) refl

        tells_more : Tells (task_of t) (state_of s) more (advanced t q o)
        unfolding advanced onward
        tells_more =
            record {
              few = omega (arith, length_snoc done o);
              len = omega (arith, told.tells.len, length_snoc done o);
              log = log_more;
              log_unused =
                  λ i h.
                  get_or-set_other q.log q.len i o 0 (λ e. omega (arith, told.tells.len, length_snoc done o))
                  ∙ told.tells.log_unused i (omega (arith, length_snoc done o));
              legal =
                  runs_append (sas_of t) done (o ∷ []) (state_of s) told.tells.legal
                  (follow_exists t.counts t.facts (standing q) o can, complies_true (sas_of t) ((sas_of t).pre o) reached may, tt);
              keeps = keeps_more;
              start = told.tells.start;
              start_unused = told.tells.start_unused;
              now = now_more;
              now_unused = λ v h. stepped_beyond t q.now o v h ∙ told.tells.now_unused v h;
              column =
                  λ c h.
                  omega (
                    arith,
                    booked_at_lem (task_of t) q.columns o c told.sized.columns h,
                    told.tells.column c h,
                    paid_parts (gain (task_of t) c) done (o ∷ []),
                  );
            }

        pub step_told : Told t s more (advanced t q o)
        unfolding advanced
        step_told =
            record {
              tells = tells_more;
              sized = advanced_sized t q o told.sized;
              from = told.from;
              given =
                  replayed_snoc t done (at_start (start_of t s)) (standing q) o told.given can
                  ∙ ap Some (sym (advanced_stands t q o));
            }

    -- ---- it is a run, and an offer to it is accepted exactly if it is a step really run

    told_given : given t q ≡ Some (standing q)
    unfolding given
    told_given =
        ap₂ (λ (x l : List ℕ). replayed t (at_start x) l) told.from (tells_steps (task_of t) (state_of s) done q told.tells) ∙ told.given

    pub is_run_lem : is_run t q ≡ true
    unfolding is_run
    is_run_lem =
        let in_start : start_in t.counts t.facts q.start ≡ true =
        ap (start_in t.counts t.facts) told.from ∙ from_inside t s valid state in
        let unused = unused_zeros q.log q.len (λ i h. told.tells.log_unused i (omega (arith, told.tells.len))) in
        rw (told_given, le-leb q.len most_steps (omega (arith, told.tells.len, told.tells.few)), in_start, unused) (alike_refl (standing q))

    module _ (x : Offer) where
      abbrev Runs : Type 0
      Runs = really_runs (task_of t) (state_of s) done x ≡ true

      runs_tests : Runs → (eqb x.number (length done + 1) ≡ true) × (ltb (length done) most_steps ≡ true)
          × (may_follow (task_of t) (state_of s) done x.op ≡ true)
      unfolding really_runs
      runs_tests =
          three (eqb x.number (length done + 1)) (ltb (length done) most_steps) (may_follow (task_of t) (state_of s) done x.op)

      pub runs_room : Runs → length done < most_steps
      runs_room p = ltb-true (length done) most_steps (runs_tests p).1

      pub runs_follow : Runs → can_follow t.counts t.facts (standing q) x.op ≡ true
      runs_follow p = follow_is x.op ∙ (runs_tests p).2

      runs_accepted : Runs → answered t q x.number x.op ≡ Ok Accepted
      runs_accepted p =
          let parts = follow_parts t.counts t.facts (standing q) x.op (runs_follow p) in
          let room : q.len < most_steps = omega (arith, runs_room p, told.tells.len) in
          sym
          (next_late t q x.number x.op (Ok Accepted)
          (record {
            clean = clean;
            run = is_run_lem;
            exists = follow_exists t.counts t.facts (standing q) x.op (runs_follow p);
            next = omega (arith, eqb-true x.number (length done + 1) (runs_tests p).0, told.tells.len);
            answer = sym (next_go t.counts t.facts q x.number x.op room parts.0 parts.1);
          }))

      accepted_runs : answered t q x.number x.op ≡ Ok Accepted → Runs
      unfolding really_runs
      accepted_runs e =
          let had = accepted_had t q x.number x.op e in
          let l = told.tells.len in
          rw (eq-eqb x.number (length done + 1) (omega arith), lt-ltb (length done) most_steps (omega arith))
          (sym (follow_is x.op) ∙ sym (follow_quota t.counts t.facts (standing q) x.op true had.can (sym had.keeps)))

      -- the run handed back tells the steps done, with this one if it was really run
      pub offer_told : Told t s (cond (really_runs (task_of t) (state_of s) done x) (done ++ (x.op ∷ [])) done)
          (offered t q x.number x.op).run
      offer_told =
          by_cases (really_runs (task_of t) (state_of s) done x)
          (λ p. rw (p, offer_runs t q x.number x.op (runs_accepted p)) (step_told x.op (runs_follow p) (runs_room p)))
          (λ p. rw (p, offer_stays t q x.number x.op (λ e. false≢true (sym p ∙ accepted_runs e))) told)
