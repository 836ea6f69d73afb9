-- A task's own places alone are read: tables that are read alike, and starts that agree at the variables, begin the same run; and an offer to a run gets the
-- same answer and hands back the same run. Step by step: what a step does to a run is the same. Assumes nothing.
use Prim.Native.Nat.{ℕ, ◌+◌, ◌<◌}
use mathlib.Core.Path.{◌≡◌, refl, ap, ap₂, sym, ◌∙◌}
use mathlib.Core.Bool.{Bool, true, false, ◌&&◌, ◌||◌, cond}
use mathlib.Core.List.{List, [], ◌∷◌}
use lib.Dec.{leb, ltb, eqb}
use lib.ListN.{get_or, set, take, drop, replicate}
use borrow.Author.Tests.{ltb-true}
use Rattle.refusals.specs.declared.Refusal.TheVariants.{NoSuchOperator, NotTheNext, NotARun}
use Rattle.meaning.specs.Limits.{most_vars, most_steps}
use Rattle.meaning.specs.Sas.{put}
use Rattle.meaning.specs.Columns.{stored_tests}
use Rattle.meaning.proofs.Facts.{by_cases, every_same}
use Rattle.meaning.proofs.Unread.{SameTask, complies_alike, gain_alike, may_store_alike}
use Rattle.tables.specs.Layout.{Tables, eff_row}
use Rattle.tables.specs.Task.{task_of, sas_of, state_of}
use Rattle.tables.specs.Steps.{may_run, overwritten, value_after, stepped, copied}
use Rattle.tables.proofs.Laws.{filled_same}
use Rattle.tables.proofs.Meant.{may_run_is}
use Rattle.scan.specs.Own.{OwnState}
use Rattle.scan.proofs.Unread.{unless_same, ReadAlike, input_same}
use Rattle.sequences.proofs.Passing.{input_clean}
use Rattle.std.specs.Option.{option_eq}
use Rattle.std.specs.Prelude.{Option, Some, Result, Ok, Err}
use Rattle.refusals.specs.declared.Refusal.{Refusal}
use Rattle.ledger.specs.declared.Run.{Run}
use Rattle.ledger.specs.declared.replay.Standing.{Standing}
use Rattle.ledger.specs.declared.Answer.{Answer}
use Rattle.ledger.specs.declared.Answer.TheVariants.{Accepted, Repeated}
use Rattle.ledger.specs.Ledger.{all_columns, booked_at, booked, at_start, onward, standing, fresh, advanced, can_run, within_quota, can_follow, replayed, given, start_at, starts_at}
use Rattle.ledger.specs.Ledger.{start_in, zeros, alike, is_run}
use Rattle.ledger.specs.Ledger.{old_step, next_step, offer_judged, refused_or, answered, moved, offered, started, begun}
use Rattle.ledger.proofs.Answers.{within_is, follow_both, next_full, next_not, next_beyond, next_go, next_cases}
use Rattle.ledger.proofs.Runs.{advanced_stands, can_exists, follow_exists}
use Rattle.ledger.proofs.Accepted.{accepted_had}

-- ---- behind a test that is the same: what is the same wherever the test holds

and_alike : (a b x y : Bool) → a ≡ b → (a ≡ true → x ≡ y) → (a && x) ≡ (b && y)
and_alike true b x y e h = rw (← e) (h refl)
and_alike false b x y e h = rw (← e) refl

cond_alike : {A : Type 0} (a b : Bool) (x y z : A) → a ≡ b → (a ≡ true → x ≡ y) → cond a x z ≡ cond b y z
cond_alike true b x y z e h = rw (← e) (h refl)
cond_alike false b x y z e h = rw (← e) refl

-- ---- the steps of a run, over tables that spell the same task

module _ (t u : Tables) (E : SameTask (task_of t) (task_of u)) where
  may_alike : (s : List ℕ) (o : ℕ) → o < t.counts.ops → may_run t.counts t.facts s o ≡ may_run u.counts u.facts s o
  may_alike s o lo =
      may_run_is t s o
      ∙ complies_alike E.sas ((sas_of t).pre o) ((sas_of u).pre o) (state_of s) (state_of s) (λ v l. E.sas.pre o v lo l) (λ v l. refl)
      ∙ sym (may_run_is u s o)

  can_alike : (s : List ℕ) (o : ℕ) → can_run t.counts t.facts s o ≡ can_run u.counts u.facts s o
  unfolding can_run
  can_alike s o = and_alike _ _ _ _ (ap (ltb o) E.sas.ops) (λ e. may_alike s o (ltb-true o t.counts.ops e))

  within_alike : (columns : List ℕ) (o : ℕ) → o < t.counts.ops
      → within_quota t.counts t.facts columns o ≡ within_quota u.counts u.facts columns o
  within_alike columns o lo = within_is t columns o ∙ may_store_alike E (get_or columns stored_tests 0) o lo ∙ sym (within_is u columns o)

  follow_alike : (x : Standing) (o : ℕ) → can_follow t.counts t.facts x o ≡ can_follow u.counts u.facts x o
  follow_alike x o =
      follow_both t.counts t.facts x o
      ∙ and_alike _ _ _ _ (can_alike x.now o) (λ e. within_alike x.columns o (can_exists t.counts t.facts x.now o e))
      ∙ sym (follow_both u.counts u.facts x o)

  stepped_alike : (s : List ℕ) (o : ℕ) → o < t.counts.ops → stepped t.counts t.facts s o ≡ stepped u.counts u.facts s o
  unfolding stepped
  stepped_alike s o lo =
      filled_same (value_after t.facts (eff_row o) s) (value_after u.facts (eff_row o) s) s t.counts.vars
      (λ v l. ap (λ (x : ℕ). put x (get_or s v 0)) (E.sas.eff o v lo l))
      ∙ ap (overwritten (value_after u.facts (eff_row o) s) s) E.sas.vars

  booked_alike : (columns : List ℕ) (o : ℕ) → o < t.counts.ops → booked (task_of t) columns o ≡ booked (task_of u) columns o
  unfolding booked
  booked_alike columns o lo =
      filled_same (booked_at (task_of t) columns o) (booked_at (task_of u) columns o) columns all_columns
      (λ c l. ap (λ (x : ℕ). get_or columns c 0 + x) (gain_alike E c o lo))

  onward_alike : (x : Standing) (o : ℕ) → o < t.counts.ops → onward t x o ≡ onward u x o
  unfolding onward
  onward_alike x o lo = rw (stepped_alike x.now o lo, booked_alike x.columns o lo) refl

  advanced_alike : (r : Run) (o : ℕ) → o < t.counts.ops → advanced t r o ≡ advanced u r o
  unfolding advanced
  advanced_alike r o lo =
      ap
      (λ (x : Standing).
      record { start = r.start; log = set r.log r.len o; len = r.len + 1; now = x.now; columns = x.columns })
      (advanced_stands t r o ∙ onward_alike (standing r) o lo ∙ sym (advanced_stands u r o))

  replayed_alike : (os : List ℕ) (x : Standing) → replayed t x os ≡ replayed u x os
  unfolding replayed
  replayed_alike [] x = refl
  replayed_alike (o ∷ os) x =
      cond_alike _ _ _ _ _ (follow_alike x o)
      (λ e.
      replayed_alike os (onward t x o)
      ∙ ap (λ (y : Standing). replayed u y os) (onward_alike x o (follow_exists t.counts t.facts x o e)))

  start_alike : (s : List ℕ) → start_in t.counts t.facts s ≡ start_in u.counts u.facts s
  unfolding start_in start_at
  start_alike s =
      every_same (starts_at t.counts t.facts s) (starts_at u.counts u.facts s) most_vars
      (λ v h.
      by_cases (ltb v t.counts.vars) (λ e. rw (← E.sas.vars, e) (ap (ltb (get_or s v 0)) (E.sas.dom v (ltb-true v t.counts.vars e))))
      (λ e. rw (← E.sas.vars, e) refl))

  run_alike : (r : Run) → is_run t r ≡ is_run u r
  unfolding is_run given
  run_alike r =
      ap₂ (λ (b : Bool) (x : Option Standing). leb r.len most_steps && b && zeros (drop r.len r.log) && option_eq alike x (Some (standing r)))
      (start_alike r.start) (replayed_alike (take r.len r.log) (at_start r.start))

  next_alike : (r : Run) (number o : ℕ) → next_step t.counts t.facts r number o ≡ next_step u.counts u.facts r number o
  next_alike r number o =
      let can = sym (can_alike r.now o) in
      let within : can_run t.counts t.facts r.now o ≡ true → _ =
      λ p. sym (within_alike r.columns o (can_exists t.counts t.facts r.now o p)) in
      next_cases t.counts t.facts r number o (λ x. x ≡ next_step u.counts u.facts r number o) (next_full u.counts u.facts r number o)
      (λ l p. next_not u.counts u.facts r number o l (can ∙ p))
      (λ l p q. next_beyond u.counts u.facts r number o l (can ∙ p) (within p ∙ q))
      (λ l p q. next_go u.counts u.facts r number o l (can ∙ p) (within p ∙ q))

  judged_alike : (r : Run) (number o : ℕ) → offer_judged t.counts t.facts r number o ≡ offer_judged u.counts u.facts r number o
  unfolding offer_judged
  judged_alike r number o =
      ap₂
      (λ (n : ℕ) (next : Result Answer Refusal).
      cond (leb n o) (Err (NoSuchOperator number))
      (cond (eqb number 0 || ltb (r.len + 1) number) (Err (NotTheNext number)) (cond (leb number r.len) (old_step r number o) next)))
      E.sas.ops (next_alike r number o)

-- ---- the entries

module _ {t u : Tables} (E : ReadAlike t u) where
  pub answered_alike : (r : Run) (number o : ℕ) → answered t r number o ≡ answered u r number o
  unfolding answered
  answered_alike r number o =
      unless_same refused_or (λ r x y. refl) _ _ _ _ E.fault
      (λ e. ap₂ (λ (b : Bool) (x : Result Answer Refusal). cond b x (Err NotARun)) (run_alike t u (E.task e) r) (judged_alike t u (E.task e) r number o))

  -- the run that an offer hands back: advanced alike, or as it was
  moved_alike : (r : Run) (number o : ℕ) (x : Result Answer Refusal) → answered t r number o ≡ x → moved t r o x ≡ moved u r o x
  moved_alike r number o (Ok Accepted) e =
      let had = accepted_had t r number o e in
      advanced_alike t u (E.task had.clean) r o had.exists
  moved_alike r number o (Ok Repeated) e = refl
  moved_alike r number o (Err f) e = refl

  pub offered_alike : (r : Run) (number o : ℕ) → offered t r number o ≡ offered u r number o
  unfolding offered
  offered_alike r number o =
      ap (λ (q : Run). record { run = q; answer = answered t r number o }) (moved_alike r number o (answered t r number o) refl)
      ∙ ap (λ (x : Result Answer Refusal). record { run = moved u r o x; answer = x }) (answered_alike r number o)

  pub begun_alike : (s z : List ℕ) → OwnState t.counts s z → begun t s ≡ begun u z
  unfolding begun started copied
  begun_alike s z O =
      unless_same started (λ r x y. refl) _ _ _ _ (input_same E s z O)
      (λ e.
      ap fresh
      (filled_same (state_of s) (state_of z) (replicate most_vars 0) t.counts.vars O.values
      ∙ ap (overwritten (state_of z) (replicate most_vars 0)) (E.task (input_clean t s e).0).sas.vars))
