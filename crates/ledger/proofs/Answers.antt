-- Each case of an answer, and of a test, from the facts that a way through the code has. Assumes nothing.
use Prim.Native.Nat.{ℕ, ◌+◌, ◌-◌, ◌≤◌, ◌<◌}
use mathlib.Core.Path.{◌≡◌, refl, sym, ◌∙◌, subst}
use mathlib.Core.List.{List}
use mathlib.Core.Bool.{Bool, true, false, ◌&&◌}
use native.Mathlib.Omega.{arith}
use lib.Dec.{ltb, eqb}
use lib.ListN.{get_or}
use borrow.Author.Tests.{lt-ltb, le-ltb, le-leb, lt-leb, eq-eqb, ne_eqb}
use Rattle.std.specs.Prelude.{Result, Ok, Err}
use Rattle.refusals.specs.declared.Refusal.{Refusal}
use Rattle.refusals.specs.declared.Refusal.TheVariants.{NoSuchOperator, MayNotRun, NotTheNext, OtherOperator, RunFull, BeyondQuota}
use Rattle.meaning.specs.Columns.{stored_tests}
use Rattle.meaning.specs.Quota.{may_store}
use Rattle.meaning.proofs.Facts.{and_left, and_right, by_cases, by_order}
use Rattle.tables.specs.declared.Counts.{Counts}
use Rattle.tables.specs.Layout.{Tables, dom_at}
use Rattle.tables.specs.Task.{task_of}
use Rattle.tables.specs.Steps.{may_run, can_store}
use Rattle.tables.proofs.Meant.{can_store_is}
use Rattle.ledger.specs.declared.Run.{Run}
use Rattle.ledger.specs.declared.replay.Standing.{Standing}
use Rattle.ledger.specs.declared.Answer.{Answer}
use Rattle.ledger.specs.declared.Answer.TheVariants.{Accepted, Repeated}
use Rattle.meaning.specs.Limits.{most_steps}
use Rattle.ledger.specs.Ledger.{can_run, within_quota, can_follow, start_at, old_step, next_step, offer_judged}

-- ---- a value of a start

module _ (c : Counts) (facts : List ℕ) (v x : ℕ) where
  pub start_within : (d : ℕ) → v < c.vars → d ≡ dom_at facts v → ltb x d ≡ start_at c facts v x
  unfolding start_at
  start_within d h e = rw (lt-ltb v c.vars h, e) refl

  pub start_beyond : c.vars ≤ v → eqb x 0 ≡ start_at c facts v x
  unfolding start_at
  start_beyond h = rw (le-ltb v c.vars h) refl

-- ---- the operator exists and may run

module _ (c : Counts) (facts s : List ℕ) (o : ℕ) where
  pub can_no : c.ops ≤ o → false ≡ can_run c facts s o
  unfolding can_run
  can_no h = rw (le-ltb o c.ops h) refl

  pub can_may : (x : Bool) → o < c.ops → x ≡ may_run c facts s o → x ≡ can_run c facts s o
  unfolding can_run
  can_may x h e = rw (lt-ltb o c.ops h) e

-- ---- it keeps the quota, and can be the next step

-- THE LAW OF THE QUOTA: it is asked after as many stored tests as their column has ..
pub within_stored : (c : Counts) (facts columns : List ℕ) (o : ℕ) → within_quota c facts columns o ≡ can_store c facts (get_or columns stored_tests 0) o
unfolding within_quota can_store
within_stored c facts columns o = refl

-- .. so the test is the task's
pub within_is : (t : Tables) (columns : List ℕ) (o : ℕ) → within_quota t.counts t.facts columns o ≡ may_store (task_of t) (get_or columns stored_tests 0) o
within_is t columns o = within_stored t.counts t.facts columns o ∙ can_store_is t (get_or columns stored_tests 0) o

module _ (c : Counts) (facts : List ℕ) (x : Standing) (o : ℕ) where
  -- THE LAW OF THE NEXT STEP: both are asked
  pub follow_both : can_follow c facts x o ≡ (can_run c facts x.now o && within_quota c facts x.columns o)
  unfolding can_follow
  follow_both = by_cases (can_run c facts x.now o) (λ e. rw e refl) (λ e. rw e refl)

  pub follow_stuck : can_run c facts x.now o ≡ false → false ≡ can_follow c facts x o
  follow_stuck e = rw (follow_both, e) refl

  pub follow_quota : (b : Bool) → can_run c facts x.now o ≡ true → b ≡ within_quota c facts x.columns o → b ≡ can_follow c facts x o
  follow_quota b e q = rw (follow_both, e) q

  pub follow_parts : can_follow c facts x o ≡ true → (can_run c facts x.now o ≡ true) × (within_quota c facts x.columns o ≡ true)
  follow_parts p =
      let can = can_run c facts x.now o in
      let within = within_quota c facts x.columns o in
      (and_left can within (sym follow_both ∙ p), and_right can within (sym follow_both ∙ p))

-- ---- an old number, the next number

module _ (r : Run) (number o : ℕ) where
  pub old_same : get_or r.log (number - 1) 0 ≡ o → Ok Repeated ≡ old_step r number o
  unfolding old_step
  old_same e = rw (eq-eqb (get_or r.log (number - 1) 0) o e) refl

  pub old_other : (get_or r.log (number - 1) 0 ≡ o → ⊥) → Err (OtherOperator number) ≡ old_step r number o
  unfolding old_step
  old_other e = rw (ne_eqb (get_or r.log (number - 1) 0) o e) refl

module _ (c : Counts) (facts : List ℕ) (r : Run) (number o : ℕ) where
  -- 15 whatever else; then 12, whatever is stored; then 19
  pub next_full : most_steps ≤ r.len → Err (RunFull number) ≡ next_step c facts r number o
  unfolding next_step
  next_full h = rw (le-leb most_steps r.len h) refl

  pub next_not : r.len < most_steps → can_run c facts r.now o ≡ false → Err (MayNotRun number) ≡ next_step c facts r number o
  unfolding next_step
  next_not h e = rw (lt-leb most_steps r.len h, e) refl

  pub next_beyond : r.len < most_steps → can_run c facts r.now o ≡ true → within_quota c facts r.columns o ≡ false
      → Err (BeyondQuota number) ≡ next_step c facts r number o
  unfolding next_step
  next_beyond h e q = rw (lt-leb most_steps r.len h, e, q) refl

  pub next_go : r.len < most_steps → can_run c facts r.now o ≡ true → within_quota c facts r.columns o ≡ true
      → Ok Accepted ≡ next_step c facts r number o
  unfolding next_step
  next_go h e q = rw (lt-leb most_steps r.len h, e, q) refl

  -- these are all: what holds of each holds of the answer
  pub next_cases : (P : Result Answer Refusal → Type 0) → (most_steps ≤ r.len → P (Err (RunFull number)))
      → (r.len < most_steps → can_run c facts r.now o ≡ false → P (Err (MayNotRun number)))
      → (r.len < most_steps → can_run c facts r.now o ≡ true → within_quota c facts r.columns o ≡ false → P (Err (BeyondQuota number)))
      → (r.len < most_steps → can_run c facts r.now o ≡ true → within_quota c facts r.columns o ≡ true → P (Ok Accepted))
      → P (next_step c facts r number o)
  next_cases P full stuck beyond go =
      by_order r.len most_steps
      (λ l.
      by_cases (can_run c facts r.now o)
      (λ p.
      by_cases (within_quota c facts r.columns o) (λ q. subst P (next_go l p q) (go l p q)) (λ q. subst P (next_beyond l p q) (beyond l p q)))
      (λ p. subst P (next_not l p) (stuck l p)))
      (λ g. subst P (next_full g) (full g))

  -- ---- the offer itself

  pub judged_none : c.ops ≤ o → Err (NoSuchOperator number) ≡ offer_judged c facts r number o
  unfolding offer_judged
  judged_none h = rw (le-leb c.ops o h) refl

  module _ (exists : o < c.ops) where
    pub judged_zero : number ≡ 0 → Err (NotTheNext number) ≡ offer_judged c facts r number o
    unfolding offer_judged
    judged_zero e = rw (lt-leb c.ops o exists, eq-eqb number 0 e) refl

    module _ (some : number ≡ 0 → ⊥) where
      pub judged_beyond : r.len + 1 < number → Err (NotTheNext number) ≡ offer_judged c facts r number o
      unfolding offer_judged
      judged_beyond h = rw (lt-leb c.ops o exists, ne_eqb number 0 some, lt-ltb (r.len + 1) number h) refl

      pub judged_old : (x : Result Answer Refusal) → number ≤ r.len → x ≡ old_step r number o → x ≡ offer_judged c facts r number o
      unfolding offer_judged
      judged_old x h e =
          let g : number ≤ r.len + 1 = omega arith in
          rw (lt-leb c.ops o exists, ne_eqb number 0 some, le-ltb (r.len + 1) number g, le-leb number r.len h) e

      pub judged_next : (x : Result Answer Refusal) → number ≤ r.len + 1 → r.len < number → x ≡ next_step c facts r number o
          → x ≡ offer_judged c facts r number o
      unfolding offer_judged
      judged_next x g h e =
          rw (lt-leb c.ops o exists, ne_eqb number 0 some, le-ltb (r.len + 1) number g, lt-leb number r.len h) e
