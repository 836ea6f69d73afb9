-- Laws of a step: which of its answers is told, in the order 10, 12, 19, and what follows an answer; and that a goal ends the walk up to it. Assumes nothing.
use Prim.Native.Nat.{ℕ, ◌+◌, ◌≤◌, ◌<◌}
use mathlib.Core.Path.{◌≡◌, refl, ap, sym, ◌∙◌, subst}
use mathlib.Core.List.{List, [], ◌∷◌}
use mathlib.Core.Bool.{Bool, true, false, cond, false≢true}
use mathlib.Core.Logic.{◌↔◌}
use lib.Dec.{ltb}
use borrow.Author.Tests.{lt-ltb, le-ltb}
use Rattle.meaning.specs.Sas.{State, MayRun}
use Rattle.meaning.specs.Split.{Task}
use Rattle.meaning.specs.Views.{complies}
use Rattle.meaning.specs.Quota.{may_store}
use Rattle.tables.specs.Layout.{Tables, cost_at}
use Rattle.tables.specs.Task.{task_of, state_of}
use Rattle.tables.specs.Steps.{may_run, can_store}
use Rattle.tables.proofs.Meant.{may_run_is, can_store_is}
use Rattle.meaning.proofs.Facts.{complies_true, true_complies, by_cases, by_order}
use Rattle.meaning.proofs.Quota.{may_store_lem, may_not_store, stores_within, stores_beyond}
use Rattle.std.specs.Prelude.{Some, Result, Ok, Err}
use Rattle.sequences.specs.declared.stepping.Hitch.{Hitch}
use Rattle.sequences.specs.declared.stepping.Hitch.TheVariants.{NoSuch, MayNot, Beyond}
use Rattle.sequences.specs.Stepping.{step_of, taken_apart}
use Rattle.sequences.specs.Choosing.{part, reached_from}

-- ---- a step: which answer is told, in the order 10, 12, 19

module _ (T : Task) (n : ℕ) (s : State) (o : ℕ) where
  abbrev runs? : Bool
  runs? = complies T.sas (T.sas.pre o) s

  -- 10 where there is no such operator, whatever its facts and marks say
  pub no_such_first : T.sas.ops ≤ o → step_of T n s o ≡ Err NoSuch
  unfolding step_of
  no_such_first h = simp (le-ltb o T.sas.ops h)

  -- 12 where it may not run, whatever is stored
  pub may_not_before_beyond : o < T.sas.ops → runs? ≡ false → step_of T n s o ≡ Err MayNot
  unfolding step_of
  may_not_before_beyond l r =
      by_cases (may_store T n o) (λ q. simp (lt-ltb o T.sas.ops l, r, q)) (λ q. simp (lt-ltb o T.sas.ops l, r, q))

  -- an operator that exists, may run and stores nothing beyond the quota, one that just reaches it too, is taken at its cost
  pub takes : o < T.sas.ops → MayRun T.sas o s → n + T.mark o ≤ T.quota → step_of T n s o ≡ Ok (T.sas.cost o)
  unfolding step_of may_store
  takes l r q = simp (lt-ltb o T.sas.ops l, true_complies T.sas (T.sas.pre o) s r, stores_within T n o q)

  -- and else it is 19
  pub beyond_last : o < T.sas.ops → MayRun T.sas o s → T.quota < n + T.mark o → step_of T n s o ≡ Err Beyond
  unfolding step_of may_store
  beyond_last l r q = simp (lt-ltb o T.sas.ops l, true_complies T.sas (T.sas.pre o) s r, stores_beyond T n o q)

  -- a step that was taken
  pub record Taken (x : ℕ) : Type 0 where
    pub exists : o < T.sas.ops
    pub runs : MayRun T.sas o s
    pub within : n + T.mark o ≤ T.quota
    pub cost : x ≡ T.sas.cost o

  -- what each answer says
  abbrev pub Told : Result ℕ Hitch → Type 0
  Told (Ok x) = Taken x
  Told (Err NoSuch) = T.sas.ops ≤ o
  Told (Err MayNot) = (o < T.sas.ops) × (MayRun T.sas o s → ⊥)
  Told (Err Beyond) = (o < T.sas.ops) × MayRun T.sas o s × (T.quota < n + T.mark o)

  -- it is true of the step
  pub step_told : (m : Result ℕ Hitch) → step_of T n s o ≡ m → Told m
  step_told m e =
      by_order o T.sas.ops
      (λ l.
      by_cases runs?
      (λ r.
      let may = complies_true T.sas (T.sas.pre o) s r in
      by_cases (may_store T n o)
      (λ q.
      let fits = may_store_lem T n o q in
      subst Told (sym (takes l may fits) ∙ e) (record { exists = l; runs = may; within = fits; cost = refl }))
      (λ q. let over = may_not_store T n o q in subst Told (sym (beyond_last l may over) ∙ e) (l, may, over)))
      (λ r. subst Told (sym (may_not_before_beyond l r) ∙ e) (l, λ may. false≢true (sym r ∙ true_complies T.sas (T.sas.pre o) s may))))
      (λ h. subst Told (sym (no_such_first h) ∙ e) h)

  -- and no other answer is given where it is true
  pub told_step : (m : Result ℕ Hitch) → Told m → step_of T n s o ≡ m
  told_step (Ok x) h = takes h.exists h.runs h.within ∙ ap Ok (sym h.cost)
  told_step (Err NoSuch) h = no_such_first h
  told_step (Err MayNot) h = by_cases runs? (λ r. absurd (h.1 (complies_true T.sas (T.sas.pre o) s r))) (may_not_before_beyond h.0)
  told_step (Err Beyond) h = beyond_last h.0 h.1 h.2

  -- 19 EXACTLY IF THE OPERATOR EXISTS, MAY RUN AND STORES BEYOND THE QUOTA
  pub beyond_told : (step_of T n s o ≡ Err Beyond) ↔ ((o < T.sas.ops) × MayRun T.sas o s × (T.quota < n + T.mark o))
  beyond_told = (step_told (Err Beyond), told_step (Err Beyond))

-- what the step's three tests say of the lent tables
pub step_tested : (t : Tables) (n : ℕ) (s : List ℕ) (o : ℕ) → step_of (task_of t) n (state_of s) o
    ≡ cond (ltb o t.counts.ops)
    (cond (may_run t.counts t.facts s o) (cond (can_store t.counts t.facts n o) (Ok (cost_at t.costs o)) (Err Beyond)) (Err MayNot)) (Err NoSuch)
unfolding step_of may_store
step_tested t n s o = rw (may_run_is t s o, can_store_is t n o)

-- ---- a step's answer, taken apart

-- what comes after a step that was taken may be put otherwise
pub apart_same : {A : Type 0} (m : Result ℕ Hitch) (out : Hitch → A) (f g : ℕ → A) → ((c : ℕ) → m ≡ Ok c → f c ≡ g c)
    → taken_apart m out f ≡ taken_apart m out g
apart_same (Ok c) out f g h = h c refl
apart_same (Err w) out f g h = refl

-- what no refusal answers comes of a step that was taken; what a failed test doesn't answer, of a test that held
pub apart_taken : {A : Type 0} (m : Result ℕ Hitch) {out : Hitch → A} {a : A} (f : ℕ → A) → ((h : Hitch) → out h ≡ a → ⊥) → taken_apart m out f ≡ a
    → (c : ℕ) × (m ≡ Ok c) × (f c ≡ a)
apart_taken (Ok c) f n e = (c, refl, e)
apart_taken (Err h) f n e = absurd (n h e)

pub cond_held : {A : Type 0} (b : Bool) (u : A) {v z : A} → (v ≡ z → ⊥) → cond b u v ≡ z → (b ≡ true) × (u ≡ z)
cond_held true u p e = (refl, e)
cond_held false u p e = absurd (p e)

-- ---- up to the first goal moment

-- a goal ends the walk, before the next step is looked at
pub reached_goal : (T : Task) (k n p : ℕ) (s : State) (os : List ℕ) → complies T.sas T.sas.goal s ≡ true → reached_from T k n p s os ≡ Some (part k p)
unfolding reached_from
reached_goal T k n p s [] g = rw g
reached_goal T k n p s (o ∷ os) g = rw g
