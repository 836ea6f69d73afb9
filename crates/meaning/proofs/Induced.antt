-- The task of classes computes the induced abstraction: the two have the same steps, goals and sequences. Assumes nothing.
use mathlib.Core.Path.{◌≡◌, refl, sym, ap, ap₂, ◌∙◌, subst, fun_ext}
use mathlib.Core.Bool.{true}
use mathlib.Core.List.{List, [], ◌∷◌}
use Prim.Native.Nat.{ℕ, zero, suc, ◌≤◌, ◌<◌, zero-le}
use native.Mathlib.Decide.{dec_lt}
use native.Mathlib.Omega.{arith}
use Rattle.graph.specs.Graph.{to, Closed, Leads}
use Rattle.graph.proofs.Steps.{onward_intro, onward_elim}
use Rattle.meaning.specs.Numbering.{number, digit}
use Rattle.meaning.specs.Sas.{State, Facts, Sas, IsState, Holds, Complies, IsGoal, put, after, Runs, end, Passes, Proper}
use Rattle.meaning.specs.Views.{View, image, α, Onto, AbstractStep, AbstractGoal, AbstractlyLeads, seen, class_task, complies, to_if, view_graph}
use Rattle.meaning.proofs.Numbers.{number_same, number_digits, size_pos}
use Rattle.meaning.proofs.Facts.{put_rest, complies_true, true_complies}
use Rattle.meaning.proofs.Space.{in_space, to_after, only_after, succ_number, goal_number, to_if_to, space_positive, digits_state, space_closed}

-- ---- facts seen by classes

pub seen_holds : (c : ℕ → ℕ) (f x : ℕ) → Holds f x → Holds (seen c f) (c x)
seen_holds c zero x h = tt
seen_holds c (suc k) x h = ap c h

pub seen_put : (c : ℕ → ℕ) (f x : ℕ) → put (seen c f) (c x) ≡ c (put f x)
seen_put c zero x = put_rest (c x) ∙ sym (ap c (put_rest x))
seen_put c (suc k) x = refl

pub seen_below : (c : ℕ → ℕ) (f d k : ℕ) → ((x : ℕ) → x < d → c x < k) → f ≤ d → seen c f ≤ k
seen_below c zero d k h l = zero-le
seen_below c (suc x) d k h l = h x l

-- a value for each variable, from one of each
collect : (P : ℕ → ℕ → Type 0) (n : ℕ) → ((v : ℕ) → v < n → (x : ℕ) × P v x) → (s : ℕ → ℕ) × ((v : ℕ) → v < n → P v (s v))
collect P n h = ((λ v. value v (dec_lt v n)), (λ v l. right v l (dec_lt v n)))
  where
    value : (v : ℕ) → Dec (v < n) → ℕ
    value v (yes l) = (h v l).0
    value v (no l) = 0

    right : (v : ℕ) → v < n → (d : Dec (v < n)) → P v (value v d)
    right v l (yes k) = (h v k).1
    right v l (no k) = absurd (k l)

module _ (S : Sas) (W : View) (P : Proper S) (C : Onto S W) where
  pub class_task_proper : Proper (class_task S W)
  class_task_proper = record {
    values = λ v l. omega (arith, C.inside v 0 l (P.values v l));
    init = λ v l. C.inside v (S.init v) l (P.init v l);
    goal = λ v l. seen_below (W.class v) (S.goal v) (S.dom v) (W.classes v) (λ x g. C.inside v x l g) (P.goal v l);
    pre = λ o v lo l. seen_below (W.class v) (S.pre o v) (S.dom v) (W.classes v) (λ x g. C.inside v x l g) (P.pre o v lo l);
    eff = λ o v lo l. seen_below (W.class v) (S.eff o v) (S.dom v) (W.classes v) (λ x g. C.inside v x l g) (P.eff o v lo l);
  }

  pub image_state : (s : State) → IsState S s → IsState (class_task S W) (image W s)
  image_state s h v l = C.inside v (s v) l (h v l)

  pub α_below : (s : State) → IsState S s → α S W s < (view_graph S W).states
  α_below s h = in_space (class_task S W) (image W s) (image_state s h)

  image_complies : (F : Facts) (s : State) → Complies S F s → Complies (class_task S W) (λ v. seen (W.class v) (F v)) (image W s)
  image_complies F s h v l = seen_holds (W.class v) (F v) (s v) (h v l)

  image_after : (o : ℕ) (s : State) → after (class_task S W) o (image W s) ≡ image W (after S o s)
  image_after o s = fun_ext (λ v. seen_put (W.class v) (S.eff o v) (s v))

  -- what passes in the task passes in the view
  runs_image : (os : List ℕ) (s : State) → Runs S os s → Runs (class_task S W) os (image W s)
  runs_image [] s h = tt
  runs_image (o ∷ os) s h =
      (h.0, image_complies (S.pre o) s h.1, subst (λ t. Runs (class_task S W) os t) (sym (image_after o s)) (runs_image os (after S o s) h.2))

  end_image : (os : List ℕ) (s : State) → end (class_task S W) os (image W s) ≡ image W (end S os s)
  end_image [] s = refl
  end_image (o ∷ os) s = ap (end (class_task S W) os) (image_after o s) ∙ end_image os (after S o s)

  pub passes_image : (os : List ℕ) (s : State) → Passes S os s → Passes (class_task S W) os (image W s)
  passes_image os s h = (
    runs_image os s h.0,
    subst (λ t. IsGoal (class_task S W) t) (sym (end_image os s)) (image_complies S.goal (end S os s) h.1),
  )

  -- ---- a concrete state in an abstract one, of which facts hold that hold by classes
  inhabit : (F : Facts) (a : ℕ) → a < (view_graph S W).states → ((v : ℕ) → v < S.vars → F v ≤ S.dom v)
      → Complies (class_task S W) (λ v. seen (W.class v) (F v)) (digit W.classes a)
      → (s : State) × ((v : ℕ) → v < S.vars → (s v < S.dom v) × Holds (F v) (s v) × (W.class v (s v) ≡ digit W.classes a v))
  inhabit F a l r h = collect (λ v x. (x < S.dom v) × Holds (F v) x × (W.class v x ≡ digit W.classes a v)) S.vars
      (λ v g.
      let y : ℕ = digit W.classes a v in
      one (W.class v) (S.dom v) (F v) y (r v g) (h v g) (C.none_missing v y g (digits_state (class_task S W) class_task_proper a v g)))
    where
      one : (c : ℕ → ℕ) (d f y : ℕ) → f ≤ d → Holds (seen c f) y → (x : ℕ) × (x < d) × (c x ≡ y) → (x : ℕ) × ((x < d) × Holds f x × (c x ≡ y))
      one c d zero y fd fy p = (p.0, (p.1, tt, p.2))
      one c d (suc x) y fd fy p = (x, (fd, refl, sym fy))

  inhabit_α : (a : ℕ) → a < (view_graph S W).states → (s : State) → ((v : ℕ) → v < S.vars → W.class v (s v) ≡ digit W.classes a v) → α S W s ≡ a
  inhabit_α a l s h = number_same W.classes (image W s) (digit W.classes a) S.vars h ∙ number_digits W.classes a S.vars (space_positive (class_task S W) class_task_proper) l

  -- ---- the computed step and goal are the induced ones
  pub step_is : (o a b : ℕ) → o < S.ops → a < (view_graph S W).states → (view_graph S W).succ o a ≡ to b → AbstractStep S W o a b
  step_is o a b lo l e =
      let D = digit W.classes a in
      let u = to_if_to (complies (class_task S W) ((class_task S W).pre o) D) (number W.classes (after (class_task S W) o D) S.vars) b e in
      let i = inhabit (S.pre o) a l (λ v g. P.pre o v lo g) (complies_true (class_task S W) ((class_task S W).pre o) D u.0) in
      let s = i.0 in
      let h : IsState S s = λ v g. (i.1 v g).0 in
      let move = to_after S P s o h lo (λ v g. (i.1 v g).1) in
      let there : α S W (after S o s) ≡ b =
      number_same W.classes (image W (after S o s)) (after (class_task S W) o D) S.vars
      (λ v g. sym (seen_put (W.class v) (S.eff o v) (s v)) ∙ ap (put (seen (W.class v) (S.eff o v))) (i.1 v g).2)
      ∙ u.1 in
      (s, h, inhabit_α a l s (λ v g. (i.1 v g).2), (after S o s, move.into, there, move))

  pub step_only : (o a b : ℕ) → AbstractStep S W o a b → (view_graph S W).succ o a ≡ to b
  step_only o a b A =
      let s = A.0 in
      let t = A.3.0 in
      let move = A.3.3 in
      let e : (view_graph S W).succ o (α S W s) ≡ to_if (complies (class_task S W) ((class_task S W).pre o) (image W s)) (number W.classes (after (class_task S W) o (image W s)) S.vars) =
      succ_number (class_task S W) o (image W s) (image_state s A.1) in
      let u = true_complies (class_task S W) ((class_task S W).pre o) (image W s) (image_complies (S.pre o) s move.runs) in
      let x : number W.classes (after (class_task S W) o (image W s)) S.vars ≡ b =
      ap (λ y. number W.classes y S.vars) (image_after o s)
      ∙ number_same W.classes (image W (after S o s)) (image W t) S.vars (λ v l. ap (W.class v) (sym (only_after S s o t move v l)))
      ∙ A.3.2 in
      subst (λ y. (view_graph S W).succ o y ≡ to b) A.2 (e ∙ ap₂ to_if u x)

  pub goal_only : (a : ℕ) → AbstractGoal S W a → (view_graph S W).goal a ≡ true
  goal_only a A =
      let s = A.0 in
      subst (λ y. (view_graph S W).goal y ≡ true) A.2
      (goal_number (class_task S W) (image W s) (image_state s A.1)
      ∙ true_complies (class_task S W) (class_task S W).goal (image W s) (image_complies S.goal s A.3))

  pub goal_is : (a : ℕ) → a < (view_graph S W).states → (view_graph S W).goal a ≡ true → AbstractGoal S W a
  goal_is a l e =
      let i = inhabit S.goal a l P.goal (complies_true (class_task S W) (class_task S W).goal (digit W.classes a) e) in
      (i.0, (λ v g. (i.1 v g).0), inhabit_α a l i.0 (λ v g. (i.1 v g).2), (λ v g. (i.1 v g).1))

  -- an operator has at most one abstract step from an abstract state
  pub one_step : (o a b c : ℕ) → AbstractStep S W o a b → AbstractStep S W o a c → b ≡ c
  one_step o a b c A B = let x = step_only o a b A in let y = step_only o a c B in cc

  -- ---- the sequences that lead to a goal
  pub abstractly_leads : (os : List ℕ) (a : ℕ) → AbstractlyLeads S W os a → Leads (view_graph S W) os a
  unfolding Leads
  abstractly_leads [] a h = goal_only a h
  abstractly_leads (o ∷ os) a h =
      (h.1.3.3.operator, onward_intro (Leads (view_graph S W) os) ((view_graph S W).succ o a) h.0 (step_only o a h.0 h.1) (abstractly_leads os h.0 h.2))

  pub leads_abstractly : (os : List ℕ) (a : ℕ) → a < (view_graph S W).states → Leads (view_graph S W) os a → AbstractlyLeads S W os a
  unfolding Leads
  leads_abstractly [] a l h = goal_is a l h
  leads_abstractly (o ∷ os) a l h =
      let t = onward_elim (Leads (view_graph S W) os) ((view_graph S W).succ o a) h.1 in
      (t.0, step_is o a t.0 h.0 l t.1, leads_abstractly os t.0 (space_closed (class_task S W) class_task_proper o a t.0 h.0 l t.1) t.2)

  pub view_closed : Closed (view_graph S W)
  view_closed = space_closed (class_task S W) class_task_proper

  -- every view has an abstract state
  pub some_state : 1 ≤ (view_graph S W).states
  some_state = size_pos W.classes S.vars (space_positive (class_task S W) class_task_proper)
