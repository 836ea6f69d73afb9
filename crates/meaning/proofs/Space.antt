-- A task's state space: the transitions of 001 are those that are computed, and a sequence passes exactly if it leads to a goal among the numbered states.
-- Assumes nothing.
use mathlib.Core.Path.{◌≡◌, refl, sym, ap, ap₂, ◌∙◌, subst}
use mathlib.Core.Bool.{Bool, true, false}
use mathlib.Core.List.{List, [], ◌∷◌}
use Prim.Native.Nat.{ℕ, zero, suc, ◌+◌, ◌<◌}
use native.Mathlib.Omega.{arith}
use Rattle.graph.specs.Graph.{to, Graph, Closed, Leads, total}
use Rattle.graph.proofs.Steps.{onward_intro, onward_elim}
use Rattle.meaning.specs.Numbering.{size, number, digit, Positive}
use Rattle.meaning.specs.Sas.{State, Sas, IsState, Holds, MayRun, Transition, put, after, Passes, paid, Proper}
use Rattle.meaning.specs.Views.{complies, to_if, space}
use Rattle.meaning.proofs.Numbers.{number_below, number_same, digit_number, digit_below}
use Rattle.meaning.proofs.Facts.{put_rest, put_below, put_holds, complies_true, true_complies, complies_same}

-- ---- the transitions of 001 are those of `after`

module _ (S : Sas) (P : Proper S) where
  pub after_state : (o : ℕ) (s : State) → o < S.ops → IsState S s → IsState S (after S o s)
  after_state o s lo h v l = put_below (S.eff o v) (s v) (S.dom v) (P.eff o v lo l) (h v l)

  pub to_after : (s : State) (o : ℕ) → IsState S s → o < S.ops → MayRun S o s → Transition S s o (after S o s)
  to_after s o h lo r =
      record {
        from = h;
        into = after_state o s lo h;
        operator = lo;
        runs = r;
        effects = λ v l. put_holds (S.eff o v) (s v);
        others = λ v l e. rw e (put_rest (s v));
      }

module _ (S : Sas) where
  pub only_after : (s : State) (o : ℕ) (t : State) → Transition S s o t → (v : ℕ) → v < S.vars → t v ≡ after S o s v
  only_after s o t h v l = pick (S.eff o v) refl
    where
      pick : (f : ℕ) → S.eff o v ≡ f → t v ≡ put f (s v)
      pick zero e = h.others v l e ∙ sym (put_rest (s v))
      pick (suc k) e = subst (λ (f : ℕ). Holds f (t v)) e (h.effects v l)

  pub after_same : (o : ℕ) (s t : State) → ((v : ℕ) → v < S.vars → s v ≡ t v) → (v : ℕ) → v < S.vars → after S o s v ≡ after S o t v
  after_same o s t h v l = ap (put (S.eff o v)) (h v l)

  -- ---- numbered states

  pub at_number : (s : State) → IsState S s → (v : ℕ) → v < S.vars → digit S.dom (number S.dom s S.vars) v ≡ s v
  at_number s h v l = digit_number S.dom s S.vars h v l

  pub in_space : (s : State) → IsState S s → number S.dom s S.vars < (space S).states
  in_space s h = number_below S.dom s S.vars h

  pub succ_number : (o : ℕ) (s : State) → IsState S s
      → (space S).succ o (number S.dom s S.vars) ≡ to_if (complies S (S.pre o) s) (number S.dom (after S o s) S.vars)
  succ_number o s h =
      let d : State = digit S.dom (number S.dom s S.vars) in
      ap₂ to_if (complies_same S (S.pre o) d s (at_number s h))
      (number_same S.dom (after S o d) (after S o s) S.vars (after_same o d s (at_number s h)))

  pub goal_number : (s : State) → IsState S s → (space S).goal (number S.dom s S.vars) ≡ complies S S.goal s
  goal_number s h = complies_same S S.goal (digit S.dom (number S.dom s S.vars)) s (at_number s h)

pub to_if_to : (t : Bool) (x b : ℕ) → to_if t x ≡ to b → (t ≡ true) × (x ≡ b)
to_if_to true x b e = (refl, cc)
to_if_to false x b e = absurd (let z : ◌≡◌ {A = ℕ} 0 1 = cc in omega arith)

pub total_paid : (G : Graph) (os : List ℕ) → total G os ≡ paid G.cost os
total_paid G [] = refl
total_paid G (o ∷ os) = ap (λ (x : ℕ). G.cost o + x) (total_paid G os)

module _ (S : Sas) (P : Proper S) where
  pub space_positive : Positive S.dom S.vars
  space_positive v l = P.values v l

  -- the digits of a number below n are a state
  pub digits_state : (a : ℕ) → IsState S (digit S.dom a)
  digits_state a = digit_below S.dom a S.vars space_positive

  pub space_closed : Closed (space S)
  space_closed o a b lo l e =
      let t = to_if_to (complies S (S.pre o) (digit S.dom a)) (number S.dom (after S o (digit S.dom a)) S.vars) b e in
      subst (λ (x : ℕ). x < size S.dom S.vars) t.1 (in_space S (after S o (digit S.dom a)) (after_state S P o (digit S.dom a) lo (digits_state a)))

  -- a list leads to a goal in the numbered state space exactly if it passes
  pub passes_leads : (os : List ℕ) (s : State) → IsState S s → Passes S os s → Leads (space S) os (number S.dom s S.vars)
  unfolding Leads
  passes_leads [] s h p = goal_number S s h ∙ true_complies S S.goal s p.1
  passes_leads (o ∷ os) s h p =
      let a = number S.dom s S.vars in
      let b = number S.dom (after S o s) S.vars in
      let e : (space S).succ o a ≡ to b = succ_number S o s h ∙ ap (λ t. to_if t b) (true_complies S (S.pre o) s p.0.1) in (
        p.0.0,
        onward_intro (Leads (space S) os) ((space S).succ o a) b e
            (passes_leads os (after S o s) (after_state S P o s p.0.0 h) (p.0.2, p.1)),
      )

  pub leads_passes : (os : List ℕ) (s : State) → IsState S s → Leads (space S) os (number S.dom s S.vars) → Passes S os s
  unfolding Leads
  leads_passes [] s h p = (tt, complies_true S S.goal s (sym (goal_number S s h) ∙ p))
  leads_passes (o ∷ os) s h p =
      let a = number S.dom s S.vars in
      let b = number S.dom (after S o s) S.vars in
      let t = onward_elim (Leads (space S) os) ((space S).succ o a) p.1 in
      let u = to_if_to (complies S (S.pre o) s) b t.0 (sym (succ_number S o s h) ∙ t.1) in
      let r = leads_passes os (after S o s) (after_state S P o s p.0 h) (rw u.1 t.2) in
      ((p.0, complies_true S (S.pre o) s u.0, r.0), r.1)
