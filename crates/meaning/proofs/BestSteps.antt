-- The best steps among the numbered states are those of the induced abstraction: the same sequences lead to a goal in both, at the same price and with as many
-- steps, so the same ones are cheapest. Assumes nothing.
use mathlib.Core.Path.{◌≡◌, refl, sym, ◌∙◌, subst}
use mathlib.Core.Logic.{◌⊎◌, ◌↔◌, inl, inr, ⊎_elim}
use mathlib.Core.List.{List, [], ◌∷◌}
use Prim.Native.Nat.{ℕ, ◌<◌}
use native.Mathlib.Omega.{arith}
use lib.ListN.{length}
use Rattle.graph.specs.Cost.{none, fin}
use Rattle.graph.specs.Graph.{to, AnyLength, Leads}
use Rattle.graph.specs.Best.{Advice, halt, take, Cheapest, IsBestStep, Follows, Foremost}
use Rattle.graph.proofs.Steps.{onward_elim}
use Rattle.graph.proofs.Theorems as graphs
use Rattle.meaning.specs.Sas.{Sas, paid, Proper}
use Rattle.meaning.specs.Views.{View, abstract_states, Onto, AbstractStep, AbstractGoal, AbstractlyLeads, IsDistanceAt, view_graph}
use Rattle.meaning.specs.BestSteps.{CheapestAt, IsBestStepAt, FollowsAt, ForemostAt}
use Rattle.meaning.proofs.Space.{total_paid}
use Rattle.meaning.proofs.Induced.{step_is, one_step, goal_is, goal_only, abstractly_leads, leads_abstractly, view_closed}
use Rattle.meaning.proofs.Distances.{numbered_least, induced_least}

module _ (S : Sas) (W : View) (P : Proper S) (C : Onto S W) where
  module _ (a : ℕ) (l : a < abstract_states S W) where
    cheapest_at : (os : List ℕ) → Cheapest (view_graph S W) a os → CheapestAt S W a os
    cheapest_at os D =
        record {
          leads = leads_abstractly S W P C os a l D.leads;
          cheapest = λ vs h. rw (total_paid (view_graph S W) os, total_paid (view_graph S W) vs) at (D.cheapest vs (abstractly_leads S W P C vs a h));
          fewest = λ vs h e. D.fewest vs (abstractly_leads S W P C vs a h) (total_paid (view_graph S W) vs ∙ e ∙ sym (total_paid (view_graph S W) os));
        }

    at_cheapest : (os : List ℕ) → CheapestAt S W a os → Cheapest (view_graph S W) a os
    at_cheapest os D =
        record {
          leads = abstractly_leads S W P C os a D.leads;
          cheapest = λ vs h. rw (total_paid (view_graph S W) os, total_paid (view_graph S W) vs) (D.cheapest vs (leads_abstractly S W P C vs a l h));
          fewest = λ vs h e. D.fewest vs (leads_abstractly S W P C vs a l h) (sym (total_paid (view_graph S W) vs) ∙ e ∙ total_paid (view_graph S W) os);
        }

    foremost_at : (os : List ℕ) → Foremost (view_graph S W) a os → ForemostAt S W a os
    foremost_at os F = record { cheapest = cheapest_at os F.cheapest; lowest = λ vs D. F.lowest vs (at_cheapest vs D) }

    at_foremost : (os : List ℕ) → ForemostAt S W a os → Foremost (view_graph S W) a os
    at_foremost os F = record { cheapest = at_cheapest os F.cheapest; lowest = λ vs D. F.lowest vs (cheapest_at vs D) }

    -- a best step among the numbered states is one in the induced abstraction, and the other way round
    pub induced_best : (x : Advice) → IsBestStep (view_graph S W) a x → IsBestStepAt S W a x
    induced_best halt h = ⊎_elim (λ g. inl (goal_is S W P C a l g)) (λ f. inr (λ os k. f os (abstractly_leads S W P C os a k))) h
    induced_best (take o) h = ((h.0.0, cheapest_at (o ∷ h.0.0) h.0.1), λ p B. h.1 p (B.0, at_cheapest (p ∷ B.0) B.1))

    pub numbered_best : (x : Advice) → IsBestStepAt S W a x → IsBestStep (view_graph S W) a x
    numbered_best halt h = ⊎_elim (λ g. inl (goal_only S W P C a g)) (λ f. inr (λ os k. f os (leads_abstractly S W P C os a l k))) h
    numbered_best (take o) h = ((h.0.0, at_cheapest (o ∷ h.0.0) h.0.1), λ p B. h.1 p (B.0, cheapest_at (p ∷ B.0) B.1))

    pub best_only : (x y : Advice) → IsBestStepAt S W a x → IsBestStepAt S W a y → x ≡ y
    best_only x y h k = graphs.best_step_unique (view_graph S W) a x y (numbered_best x h) (numbered_best y k)

    pub best_exists : (x : Advice) × IsBestStepAt S W a x
    best_exists = let t = graphs.best_step_exists (view_graph S W) (view_closed S W P C) a l in (t.0, induced_best t.0 t.1)

    pub foremost_only : (os vs : List ℕ) → ForemostAt S W a os → ForemostAt S W a vs → os ≡ vs
    foremost_only os vs F H = graphs.foremost_unique (view_graph S W) a os vs (at_foremost os F) (at_foremost vs H)

    pub foremost_short : (os : List ℕ) → ForemostAt S W a os → length os < abstract_states S W
    foremost_short os F = graphs.foremost_is_short (view_graph S W) (view_closed S W P C) a os l (at_foremost os F)

    -- to halt is best exactly at a goal of the view or where the distance is none
    pub halt_exactly : (x : Advice) → IsBestStepAt S W a x → (x ≡ halt) ↔ (AbstractGoal S W a ⊎ IsDistanceAt S W a none)
    halt_exactly x h =
        let f = graphs.halt_exactly (view_graph S W) a x (numbered_best x h) in (
          (λ e. ⊎_elim (λ g. inl (goal_is S W P C a l g)) (λ D. inr (induced_least S W P C AnyLength a none l D)) (f.0 e)),
          (λ t. f.1 (⊎_elim (λ g. inl (goal_only S W P C a g)) (λ D. inr (numbered_least S W P C AnyLength a none l D)) t)),
        )

  module _ (B : ℕ → Advice) where
    -- followed among the numbered states is followed by abstract steps
    follows_at : (os : List ℕ) (a : ℕ) → a < abstract_states S W → Leads (view_graph S W) os a → Follows (view_graph S W) B os a → FollowsAt S W B os a
    unfolding Follows Leads
    follows_at [] a l h f = f
    follows_at (o ∷ os) a l h f =
        let s = onward_elim (Leads (view_graph S W) os) ((view_graph S W).succ o a) h.1 in
        let t = onward_elim (Follows (view_graph S W) B os) ((view_graph S W).succ o a) f.1 in
        let w : t.0 ≡ s.0 = let z : to t.0 ≡ to s.0 = sym t.1 ∙ s.1 in cc in
        let k = view_closed S W P C o a s.0 h.0 l s.1 in
        (f.0, (s.0, step_is S W P C o a s.0 h.0 l s.1, follows_at os s.0 k s.2 (subst (λ (x : ℕ). Follows (view_graph S W) B os x) w t.2)))

    -- there is one way to follow
    pub follows_only : (os vs : List ℕ) (a : ℕ) → FollowsAt S W B os a → FollowsAt S W B vs a → os ≡ vs
    follows_only [] [] a h k = refl
    follows_only [] (p ∷ vs) a h k = absurd (let e : halt ≡ take p = sym h ∙ k.0 in let z : ◌≡◌ {A = ℕ} 0 1 = cc in omega arith)
    follows_only (o ∷ os) [] a h k = absurd (let e : halt ≡ take o = sym k ∙ h.0 in let z : ◌≡◌ {A = ℕ} 0 1 = cc in omega arith)
    follows_only (o ∷ os) (p ∷ vs) a h k =
        let q : o ≡ p = let z : take o ≡ take p = sym h.0 ∙ k.0 in cc in
        let here = h.1 in
        let there = k.1 in
        let step : AbstractStep S W p a here.0 = subst (λ (x : ℕ). AbstractStep S W x a here.0) q here.1 in
        let same : there.0 ≡ here.0 = one_step S W P C p a there.0 here.0 there.1 step in
        let r : os ≡ vs = follows_only os vs here.0 here.2 (subst (λ (x : ℕ). FollowsAt S W B vs x) same there.2) in
        cc

    -- following the best steps reaches a goal of the view at exactly the distance
    pub following : ((b : ℕ) → b < abstract_states S W → IsBestStepAt S W b (B b)) → (a d : ℕ) → a < abstract_states S W → IsDistanceAt S W a (fin d)
        → (os : List ℕ) × FollowsAt S W B os a × AbstractlyLeads S W os a × (paid W.price os ≡ d) × ForemostAt S W a os
    following best a d l D =
        let G = view_graph S W in
        let f =
        graphs.following_reaches G (view_closed S W P C) B (λ b k. numbered_best b k (B b) (best b k)) a d l (numbered_least S W P C AnyLength a (fin d) l D) in
        let F = foremost_at a l f.0 f.4 in
        (f.0, follows_at f.0 a l f.2 f.1, F.cheapest.leads, sym (total_paid G f.0) ∙ f.3, F)
