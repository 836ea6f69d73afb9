-- Following the best steps: the walk ends at a goal, at the distance, after the fewest steps, by the lowest operator numbers. Assumes nothing.
use mathlib.Core.Path.{◌≡◌, refl, sym, ◌∙◌, subst}
use mathlib.Core.Logic.{◌⊎◌, inl, inr, ⊎_elim}
use mathlib.Core.Bool.{true}
use mathlib.Core.List.{List, [], ◌∷◌}
use Prim.Native.Nat.{ℕ, zero, suc, ◌≤◌, ◌<◌}
use native.Mathlib.Nat.{eq-or-lt_of_le}
use native.Mathlib.Omega.{arith}
use lib.ListN.{length}
use Rattle.graph.specs.Cost.{none}
use Rattle.graph.specs.Graph.{to, Graph, Closed, Leads, IsDistance}
use Rattle.graph.proofs.Steps.{onward_intro, onward_elim}
use Rattle.graph.specs.Best.{Advice, halt, take, Cheapest, Begins, IsLowest, IsBestStep, Follows, NotAbove, Foremost}
use Rattle.graph.proofs.Cheapests.{same_length, goal_empty, goal_begins, leads_none, after_first, rest, go_on}

pub lowest_unique : (P : ℕ → Type 0) (o p : ℕ) → IsLowest P o → IsLowest P p → o ≡ p
lowest_unique P o p L M = omega (arith, L.1 p M.0, M.1 o L.0)

-- there is one best step
pub best_step_unique : (G : Graph) (a : ℕ) (x y : Advice) → IsBestStep G a x → IsBestStep G a y → x ≡ y
best_step_unique G a halt halt h k = refl
best_step_unique G a halt (take p) h k =
    absurd (⊎_elim (λ g. goal_begins G a p g k.0) (λ f. f (p ∷ k.0.0) k.0.1.leads) h)
best_step_unique G a (take o) halt h k =
    absurd (⊎_elim (λ g. goal_begins G a o g h.0) (λ f. f (o ∷ h.0.0) h.0.1.leads) k)
best_step_unique G a (take o) (take p) h k = let e = lowest_unique (Begins G a) o p h k in cc

-- it is to halt exactly at a goal or where the distance is none
pub halt_where : (G : Graph) (a : ℕ) (x : Advice) → IsBestStep G a x → x ≡ halt → (G.goal a ≡ true) ⊎ IsDistance G a none
halt_where G a x h e =
    ⊎_elim (λ g. inl g)
    (λ f. inr (record { attained = λ d q. absurd (let z : ◌≡◌ {A = ℕ} 0 1 = cc in omega arith); below = λ os _ k. f os k }))
    (subst (λ (y : Advice). IsBestStep G a y) e h)

pub where_halt : (G : Graph) (a : ℕ) (x : Advice) → IsBestStep G a x → (G.goal a ≡ true) ⊎ IsDistance G a none → x ≡ halt
where_halt G a x h t = best_step_unique G a x halt h (⊎_elim (λ g. inl g) (λ D. inr (λ os k. D.below os tt k)) t)

-- the advice is followed in one way
pub follows_unique : (G : Graph) (B : ℕ → Advice) (os vs : List ℕ) (a : ℕ) → Follows G B os a → Follows G B vs a → os ≡ vs
unfolding Follows
follows_unique G B [] [] a h k = refl
follows_unique G B [] (p ∷ vs) a h k =
    absurd (let e : halt ≡ take p = sym h ∙ k.0 in let z : ◌≡◌ {A = ℕ} 0 1 = cc in omega arith)
follows_unique G B (o ∷ os) [] a h k =
    absurd (let e : halt ≡ take o = sym k ∙ h.0 in let z : ◌≡◌ {A = ℕ} 0 1 = cc in omega arith)
follows_unique G B (o ∷ os) (p ∷ vs) a h k =
    let q : o ≡ p = let z : take o ≡ take p = sym h.0 ∙ k.0 in cc in
    let s = onward_elim (Follows G B os) (G.succ o a) h.1 in
    let t = onward_elim (Follows G B vs) (G.succ p a) k.1 in
    let w : s.0 ≡ t.0 = let z : to s.0 ≡ to t.0 = sym s.1 ∙ (rw q t.1) in cc in
    let r : os ≡ vs = follows_unique G B os vs s.0 s.2 (rw w t.2) in
    cc

module _ (G : Graph) (closed : Closed G) (B : ℕ → Advice) (best : (b : ℕ) → b < G.states → IsBestStep G b (B b)) where
  -- the first operator of any cheapest sequence of fewest steps is not below the best step's; where it is the same, the rest decides
  not_above : (a b o : ℕ) (ws os vs : List ℕ) → o < G.ops → G.succ o a ≡ to b → Cheapest G a (o ∷ ws) → ((p : ℕ) → Begins G a p → o ≤ p)
      → ((us : List ℕ) → Cheapest G b us → NotAbove os us) → Cheapest G a vs → NotAbove (o ∷ os) vs
  not_above a b o ws os [] l e C low more D = absurd (omega (arith, same_length G a (o ∷ ws) [] C D))
  not_above a b o ws os (p ∷ vs) l e C low more D =
      ⊎_elim
      (λ q.
      let E : Cheapest G a (o ∷ vs) = subst (λ (x : ℕ). Cheapest G a (x ∷ vs)) (sym q) D in
      let t = after_first G a o vs E in
      let w : t.0 ≡ b = let z : to t.0 ≡ to b = sym t.2 ∙ e in cc in
      inr (q, more vs (subst (λ (x : ℕ). Cheapest G x vs) w t.3)))
      (λ lt. inl lt)
      (eq-or-lt_of_le (low p (vs, D)))

  follow : (k a : ℕ) (us : List ℕ) → a < G.states → length us ≡ k → Cheapest G a us → (os : List ℕ) × Follows G B os a × Foremost G a os
  unfolding Follows
  follow zero a us l e C = at (B a) refl (best a l)
    where
      goal : (vs : List ℕ) → length vs ≡ 0 → Leads G vs a → G.goal a ≡ true
      goal [] q h = leads_none G a h
      goal (v ∷ vs) q h = absurd (omega arith)

      empty : (vs : List ℕ) → length vs ≡ 0 → Cheapest G a vs → Foremost G a []
      empty [] q D = record { cheapest = D; lowest = λ ws E. tt }
      empty (v ∷ vs) q D = absurd (omega arith)

      at : (c : Advice) → B a ≡ c → IsBestStep G a c → (os : List ℕ) × Follows G B os a × Foremost G a os
      at halt q h = ([], q, empty us e C)
      at (take o) q h = absurd (goal_begins G a o (goal us e C.leads) h.0)
  follow (suc k) a us l e C = at (B a) refl (best a l) (follow k)
    where
      at : (c : Advice) → B a ≡ c → IsBestStep G a c
          → ((b : ℕ) (ws : List ℕ) → b < G.states → length ws ≡ k → Cheapest G b ws → (os : List ℕ) × Follows G B os b × Foremost G b os)
          → (os : List ℕ) × Follows G B os a × Foremost G a os
      at halt q h more = absurd (⊎_elim (λ g. let z = goal_empty G a us g C in omega arith) (λ f. f us C.leads) h)
      at (take o) q h more =
          let ws = h.0.0 in
          let D = h.0.1 in
          let t = after_first G a o ws D in
          let b = t.0 in
          let n : length ws ≡ k = omega (arith, same_length G a us (o ∷ ws) C D) in
          let r = more b ws (closed o a b t.1 l t.2) n t.3 in (
            o ∷ r.0,
            (q, onward_intro (Follows G B r.0) (G.succ o a) b t.2 r.1),
            record {
              cheapest = go_on G a b o ws r.0 t.1 t.2 D t.3 r.2.cheapest;
              lowest = λ vs E. not_above a b o ws r.0 vs t.1 t.2 D (λ p B. omega (arith, h.1 p B)) r.2.lowest E;
            },
          )

  -- from any state from which a sequence leads to a goal
  pub following : (a : ℕ) (us : List ℕ) → a < G.states → Cheapest G a us → (os : List ℕ) × Follows G B os a × Foremost G a os
  following a us l C = follow (length us) a us l refl C

-- two sequences neither of which is above the other are the same
pub not_above_both : (os vs : List ℕ) → NotAbove os vs → NotAbove vs os → os ≡ vs
not_above_both [] [] h k = refl
not_above_both [] (p ∷ vs) h k = absurd k
not_above_both (o ∷ os) [] h k = absurd h
not_above_both (o ∷ os) (p ∷ vs) h k =
    ⊎_elim
    (λ l. ⊎_elim (λ m. absurd (omega arith)) (λ m. absurd (omega (arith, m.0))) k)
    (λ l. ⊎_elim (λ m. absurd (omega (arith, l.0))) (λ m. let r = not_above_both os vs l.1 m.1 in let q = l.0 in cc) k)
    h

pub foremost_unique : (G : Graph) (a : ℕ) (os vs : List ℕ) → Foremost G a os → Foremost G a vs → os ≡ vs
foremost_unique G a os vs F H = not_above_both os vs (F.lowest vs H.cheapest) (H.lowest os F.cheapest)
