-- What a sweep notes are the best steps. Assumes nothing.
use mathlib.Core.Path.{◌≡◌, refl, sym, ap, ap₂, ◌∙◌, subst}
use mathlib.Core.Logic.{inl, inr}
use mathlib.Core.Bool.{Bool, true, false, true≢false, false≢true}
use mathlib.Core.List.{List, ◌∷◌}
use Prim.Native.Nat.{ℕ, zero, suc, ◌≤◌, ◌<◌, min, zero-le}
use native.Mathlib.Nat.{le_refl, le_antisymm}
use native.Mathlib.Decide.{dec_le}
use native.Mathlib.Omega.{arith}
use lib.ListN.{length}
use borrow.Author.Tests.{ltb-true, ltb-false}
use Rattle.graph.specs.Cost.{Cost, none, fin, ◌⊑◌, lower}
use Rattle.graph.specs.Graph.{Graph, Closed, Leads, total, IsDistance}
use Rattle.graph.specs.Least.{at_goal, via, best, least}
use Rattle.graph.proofs.Costs.{⊑_mono, ⊑_ext}
use Rattle.graph.proofs.Steps.{via_elim, best_op}
use Rattle.graph.proofs.Settles.{via_same, best_same}
use Rattle.graph.proofs.Leasts.{sound, complete, least_zero, least_suc}
use Rattle.graph.specs.Best.{Advice, halt, take, Cheapest, Begins, IsLowest, IsBestStep}
use Rattle.graph.specs.Noted.{under, choose, chosen, noted, Attains}
use Rattle.graph.proofs.Cheapests.{after_first, step_leads, cheapest_total, make_cheapest}

-- ---- the test of the loop

pub under_true : (v w : Cost) → under v w ≡ true → (c : ℕ) × (v ≡ fin c) × (w ⊑ c → ⊥)
under_true none w e = absurd (false≢true e)
under_true (fin a) none e = (a, refl, λ h. h)
under_true (fin a) (fin b) e = (a, refl, λ h. omega (arith, ltb-true a b e))

pub under_false : (v w : Cost) → under v w ≡ false → (c : ℕ) → v ⊑ c → w ⊑ c
under_false none w e c h = absurd h
under_false (fin a) none e c h = absurd (true≢false e)
under_false (fin a) (fin b) e c h = omega (arith, ltb-false a b e)

lower_takes : (w : Cost) (c : ℕ) → (w ⊑ c → ⊥) → lower w (fin c) ≡ fin c
lower_takes none c f = refl
lower_takes (fin b) c f = ap fin (pick (dec_le b c))
  where
    pick : Dec (b ≤ c) → min b c ≡ c
    pick (yes l) = absurd (f l)
    pick (no l) = omega arith

lower_keeps : (w v : Cost) → ((c : ℕ) → v ⊑ c → w ⊑ c) → lower w v ≡ w
lower_keeps none none f = refl
lower_keeps none (fin a) f = absurd (f a (le_refl a))
lower_keeps (fin b) none f = refl
lower_keeps (fin b) (fin a) f = let l : b ≤ a = f a (le_refl a) in ap fin (omega arith)

-- ---- the loop over operators

-- the choice attains the least cost, and no lower operator does
pub record Chose (G : Graph) (T : ℕ → Cost) (a k o : ℕ) : Type 0 where
  pub number : ℕ
  pub operator : o < k
  pub least : best G T a k ≡ fin number
  pub equal : via G T a o ≡ fin number
  pub lower : (p : ℕ) → p < o → via G T a p ⊑ number → ⊥

module _ (G : Graph) (T : ℕ → Cost) (a : ℕ) where
  pub chose : (k o : ℕ) → chosen G T a k ≡ take o → Chose G T a k o
  chose zero o e = absurd (let z : ◌≡◌ {A = ℕ} 0 1 = cc in omega arith)
  chose (suc k) o e = pick (under (via G T a k) (best G T a k)) refl e (chose k o)
    where
      pick : (b : Bool) → under (via G T a k) (best G T a k) ≡ b → choose b (take k) (chosen G T a k) ≡ take o
          → (chosen G T a k ≡ take o → Chose G T a k o) → Chose G T a (suc k) o
      pick true u q more =
          let t = under_true (via G T a k) (best G T a k) u in
          let w : k ≡ o = cc in
          record {
            number = t.0;
            operator = omega arith;
            least = ap (lower (best G T a k)) t.1 ∙ lower_takes (best G T a k) t.0 t.2;
            equal = subst (λ (x : ℕ). via G T a x ≡ fin t.0) w t.1;
            lower = λ p l h. t.2 (best_op G T a k t.0 p (omega arith) h);
          }
      pick false u q more =
          let m = more q in
          record {
            number = m.number;
            operator = omega (arith, m.operator);
            least = lower_keeps (best G T a k) (via G T a k) (under_false (via G T a k) (best G T a k) u) ∙ m.least;
            equal = m.equal;
            lower = m.lower;
          }

  -- with no choice the least cost is that of no steps
  pub chose_none : (k : ℕ) → chosen G T a k ≡ halt → best G T a k ≡ at_goal (G.goal a)
  chose_none zero e = refl
  chose_none (suc k) e = pick (under (via G T a k) (best G T a k)) refl e (chose_none k)
    where
      pick : (b : Bool) → under (via G T a k) (best G T a k) ≡ b → choose b (take k) (chosen G T a k) ≡ halt
          → (chosen G T a k ≡ halt → best G T a k ≡ at_goal (G.goal a)) → best G T a (suc k) ≡ at_goal (G.goal a)
      pick true u q more = absurd (let z : ◌≡◌ {A = ℕ} 0 1 = cc in omega arith)
      pick false u q more = lower_keeps (best G T a k) (via G T a k) (under_false (via G T a k) (best G T a k) u) ∙ more q

-- the choice reads a table at the states only
pub chosen_same : (G : Graph) → Closed G → (T U : ℕ → Cost) → ((b : ℕ) → b < G.states → T b ≡ U b) → (a : ℕ) → a < G.states
    → (k : ℕ) → k ≤ G.ops → chosen G T a k ≡ chosen G U a k
chosen_same G closed T U e a l zero g = refl
chosen_same G closed T U e a l (suc k) g =
    ap₂ (λ b c. choose b (take k) c) (ap₂ under (via_same G closed T U e a l k g) (best_same G closed T U e a l k (omega arith)))
    (chosen_same G closed T U e a l k (omega arith))

-- ---- the rounds

module _ (G : Graph) where
  -- more steps never cost more
  pub least_mono : (i j a c : ℕ) → i ≤ j → least G i a ⊑ c → least G j a ⊑ c
  least_mono i j a c l h =
      let t = sound G i a c h in
      ⊑_mono (least G j a) (total G t.0) c (complete G t.0 j a (omega (arith, t.1)) t.2) t.3

  -- i is the first round that has the distance d at a
  pub record FirstRound (a d i : ℕ) : Type 0 where
    pub has : least G i a ≡ fin d
    pub first : (j : ℕ) → j < i → least G j a ⊑ d → ⊥

  -- the first round that has the distance is the fewest steps
  pub fewest_first : (a d : ℕ) (os : List ℕ) → IsDistance G a (fin d) → Cheapest G a os → FirstRound a d (length os)
  fewest_first a d os D C =
      let e = cheapest_total G a d os D C in
      record {
        has =
            ⊑_ext (least G (length os) a) (fin d)
            (λ c h.
            let t = sound G (length os) a c h in
            let x : d ≤ total G t.0 = D.below t.0 tt t.2 in
            omega (arith, t.3))
            (λ c h. ⊑_mono (least G (length os) a) (total G os) c (complete G os (length os) a (le_refl (length os)) C.leads) (omega arith));
        first =
            λ j l h.
            let t = sound G j a d h in
            let x = C.fewest t.0 t.2 (le_antisymm (omega (arith, t.3)) (C.cheapest t.0 t.2)) in
            omega (arith, t.1);
      }

  pub first_fewest : (a d i : ℕ) → IsDistance G a (fin d) → FirstRound a d i → (os : List ℕ) × (length os ≡ i) × Cheapest G a os
  first_fewest a d i D F =
      let t = sound G i a d (rw F.has (le_refl d)) in
      let long : (vs : List ℕ) → Leads G vs a → total G vs ≡ d → i ≤ length vs = λ vs h e. pick vs h e (dec_le i (length vs)) in
      let x = long t.0 t.2 (let y : d ≤ total G t.0 = D.below t.0 tt t.2 in omega (arith, t.3)) in
      (t.0, omega (arith, t.1), make_cheapest G a d t.0 D t.2 t.3 (λ vs h e. let y = long vs h e in omega (arith, t.1)))
    where
      pick : (vs : List ℕ) → Leads G vs a → total G vs ≡ d → Dec (i ≤ length vs) → i ≤ length vs
      pick vs h e (yes l) = l
      pick vs h e (no l) = absurd (F.first (length vs) (omega arith) (subst (λ (x : ℕ). least G (length vs) a ⊑ x) e (complete G vs (length vs) a (le_refl (length vs)) h)))

  -- the operators that attain the distance from the table of the round before are the first operators
  pub attains_begins : (a d i o : ℕ) → IsDistance G a (fin d) → FirstRound a d (suc i) → Attains G (least G i) a d o → Begins G a o
  attains_begins a d i o D F A =
      let f = first_fewest a d (suc i) D F in
      let s = via_elim G (least G i) a o d (rw A.equal (le_refl d)) in
      let t = sound G i s.0 s.1 s.3 in (
        t.0,
        make_cheapest G a d (o ∷ t.0) D (step_leads G a s.0 o t.0 A.operator s.2 t.2) (omega (arith, t.3, s.4))
            (λ vs h e. let x = f.2.fewest vs h (e ∙ sym (cheapest_total G a d f.0 D f.2)) in omega (arith, t.1, f.1)),
      )

  pub begins_attains : (a d i o : ℕ) → IsDistance G a (fin d) → FirstRound a d (suc i) → Begins G a o → Attains G (least G i) a d o
  begins_attains a d i o D F B =
      let os = B.0 in
      let t = after_first G a o os B.1 in
      let e = cheapest_total G a d (o ∷ os) D B.1 in
      let n : length os ≡ i = number (fewest_first a d (o ∷ os) D B.1) in
      let D' : IsDistance G t.0 (fin (total G os)) = record { attained = λ x q. (os, tt, t.3.leads, (cc)); below = λ vs _ h. t.3.cheapest vs h } in
      let h : least G i t.0 ≡ fin (total G os) = subst (λ (x : ℕ). least G x t.0 ≡ fin (total G os)) n (fewest_first t.0 (total G os) os D' t.3).has in
      record { operator = t.1; equal = rw (t.2, h) (ap fin e) }
    where
      number : FirstRound a d (length (o ∷ B.0)) → length B.0 ≡ i
      number H = pick (dec_le (length B.0) i) (dec_le i (length B.0))
        where
          pick : Dec (length B.0 ≤ i) → Dec (i ≤ length B.0) → length B.0 ≡ i
          pick (yes l) (yes m) = le_antisymm l m
          pick (yes l) (no m) = absurd (F.first (length (o ∷ B.0)) (omega arith) (rw H.has (le_refl d)))
          pick (no l) m = absurd (H.first (suc i) (omega arith) (rw F.has (le_refl d)))

  -- so the lowest of them is the best step
  pub lowest_attains_best : (a d i o : ℕ) → IsDistance G a (fin d) → FirstRound a d (suc i) → IsLowest (Attains G (least G i) a d) o → IsBestStep G a (take o)
  lowest_attains_best a d i o D F L = (attains_begins a d i o D F L.0, λ p B. L.1 p (begins_attains a d i p D F B))

  pub best_lowest_attains : (a d i o : ℕ) → IsDistance G a (fin d) → FirstRound a d (suc i) → IsBestStep G a (take o) → IsLowest (Attains G (least G i) a d) o
  best_lowest_attains a d i o D F L = (begins_attains a d i o D F L.0, λ p A. L.1 p (attains_begins a d i p D F A))

  -- ---- what stands noted

  pub noted_zero : (a : ℕ) → noted G zero a ≡ halt
  unfolding noted
  noted_zero a = refl

  pub noted_suc : (i a : ℕ) → noted G (suc i) a ≡ choose (under (least G (suc i) a) (least G i a)) (chosen G (least G i) a G.ops) (noted G i a)
  unfolding noted
  noted_suc i a = refl

  -- where a number falls, and the new one is the distance, the choice is the best step
  fallen : (a i : ℕ) → IsDistance G a (least G (suc i) a) → under (least G (suc i) a) (least G i a) ≡ true → IsBestStep G a (chosen G (least G i) a G.ops)
  fallen a i D u = pick (chosen G (least G i) a G.ops) refl
    where
      t : (c : ℕ) × (least G (suc i) a ≡ fin c) × (least G i a ⊑ c → ⊥)
      t = under_true (least G (suc i) a) (least G i a) u

      pick : (c : Advice) → chosen G (least G i) a G.ops ≡ c → IsBestStep G a c
      pick halt e =
          let q : least G (suc i) a ≡ least G zero a = least_suc G i a ∙ chose_none G (least G i) a G.ops e ∙ sym (least_zero G a) in
          absurd (t.2 (least_mono zero i a t.0 zero-le (subst (λ (v : Cost). v ⊑ t.0) (sym t.1 ∙ q) (le_refl t.0))))
      pick (take o) e =
          let m = chose G (least G i) a G.ops o e in
          let q : m.number ≡ t.0 = let z : fin m.number ≡ fin t.0 = sym m.least ∙ sym (least_suc G i a) ∙ t.1 in cc in
          let F : FirstRound a t.0 (suc i) = record { has = t.1; first = λ j l h. t.2 (least_mono j i a t.0 (omega arith) h) } in
          let A : Attains G (least G i) a t.0 o = record { operator = m.operator; equal = m.equal ∙ ap fin q } in
          lowest_attains_best a t.0 i o (subst (λ (v : Cost). IsDistance G a v) t.1 D) F
          (A, λ p B. omega (arith, least_of m q p B (dec_le o p)))
        where
          least_of : (m : Chose G (least G i) a G.ops o) → m.number ≡ t.0 → (p : ℕ) → Attains G (least G i) a t.0 p → Dec (o ≤ p) → o ≤ p
          least_of m q p B (yes l) = l
          least_of m q p B (no l) = absurd (m.lower p (omega arith) (rw B.equal (omega arith)))

  -- THE SWEEP: in a round whose number at a is the distance, what stands noted at a is the best step
  pub noted_best : (i a : ℕ) → IsDistance G a (least G i a) → IsBestStep G a (noted G i a)
  noted_best zero a D = rw (noted_zero a) (at (G.goal a) refl)
    where
      at : (b : Bool) → G.goal a ≡ b → IsBestStep G a halt
      at true e = inl e
      at false e = inr (λ os h. subst (λ (v : Cost). v ⊑ total G os) (least_zero G a ∙ ap at_goal e) (D.below os tt h))
  noted_best (suc i) a D = rw (noted_suc i a) (pick (under (least G (suc i) a) (least G i a)) refl (noted_best i a))
    where
      pick : (b : Bool) → under (least G (suc i) a) (least G i a) ≡ b → (IsDistance G a (least G i a) → IsBestStep G a (noted G i a))
          → IsBestStep G a (choose b (chosen G (least G i) a G.ops) (noted G i a))
      pick true u more = fallen a i D u
      pick false u more =
          let e : least G (suc i) a ≡ least G i a =
          ⊑_ext (least G (suc i) a) (least G i a) (under_false (least G (suc i) a) (least G i a) u) (λ c h. least_mono i (suc i) a c (omega arith) h) in
          more (subst (λ (v : Cost). IsDistance G a v) e D)
