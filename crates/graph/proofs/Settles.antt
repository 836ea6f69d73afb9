-- Once unchanged, the table stays and holds the least over sequences of any length; and it is unchanged as soon as the steps reach the number of states,
-- since a sequence that long visits a state twice and can be cut. Assumes nothing.
use mathlib.Core.Path.{◌≡◌, refl, sym, ap, ap₂, ◌∙◌, subst}
use mathlib.Core.List.{List, [], ◌∷◌}
use Prim.Native.Nat.{ℕ, zero, suc, ◌+◌, ◌-◌, ◌≤◌, ◌<◌, zero-le}
use native.Mathlib.Nat.{le_refl, le_of_suc-le-suc, not-suc-le-zero, zero-add, suc-add}
use native.Mathlib.Decide.{dec_le}
use native.Mathlib.Omega.{arith}
use lib.ListN.{length, drop, length-drop}
use Rattle.graph.specs.Cost.{Cost, ◌⊑◌, plus, lower}
use Rattle.graph.specs.Graph.{Next, stop, to, Graph, Closed, Leads, total, IsLeast, AnyLength}
use Rattle.graph.specs.Least.{after_step, via, best, least}
use Rattle.graph.proofs.Pigeon.{pigeon}
use Rattle.graph.proofs.Costs.{⊑_mono, ⊑_ext}
use Rattle.graph.proofs.Steps.{via_is, onward_intro, onward_elim}
use Rattle.graph.proofs.Leasts.{sound, complete, is_least}

module _ (G : Graph) (closed : Closed G) where
  pub via_same : (T U : ℕ → Cost) → ((b : ℕ) → b < G.states → T b ≡ U b) → (a : ℕ) → a < G.states → (o : ℕ) → o < G.ops → via G T a o ≡ via G U a o
  via_same T U e a l o g =
      let s = G.succ o a in
      via_is G T a o (G.cost o) s refl refl ∙ ap (plus (G.cost o)) (same s refl) ∙ sym (via_is G U a o (G.cost o) s refl refl)
    where
      same : (s : Next) → G.succ o a ≡ s → after_step T s ≡ after_step U s
      same stop s = refl
      same (to b) s = e b (closed o a b g l s)

  pub best_same : (T U : ℕ → Cost) → ((b : ℕ) → b < G.states → T b ≡ U b) → (a : ℕ) → a < G.states → (k : ℕ) → k ≤ G.ops → best G T a k ≡ best G U a k
  best_same T U e a l zero g = refl
  best_same T U e a l (suc k) g =
      ap₂ lower (best_same T U e a l k (omega arith)) (via_same T U e a l k g)

  -- the table of a round decides that of the next
  next_same : (i j : ℕ) → ((b : ℕ) → b < G.states → least G i b ≡ least G j b) → (a : ℕ) → a < G.states → least G (suc i) a ≡ least G (suc j) a
  unfolding least
  next_same i j e a l = best_same (least G i) (least G j) e a l G.ops (le_refl G.ops)

  stays : (i k : ℕ) → ((b : ℕ) → b < G.states → least G (suc i) b ≡ least G i b) → (a : ℕ) → a < G.states → least G (k + i) a ≡ least G i a
  stays i zero e a l = rw zero-add
  stays i (suc k) e a l = rw suc-add (next_same (k + i) i (stays i k e) a l ∙ e a l)

  -- THEOREM 2
  pub stays_from : (i : ℕ) → ((b : ℕ) → b < G.states → least G (suc i) b ≡ least G i b) → (j : ℕ) → i ≤ j → (a : ℕ) → a < G.states → least G j a ≡ least G i a
  stays_from i e j ij a l = let q : (j - i) + i ≡ j = omega arith in subst (λ (x : ℕ). least G x a ≡ least G i a) q (stays i (j - i) e a l)

  pub any_length : (i : ℕ) → ((b : ℕ) → b < G.states → least G (suc i) b ≡ least G i b) → (a : ℕ) → a < G.states → IsLeast G AnyLength a (least G i a)
  any_length i e a l = is_least G AnyLength a (least G i a)
      (λ c h. let t = sound G i a c h in (t.0, tt, t.2, t.3))
      (λ os _ h. long os h (dec_le (length os) i))
    where
      long : (os : List ℕ) → Leads G os a → Dec (length os ≤ i) → least G i a ⊑ total G os
      long os h (yes s) = complete G os i a s h
      long os h (no s) = rw (stays_from i e (length os) (omega arith) a l) at (complete G os (length os) a (le_refl (length os)) h)

-- the state before step k of the list, counted from 0
onward : (ℕ → ℕ) → ℕ → Next → ℕ
onward f a stop = a
onward f a (to b) = f b

visit : Graph → List ℕ → ℕ → ℕ → ℕ
visit G os a zero = a
visit G [] a (suc k) = a
visit G (o ∷ os) a (suc k) = onward (λ b. visit G os b k) a (G.succ o a)

module _ (G : Graph) where
  visit_in : Closed G → (os : List ℕ) (a k : ℕ) → Leads G os a → a < G.states → visit G os a k < G.states
  unfolding visit Leads onward
  visit_in closed os a zero h l = l
  visit_in closed [] a (suc k) h l = l
  visit_in closed (o ∷ os) a (suc k) h l =
      let s = onward_elim (Leads G os) (G.succ o a) h.1 in
      rw s.1 (visit_in closed os s.0 k s.2 (closed o a s.0 h.0 l s.1))

  rest_leads : (os : List ℕ) (a k : ℕ) → Leads G os a → k ≤ length os → Leads G (drop k os) (visit G os a k)
  unfolding visit Leads onward
  rest_leads os a zero h l = h
  rest_leads [] a (suc k) h l = absurd (not-suc-le-zero l)
  rest_leads (o ∷ os) a (suc k) h l =
      let s = onward_elim (Leads G os) (G.succ o a) h.1 in
      rw s.1 (rest_leads os s.0 k s.2 (le_of_suc-le-suc l))

  rest_cheaper : (os : List ℕ) (p q : ℕ) → p ≤ q → total G (drop q os) ≤ total G (drop p os)
  rest_cheaper os zero zero l = le_refl (total G os)
  rest_cheaper [] zero (suc q) l = zero-le
  rest_cheaper (o ∷ os) zero (suc q) l = omega (arith, rest_cheaper os zero q zero-le)
  rest_cheaper os (suc p) zero l = absurd (not-suc-le-zero l)
  rest_cheaper [] (suc p) (suc q) l = zero-le
  rest_cheaper (o ∷ os) (suc p) (suc q) l = rest_cheaper os p q (le_of_suc-le-suc l)

  -- after_step the first p steps of a list, another way on that costs no more
  replace : (os : List ℕ) (a p : ℕ) (ws : List ℕ) → Leads G os a → p ≤ length os → Leads G ws (visit G os a p) → total G ws ≤ total G (drop p os)
      → (vs : List ℕ) × (length vs ≡ p + length ws) × Leads G vs a × (total G vs ≤ total G os)
  unfolding visit Leads onward
  replace os a zero ws h l w c = (ws, omega arith, w, c)
  replace [] a (suc p) ws h l w c = absurd (not-suc-le-zero l)
  replace (o ∷ os) a (suc p) ws h l w c =
      let s = onward_elim (Leads G os) (G.succ o a) h.1 in
      let t = replace os s.0 p ws s.2 (le_of_suc-le-suc l) (rw s.1 at w) c in
      (o ∷ t.0, omega (arith, t.1), (h.0, onward_intro (Leads G t.0) (G.succ o a) s.0 s.1 t.2), omega (arith, t.3))

  -- a list of n steps or more has a shorter one that costs no more
  pub shorter : Closed G → (os : List ℕ) (a : ℕ) → Leads G os a → a < G.states → G.states ≤ length os
      → (vs : List ℕ) × (length vs < length os) × Leads G vs a × (total G vs ≤ total G os)
  shorter closed os a h l k =
      let w = pigeon G.states (visit G os a) (λ j _. visit_in closed os a j h l) in
      let ql : w.q ≤ length os = omega (arith, w.most) in
      let pl : w.p ≤ length os = omega (arith, w.less) in
      let on : Leads G (drop w.q os) (visit G os a w.p) = rw w.equal (rest_leads os a w.q h ql) in
      let t = replace os a w.p (drop w.q os) h pl on (rest_cheaper os w.p w.q (omega (arith, w.less))) in
      (t.0, omega (arith, t.1, length-drop w.q os, w.less), t.2, t.3)

  -- THEOREM 3: a round of n or more changes nothing
  pub settled : Closed G → (i : ℕ) → G.states ≤ suc i → (a : ℕ) → a < G.states → least G (suc i) a ≡ least G i a
  settled closed i k a l = ⊑_ext (least G (suc i) a) (least G i a) down up
    where
      short : (os : List ℕ) (c : ℕ) → length os ≤ suc i → Leads G os a → total G os ≤ c → Dec (length os ≤ i) → least G i a ⊑ c
      short os c s h t (yes d) = ⊑_mono (least G i a) (total G os) c (complete G os i a d h) t
      short os c s h t (no d) =
          let v = shorter closed os a h l (omega arith) in
          ⊑_mono (least G i a) (total G v.0) c (complete G v.0 i a (omega (arith, v.1)) v.2) (omega (arith, v.3))

      down : (c : ℕ) → least G (suc i) a ⊑ c → least G i a ⊑ c
      down c h = let t = sound G (suc i) a c h in short t.0 c t.1 t.2 t.3 (dec_le (length t.0) i)

      up : (c : ℕ) → least G i a ⊑ c → least G (suc i) a ⊑ c
      up c h =
          let t = sound G i a c h in
          ⊑_mono (least G (suc i) a) (total G t.0) c (complete G t.0 (suc i) a (omega (arith, t.1)) t.2) t.3
