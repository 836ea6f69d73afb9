-- Laws of the steps into a taken state: one state from which an operator leads there, all such states of an operator, and all operators; and of a goal.
-- Assumes nothing.
use mathlib.Core.Path.{◌≡◌, sym, ap, ◌∙◌, subst}
use mathlib.Core.Logic.{◌⊎◌, inl, inr, ⊎_elim}
use mathlib.Core.Bool.{true, false, false≢true}
use mathlib.Core.List.{List, [], ◌∷◌}
use Prim.Native.Nat.{ℕ, ◌+◌, ◌*◌, ◌-◌, ◌≤◌, ◌<◌}
use native.Mathlib.Nat.{le_refl, not-suc-le-zero, mul-le-mul_right}
use native.Mathlib.Decide.{ℕ_discrete}
use native.Mathlib.Omega.{arith}
use borrow.Author.Tests.{eq-eqb, ne_eqb}
use lib.Dec.{eqb}
use lib.ListN.{length, get_or}
use Rattle.std.specs.List.{between}
use Rattle.std.proofs.lemmas.List.Edits.{length-between, get_or-between}
use Rattle.graph.specs.Graph.{to, Graph, Leads}
use Rattle.graph.proofs.Cheapests.{step_leads}
use Rattle.meaning.specs.Limits.{most_states}
use Rattle.tables.specs.declared.Counts.{Counts}
use Rattle.maps.specs.Said.{HALT}
use Rattle.maps.specs.Inside.Walks.{states_of}
use Rattle.turned.specs.declared.back.Turned.{Turned}
use Rattle.turned.specs.Inside.Wants.{wanted}
use Rattle.turned.specs.Inside.Backs.{drop_at, lift_at, count_at, back_at}
use Rattle.waiting.specs.Trees.{Tree}
use Rattle.waiting.specs.Offers.{NOLABEL, Shaped, Offered}
use Rattle.quick.specs.Inside.Runs.{scaled_of, Run, Every, Nothing, From}
use Rattle.quick.specs.Inside.Works.{Ready, Held, Into, Left, Relaxed}
use Rattle.quick.proofs.Running.{offered_fell, offered_run, run_weaken, run_goal}

-- an offer to one of the states may be made
pub may_offer : {G : Graph} {k b₀ : ℕ} {P : ℕ → ℕ → Type 0} {L t β : List ℕ} → Run G k b₀ P L t β → G.states ≤ most_states → (a : ℕ) → a < G.states
    → ((a < length L) × (a < length β) × (length t ≡ 4368) × (a < most_states)) × (Tree t × (get_or L a 0 ≤ NOLABEL) × Shaped L t a)
may_offer R few a l = ((omega (arith, R.size_L), omega (arith, R.size_β), R.size_t, omega arith), (R.tree, R.high a l, R.shaped a l))

-- ---- steps that are looked at one after the other

module _ {G : Graph} {b label : ℕ} {P : ℕ → ℕ → Type 0} where
  pub relaxed_none : {L t β : List ℕ} → Held b label L t → Run G G.states b P L t β → Relaxed G b label P L t β L t β
  relaxed_none H R = record { run = R; held = H; fell = λ a. le_refl _ }

  module _ {L t β L' t' β' : List ℕ} (X : Relaxed G b label P L t β L' t' β') where
    pub relaxed_more : {P' : ℕ → ℕ → Type 0} {L'' t'' β'' : List ℕ} → Relaxed G b label P' L' t' β' L'' t'' β'' → Relaxed G b label P' L t β L'' t'' β''
    relaxed_more Y = record { run = Y.run; held = Y.held; fell = λ a. omega (arith, X.fell a, Y.fell a) }

    pub relaxed_weaken : {P' : ℕ → ℕ → Type 0} → ((o a : ℕ) → o < G.ops → a < G.states → G.succ o a ≡ to b → P o a → P' o a)
        → Relaxed G b label P' L t β L' t' β'
    relaxed_weaken w = record { run = run_weaken X.run w; held = X.held; fell = X.fell }

-- an offer above the label of b leaves b alone
held_still : {b label a o new : ℕ} {L t β L' t' β' : List ℕ} → Offered a o new L t β L' t' β' → label < new → Held b label L t → Held b label L' t'
held_still {b} {label} {a} {L = L} {t = t} {L' = L'} {t' = t'} f l H = pick (ℕ_discrete b a)
  where
    here : Held a label L t → Held a label L' t'
    here K = record { is = omega (arith, K.is, f.label); finite = K.finite; done = omega (arith, K.is, K.done, (f.above (omega (arith, K.is))).0) }

    pick : Dec (b ≡ a) → Held b label L' t'
    pick (yes e) = subst (λ (x : ℕ). Held x label L' t') (sym e) (here (subst (λ (x : ℕ). Held x label L t) e H))
    pick (no d) = record { is = H.is ∙ sym (f.labels b d); finite = H.finite; done = omega (arith, f.leaves b d, H.done) }

-- an operator from o on that isn't o is a later one
later : (o p : ℕ) → o ≤ p → (p ≡ o → ⊥) → o + 1 ≤ p
later o p l d = omega arith

to_inj : (a b : ℕ) → to a ≡ to b → a ≡ b
to_inj a b e = cc

-- the offsets of operator o, as they are lent
abbrev pub listed : ℕ → List Turned → List ℕ → ℕ → List ℕ
listed n turns back o = between (o * n) (o * n + count_at turns o) back

module _ {c : Counts} {facts prices : List ℕ} {n : ℕ} {fits back : List ℕ} {turns : List Turned} (ready : Ready c facts prices n fits turns back) {o b : ℕ} where
  pub list_room : Into c facts o b → o * n + count_at turns o ≤ length back
  list_room I =
      let q : o + 1 ≤ c.ops = omega (arith, I.op) in
      omega (arith, mul-le-mul_right n q, (ready.backs o I.op).few, ready.lists)

  pub listed_long : Into c facts o b → length (listed n turns back o) ≡ count_at turns o
  listed_long I = length-between back (o * n) (o * n + count_at turns o) (list_room I) ∙ omega arith

  -- what is read of them leads to a state
  pub listed_at : (I : Into c facts o b) {i x : ℕ} → i < length (listed n turns back o) → x ≡ get_or (listed n turns back o) i 0
      → b - drop_at turns o + lift_at turns o + x ≡ back_at n turns back o b i
  unfolding back_at
  listed_at I {i} {x} l e = ap (λ (y : ℕ). b - drop_at turns o + lift_at turns o + y) (e ∙ get_or-between back (o * n) (o * n + count_at turns o) i 0 (omega (arith, listed_long I)))

  pub from_below : Into c facts o b → {i a : ℕ} → i < count_at turns o → a ≡ back_at n turns back o b i → a < states_of c facts
  from_below I {i} l e = rw e ((ready.backs o I.op).inside b i I.state I.match l)

  -- one state
  pub one_relaxed : {label i a new : ℕ} {L t β L' t' β' : List ℕ} → Into c facts o b → Held b label L t → i < count_at turns o
      → a ≡ back_at n turns back o b i → new ≡ label + (get_or prices o 0 * 4096 + 1)
      → Run (scaled_of c facts prices) (states_of c facts) b (Left n turns back b o i) L t β → Offered a o new L t β L' t' β'
      → Relaxed (scaled_of c facts prices) b label (Left n turns back b o (i + 1)) L t β L' t' β'
  one_relaxed {label} {i} {a} {new} {L = L} I H l ea en R f =
      record {
        run =
            offered_run f R
            (record {
              state = from_below I l ea;
              byte = omega (arith, I.op, ready.walk.ops);
              way = λ h. let w = R.reached b I.state (omega (arith, H.is, H.finite)) in (o ∷ w.0, step_leads G a b o w.0 I.op edge w.1, omega (arith, w.2, H.is));
              step = λ h. (I.op, (b, edge, omega (arith, H.is)));
              goal = λ h. absurd (omega (arith, I.op, ready.walk.ops));
              settled = λ p x y lp lx e r. pick p x y e r (ℕ_discrete p o) (ℕ_discrete x a);
            })
            ready.walk.few;
        held = held_still f (omega arith) H;
        fell = offered_fell f;
      }
    where
      G : Graph
      G = scaled_of c facts prices

      edge : (scaled_of c facts prices).succ o a ≡ to b
      edge = rw ea ((ready.backs o I.op).sound b i I.state I.match l)

      other : {p x : ℕ} → (x ≡ a → ⊥) → Left n turns back b o i p x → p ≡ o → (j : ℕ) → j < i + 1 → x ≡ back_at n turns back o b j → Dec (j ≡ i) → ⊥
      other d h s j g k (yes m) = d (k ∙ ap (back_at n turns back o b) m ∙ sym ea)
      other d h s j g k (no m) = h.1 s j (omega arith) k

      pick : (p x y : ℕ) → (scaled_of c facts prices).succ p x ≡ to y → (y ≡ b → Left n turns back b o (i + 1) p x → ⊥) → Dec (p ≡ o) → Dec (x ≡ a)
          → (y ≡ b → Left n turns back b o i p x → ⊥) ⊎ ((x ≡ a) × (o ≤ p) × (new ≤ (get_or prices p 0 * 4096 + 1) + get_or L y 0))
      pick p x y e r (yes q) (yes s) =
          let z : (scaled_of c facts prices).succ o a ≡ to y = subst (λ (w : ℕ). (scaled_of c facts prices).succ o w ≡ to y) s (subst (λ (w : ℕ). (scaled_of c facts prices).succ w x ≡ to y) q e) in
          let label_is : get_or L y 0 ≡ get_or L b 0 = ap (λ (w : ℕ). get_or L w 0) (to_inj y b (sym z ∙ edge)) in
          let price-is : get_or prices p 0 ≡ get_or prices o 0 = ap (λ (w : ℕ). get_or prices w 0) q in
          inr (s, omega arith, omega (arith, H.is))
      pick p x y e r (no d) s = inl (λ q h. r q (h.0, λ m. absurd (d m)))
      pick p x y e r (yes q) (no d) = inl (λ s h. r s (h.0, λ m j g k. other d h m j g k (ℕ_discrete j i)))

  -- no state of the operator looked at, and all of them
  pub op_none : {label : ℕ} {L t β : List ℕ} → Held b label L t → Run (scaled_of c facts prices) (states_of c facts) b (From o) L t β
      → Relaxed (scaled_of c facts prices) b label (Left n turns back b o 0) L t β L t β
  op_none H R = relaxed_weaken (relaxed_none H R) (λ p a _ _ _ h. (h, λ e j l. absurd (not-suc-le-zero l)))

  pub op_all : {label i : ℕ} {L t β L' t' β' : List ℕ} → o < c.ops → count_at turns o ≤ i
      → Relaxed (scaled_of c facts prices) b label (Left n turns back b o i) L t β L' t' β' → Relaxed (scaled_of c facts prices) b label (From (o + 1)) L t β L' t' β'
  op_all lo l X =
      relaxed_weaken X
      (λ p a _ la e h. later o p h.0
      (λ q.
      let s = (ready.backs o lo).complete a b la (subst (λ (w : ℕ). (scaled_of c facts prices).succ w a ≡ to b) q e) in
      h.1 q s.0 (omega (arith, s.1)) s.2))

  -- an operator that doesn't lead to b
  pub op_skip : {label : ℕ} {L t β : List ℕ} → o < c.ops → wanted c facts o b ≡ false → Held b label L t
      → Run (scaled_of c facts prices) (states_of c facts) b (From o) L t β → Relaxed (scaled_of c facts prices) b label (From (o + 1)) L t β L t β
  op_skip lo w H R =
      relaxed_weaken (relaxed_none H R)
      (λ p a _ la e h. later o p h
      (λ q. false≢true (sym w ∙ (ready.backs o lo).matches a b la (subst (λ (w : ℕ). (scaled_of c facts prices).succ w a ≡ to b) q e))))

-- all operators
module _ {G : Graph} {b label : ℕ} where
  pub all_none : {L t β : List ℕ} → Held b label L t → Run G G.states b Every L t β → Relaxed G b label (From 0) L t β L t β
  all_none H R = relaxed_weaken (relaxed_none H R) (λ p a _ _ _ h. omega arith)

  pub all_end : {o : ℕ} {L t β L' t' β' : List ℕ} → G.ops ≤ o → Relaxed G b label (From o) L t β L' t' β' → Relaxed G b label Nothing L t β L' t' β'
  all_end l X = relaxed_weaken X (λ p a lp _ _ h. omega arith)

-- ---- a goal

-- a state whose lane is 0 was offered 0, and another was left alone
abbrev pub Looked : ℕ → ℕ → List ℕ → List ℕ → List ℕ → List ℕ → List ℕ → List ℕ → Type 0
Looked lane k L t β L' t' β' = ((lane ≡ 0) × Offered k HALT 0 L t β L' t' β') ⊎ ((lane ≡ 0 → ⊥) × (L' ≡ L) × (t' ≡ t) × (β' ≡ β))

module _ {lane k : ℕ} {L t β L' t' β' : List ℕ} (f : Looked lane k L t β L' t' β') where
  -- where the lane tells the goals, one goal more is set
  pub looked_run : {G : Graph} → Run G k 0 Nothing L t β → G.states ≤ most_states → k < G.states → eqb lane 0 ≡ G.goal k → Run G (k + 1) 0 Nothing L' t' β'
  unfolding Leads
  looked_run {G} R few lk e = ⊎_elim
      (λ g.
      let goal : G.goal k ≡ true = sym e ∙ eq-eqb lane 0 g.0 in
      run_goal
      (offered_run g.1 R
      (record {
        state = lk;
        byte = le_refl HALT;
        way = λ h. ([], goal, le_refl 0);
        step = λ h. absurd (omega arith);
        goal = λ e. goal;
        settled = λ o a b lo la e n. inl n;
      })
      few)
      (λ h. omega (arith, g.1.label)))
      (λ g. rw (g.1, g.2, g.3) (run_goal R (λ h. absurd (false≢true (sym (ne_eqb lane 0 g.0) ∙ e ∙ h)))))
      f
