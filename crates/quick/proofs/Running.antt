-- Laws of a run: an offer keeps it, since the label that is offered is justified, a lowered state waits again, and no step but those that the label stands for is
-- pending no more; and so does a state that is taken, whose steps are all pending then. Assumes nothing.
use mathlib.Core.Path.{◌≡◌, sym, ap, ◌∙◌, subst}
use mathlib.Core.Logic.{◌⊎◌, ⊎_elim}
use mathlib.Core.Bool.{Bool, true, false}
use mathlib.Core.List.{List}
use Prim.Native.Nat.{ℕ, ◌+◌, ◌≤◌, ◌<◌, min}
use native.Mathlib.Decide.{ℕ_discrete, dec_lt}
use native.Mathlib.Omega.{arith}
use borrow.Author.Count.{below_more}
use lib.Dec.{ltb}
use lib.ListN.{get_or}
use Rattle.graph.specs.Graph.{to, Graph, Leads, total}
use Rattle.meaning.specs.Limits.{most_states}
use Rattle.maps.specs.Said.{HALT}
use Rattle.waiting.specs.Trees.{NOKEY, leaf, Leafed}
use Rattle.waiting.specs.Offers.{NOLABEL, Shaped, Offered}
use Rattle.quick.specs.Inside.Runs.{Tight, Run, Every, Nothing, bit_if, weight, Fell}

-- what holds at x, and at all others, holds everywhere
at_and_else : (P : ℕ → Type 0) (x : ℕ) → P x → ((y : ℕ) → (y ≡ x → ⊥) → P y) → (y : ℕ) → P y
at_and_else P x h f y = pick (ℕ_discrete y x)
  where
    pick : Dec (y ≡ x) → P y
    pick (yes e) = subst P (sym e) h
    pick (no d) = f y d

-- by operator o a step leads from a to where the label and the cost together are at most x
abbrev LeadsOn : Graph → List ℕ → ℕ → ℕ → ℕ → Type 0
LeadsOn G L a o x = (o < G.ops) × ((b : ℕ) × (G.succ o a ≡ to b) × (G.cost o + get_or L b 0 ≤ x))

-- why the label `new` may be offered to a₀, by way of operator o₀: a sequence attains it, and its first step is by o₀, or a₀ is a goal; and of the steps that are
-- pending no more each was pending no more before, or starts from a₀, by no lower operator, and gives no lower label
pub record Justified (G : Graph) (b₀ a₀ o₀ new : ℕ) (P P' : ℕ → ℕ → Type 0) (L : List ℕ) : Type 0 where
  pub state : a₀ < G.states
  pub byte : o₀ ≤ HALT
  pub way : new < NOLABEL → (os : List ℕ) × Leads G os a₀ × (total G os ≤ new)
  pub step : o₀ < HALT → LeadsOn G L a₀ o₀ new
  pub goal : o₀ ≡ HALT → G.goal a₀ ≡ true
  pub settled : (o a b : ℕ) → o < G.ops → a < G.states → G.succ o a ≡ to b → (b ≡ b₀ → P' o a → ⊥)
      → (b ≡ b₀ → P o a → ⊥) ⊎ ((a ≡ a₀) × (o₀ ≤ o) × (new ≤ G.cost o + get_or L b 0))

-- ---- an offer

bit_le : (b : Bool) → bit_if b ≤ 1
bit_le true = omega arith
bit_le false = omega arith

module _ {a₀ o₀ new : ℕ} {L t β L' t' β' : List ℕ} (f : Offered a₀ o₀ new L t β L' t' β') where
  -- by the label that the state has
  by_label : {A : Type 0} → (new < get_or L a₀ 0 → A) → (new ≡ get_or L a₀ 0 → A) → (get_or L a₀ 0 < new → A) → A
  by_label {A} p q r = pick (dec_lt new (get_or L a₀ 0)) (ℕ_discrete new (get_or L a₀ 0))
    where
      pick : Dec (new < get_or L a₀ 0) → Dec (new ≡ get_or L a₀ 0) → A
      pick (yes l) d = p l
      pick (no l) (yes e) = q e
      pick (no l) (no d) = r (omega arith)

  falls : (x : ℕ) → get_or L' x 0 ≤ get_or L x 0
  falls = at_and_else (λ x. get_or L' x 0 ≤ get_or L x 0) a₀ (omega (arith, f.label)) (λ x d. omega (arith, f.labels x d))

  -- not lowered, the label and the key stay
  stays : get_or L a₀ 0 ≤ new → (get_or L' a₀ 0 ≡ get_or L a₀ 0) × (leaf t' a₀ ≡ leaf t a₀)
  stays h = (omega (arith, f.label), by_label (λ l. absurd (omega arith)) (λ e. (f.equal e).0) (λ g. (f.above g).0))

  pub offered_fell : Fell L t L' t'
  unfolding weight
  offered_fell = at_and_else (λ x. weight L' t' x ≤ weight L t x) a₀ (here (dec_lt new (get_or L a₀ 0)))
      (λ x d.
      let b : bit_if (ltb (leaf t' x) NOKEY) ≡ bit_if (ltb (leaf t x) NOKEY) = ap (λ (k : ℕ). bit_if (ltb k NOKEY)) (f.leaves x d) in
      omega (arith, f.labels x d))
    where
      here : Dec (new < get_or L a₀ 0) → weight L' t' a₀ ≤ weight L t a₀
      here (yes l) = omega (arith, f.label, bit_le (ltb (leaf t' a₀) NOKEY))
      here (no l) =
          let s = stays (omega arith) in
          let b : bit_if (ltb (leaf t' a₀) NOKEY) ≡ bit_if (ltb (leaf t a₀) NOKEY) = ap (λ (k : ℕ). bit_if (ltb k NOKEY)) s.1 in
          omega (arith, s.0)

  module _ {G : Graph} {k b₀ : ℕ} {P P' : ℕ → ℕ → Type 0} (R : Run G k b₀ P L t β) (J : Justified G b₀ a₀ o₀ new P P' L) (few : G.states ≤ most_states) where
    -- a state that doesn't wait now didn't wait before, and has the label that it had
    still : (b : ℕ) → NOKEY ≤ leaf t' b → (get_or L' b 0 ≡ get_or L b 0) × (NOKEY ≤ leaf t b)
    still = at_and_else (λ b. NOKEY ≤ leaf t' b → (get_or L' b 0 ≡ get_or L b 0) × (NOKEY ≤ leaf t b)) a₀ (here (dec_lt new (get_or L a₀ 0)))
        (λ b d h. (f.labels b d, omega (arith, f.leaves b d)))
      where
        here : Dec (new < get_or L a₀ 0) → NOKEY ≤ leaf t' a₀ → (get_or L' a₀ 0 ≡ get_or L a₀ 0) × (NOKEY ≤ leaf t a₀)
        here (yes l) h = absurd (omega (arith, (f.lowered l).0, R.high a₀ J.state, J.state))
        here (no l) h = let s = stays (omega arith) in (s.0, omega (arith, s.1))

    reach : (a : ℕ) → a < G.states → get_or L' a 0 < NOLABEL → (os : List ℕ) × Leads G os a × (total G os ≤ get_or L' a 0)
    reach = at_and_else (λ a. a < G.states → get_or L' a 0 < NOLABEL → (os : List ℕ) × Leads G os a × (total G os ≤ get_or L' a 0)) a₀
        (here (dec_lt new (get_or L a₀ 0))) (λ a d l h. let w = R.reached a l (omega (arith, f.labels a d)) in (w.0, w.1, omega (arith, w.2, f.labels a d)))
      where
        here : Dec (new < get_or L a₀ 0) → a₀ < G.states → get_or L' a₀ 0 < NOLABEL → (os : List ℕ) × Leads G os a₀ × (total G os ≤ get_or L' a₀ 0)
        here (yes l) _ h = let w = J.way (omega (arith, f.label)) in (w.0, w.1, omega (arith, w.2, f.label))
        here (no l) la h = let w = R.reached a₀ la (omega (arith, f.label)) in (w.0, w.1, omega (arith, w.2, f.label))

    shape : (a : ℕ) → a < G.states → Shaped L' t' a
    shape = at_and_else (λ a. a < G.states → Shaped L' t' a) a₀ (here (dec_lt new (get_or L a₀ 0)))
        (λ a d l h. omega (arith, f.labels a d, f.leaves a d, R.shaped a l (omega (arith, f.leaves a d))))
      where
        here : Dec (new < get_or L a₀ 0) → a₀ < G.states → Shaped L' t' a₀
        here (yes l) _ h = omega (arith, (f.lowered l).0, f.label)
        here (no l) la h = let s = stays (omega arith) in omega (arith, s.0, s.1, R.shaped a₀ la (omega (arith, s.1)))

    -- a step that was tight still is, and so is one from a₀ that the label stands for
    tight_still : (o b : ℕ) → get_or L' b 0 ≡ get_or L b 0 → (a : ℕ) → Tight G L β o a b → Tight G L' β' o a b
    tight_still o b e = at_and_else (λ a. Tight G L β o a b → Tight G L' β' o a b) a₀
        (λ T. (
          omega (arith, falls a₀, T.0),
          λ q. by_label
              (λ l. absurd (omega (arith, f.label, T.0)))
              (λ g. omega (arith, (f.equal g).1, f.label, T.1 (omega (arith, f.label))))
              (λ g. omega (arith, (f.above g).1, T.1 (omega (arith, f.label)))),
        ))
        (λ a d T. (omega (arith, T.0, f.labels a d), λ q. omega (arith, f.steps a d, T.1 (omega (arith, f.labels a d)))))

    tight_now : (o b : ℕ) → get_or L' b 0 ≡ get_or L b 0 → o₀ ≤ o → new ≤ G.cost o + get_or L b 0 → Tight G L' β' o a₀ b
    tight_now o b e l h = (
      omega (arith, f.label),
      λ q. by_label (λ g. omega (arith, (f.lowered g).1)) (λ g. omega (arith, (f.equal g).1)) (λ g. absurd (omega (arith, f.label))),
    )

    tight : (o a b : ℕ) → o < G.ops → a < G.states → G.succ o a ≡ to b → NOKEY ≤ leaf t' b → (b ≡ b₀ → P' o a → ⊥) → Tight G L' β' o a b
    tight o a b l m e h n =
        let s = still b h in
        ⊎_elim
        (λ (q : b ≡ b₀ → P o a → ⊥). tight_still o b s.0 a (R.tight o a b l m e s.1 q))
        (λ (q : (a ≡ a₀) × (o₀ ≤ o) × (new ≤ G.cost o + get_or L b 0)).
        subst (λ (x : ℕ). Tight G L' β' o x b) (sym q.0) (tight_now o b s.0 q.1 q.2))
        (J.settled o a b l m e n)

    -- a step that led on at a label leads on at a higher one
    on : {a o x y z : ℕ} → LeadsOn G L a o x → x ≤ y → o ≡ z → LeadsOn G L' a z y
    on {a} {y = y} g l e =
        subst (λ (o : ℕ). LeadsOn G L' a o y) e (g.0, (g.1.0, g.1.1, omega (arith, g.1.2, falls g.1.0)))

    steps : (a : ℕ) → a < G.states → get_or β' a 0 < HALT → LeadsOn G L' a (get_or β' a 0) (get_or L' a 0)
    steps = at_and_else (λ a. a < G.states → get_or β' a 0 < HALT → LeadsOn G L' a (get_or β' a 0) (get_or L' a 0)) a₀
        (λ la h. by_label
        (λ l. on (J.step (omega (arith, (f.lowered l).1))) (omega (arith, f.label)) (sym (f.lowered l).1))
        (λ g. lesser la h g (f.equal g).1 (dec_lt (get_or β a₀ 0) o₀))
        (λ g. on (R.steps a₀ la (omega (arith, (f.above g).1))) (omega (arith, f.label)) (sym (f.above g).1)))
        (λ a d l h. on (R.steps a l (omega (arith, f.steps a d))) (omega (arith, f.labels a d)) (sym (f.steps a d)))
      where
        lesser : a₀ < G.states → get_or β' a₀ 0 < HALT → new ≡ get_or L a₀ 0 → get_or β' a₀ 0 ≡ min (get_or β a₀ 0) o₀ → Dec (get_or β a₀ 0 < o₀)
            → LeadsOn G L' a₀ (get_or β' a₀ 0) (get_or L' a₀ 0)
        lesser la h g e (yes l) = on (R.steps a₀ la (omega arith)) (omega (arith, f.label)) (omega arith)
        lesser la h g e (no l) = on (J.step (omega arith)) (omega (arith, f.label)) (omega arith)

    bytes : (a : ℕ) → a < G.states → get_or β' a 0 ≤ HALT
    bytes = at_and_else (λ a. a < G.states → get_or β' a 0 ≤ HALT) a₀
        (λ l. by_label
        (λ g. omega (arith, (f.lowered g).1, J.byte))
        (λ g. omega (arith, (f.equal g).1, J.byte))
        (λ g. omega (arith, (f.above g).1, R.bytes a₀ l)))
        (λ a d l. omega (arith, f.steps a d, R.bytes a l))

    none : (a : ℕ) → a < G.states → get_or β' a 0 ≡ HALT → get_or L' a 0 < NOLABEL → G.goal a ≡ true
    none = at_and_else (λ a. a < G.states → get_or β' a 0 ≡ HALT → get_or L' a 0 < NOLABEL → G.goal a ≡ true) a₀
        (λ l e h. by_label
        (λ g. J.goal (omega (arith, (f.lowered g).1)))
        (λ g. J.goal (omega (arith, (f.equal g).1, J.byte)))
        (λ g. R.none a₀ l (omega (arith, (f.above g).1)) (omega (arith, f.label))))
        (λ a d l e h. R.none a l (sym (f.steps a d) ∙ e) (omega (arith, f.labels a d)))

    pub offered_run : Run G k b₀ P' L' t' β'
    offered_run =
        record {
          size_L = omega (arith, f.size_L, R.size_L);
          size_t = f.size_t ∙ R.size_t;
          size_β = omega (arith, f.size_β, R.size_β);
          high = λ a l. omega (arith, falls a, R.high a l);
          reached = reach;
          goals = λ a l g. omega (arith, falls a, R.goals a l g);
          tree = f.tree;
          waits = at_and_else (λ a. a < most_states → leaf t' a < NOKEY → a < G.states) a₀
              (λ l h. J.state) (λ a d l h. R.waits a l (omega (arith, f.leaves a d)));
          shaped = shape;
          tight = tight;
          bytes = bytes;
          steps = steps;
          none = none;
        }

-- ---- the same labels, with other goals set and other steps pending

module _ {G : Graph} {k b₀ : ℕ} {P : ℕ → ℕ → Type 0} {L t β : List ℕ} (R : Run G k b₀ P L t β) where
  run_again : {k' b₁ : ℕ} {P' : ℕ → ℕ → Type 0} → ((a : ℕ) → a < k' → G.goal a ≡ true → get_or L a 0 ≡ 0)
      → ((o a b : ℕ) → o < G.ops → a < G.states → G.succ o a ≡ to b → NOKEY ≤ leaf t b → (b ≡ b₁ → P' o a → ⊥) → Tight G L β o a b)
      → Run G k' b₁ P' L t β
  run_again goals tight =
      record {
        size_L = R.size_L;
        size_t = R.size_t;
        size_β = R.size_β;
        high = R.high;
        reached = R.reached;
        goals = goals;
        tree = R.tree;
        waits = R.waits;
        shaped = R.shaped;
        tight = tight;
        bytes = R.bytes;
        steps = R.steps;
        none = R.none;
      }

  -- more steps count as pending, or fewer do that aren't steps into b₀
  pub run_weaken : {P' : ℕ → ℕ → Type 0} → ((o a : ℕ) → o < G.ops → a < G.states → G.succ o a ≡ to b₀ → P o a → P' o a) → Run G k b₀ P' L t β
  run_weaken w =
      run_again R.goals (λ o a b l m e h n. R.tight o a b l m e h (λ q p. n q (w o a l m (subst (λ (y : ℕ). G.succ o a ≡ to y) q e) p)))

  -- one goal more is set
  pub run_goal : (G.goal k ≡ true → get_or L k 0 ≡ 0) → Run G (k + 1) b₀ P L t β
  run_goal g = run_again (below_more (λ a. G.goal a ≡ true → get_or L a 0 ≡ 0) k R.goals g) R.tight

pub run_upto : {G : Graph} {k n b : ℕ} {P : ℕ → ℕ → Type 0} {L t β : List ℕ} → k ≡ n → Run G k b P L t β → Run G n b P L t β
run_upto {G} {b = b} {P = P} {L = L} {t = t} {β = β} e R = subst (λ (x : ℕ). Run G x b P L t β) e R

-- where nothing is pending it doesn't matter into which state
pub run_nothing : {G : Graph} {k b₀ b₁ : ℕ} {L t β : List ℕ} → Run G k b₀ Nothing L t β → Run G k b₁ Nothing L t β
run_nothing R = run_again R R.goals (λ o a b l m e h n. R.tight o a b l m e h (λ q p. p))

-- ---- a state is taken

module _ {G : Graph} {k b₀ : ℕ} {L t β : List ℕ} (R : Run G k b₀ Nothing L t β) {b : ℕ} {t' : List ℕ} (f : Leafed b NOKEY t t') where
  not_taken : (a : ℕ) → leaf t' a < NOKEY → a ≡ b → ⊥
  not_taken a h e = let g : leaf t' b < NOKEY = subst (λ (x : ℕ). leaf t' x < NOKEY) e h in omega (arith, f.here)

  waited : (a : ℕ) → leaf t' a < NOKEY → leaf t a < NOKEY
  waited a h = omega (arith, f.others a (not_taken a h))

  pub taken_run : Run G k b Every L t' β
  taken_run =
      record {
        size_L = R.size_L;
        size_t = f.size ∙ R.size_t;
        size_β = R.size_β;
        high = R.high;
        reached = R.reached;
        goals = R.goals;
        tree = f.tree;
        waits = λ a l h. R.waits a l (waited a h);
        shaped = λ a l h. f.others a (not_taken a h) ∙ R.shaped a l (waited a h);
        tight = λ o a x l m e h n. R.tight o a x l m e (omega (arith, f.others x (λ q. n q tt))) (λ q p. p);
        bytes = R.bytes;
        steps = R.steps;
        none = R.none;
      }
