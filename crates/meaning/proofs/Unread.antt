-- Tasks that agree at their own variables and operators have the same states, transitions and goals; and views of them that agree at the variables' values
-- have the same abstract states, steps and sequences, at the same prices. What a task's functions say elsewhere means nothing. Field by field. Assumes nothing.
use mathlib.Core.Path.{◌≡◌, refl, sym, ap, ap₂, ◌∙◌, subst}
use mathlib.Core.Logic.{inl, inr, ⊎_elim}
use mathlib.Core.List.{List, [], ◌∷◌}
use mathlib.Core.Bool.{cond}
use Prim.Native.Nat.{ℕ, zero, suc, ◌+◌, ◌-◌, ◌*◌, ◌/◌, ◌%◌, ◌<◌, max}
use native.Mathlib.Nat.{le_refl}
use native.Mathlib.Omega.{arith}
use lib.Dec.{ltb, leb, eqb}
use borrow.Author.Tests.{ltb-true}
use Rattle.graph.specs.Cost.{Cost, ◌⊑◌}
use Rattle.graph.specs.Best.{Advice, halt, take}
use Rattle.meaning.specs.Numbering.{size, number, digit}
use Rattle.meaning.specs.Sas.{State, Facts, Sas, IsState, Holds, Complies, Transition, paid}
use Rattle.meaning.specs.Views.{View, α, abstract_states, AbstractStep, AbstractGoal, AbstractlyLeads, IsLeastAt, UnchangedAt, IsRounds, holds, every, complies}
use Rattle.meaning.specs.BestSteps.{CheapestAt, IsBestStepAt}
use Rattle.meaning.specs.Split.{Task, count_of, view}
use Rattle.meaning.specs.Columns.{unshared, stored_tests, rest, gain}
use Rattle.meaning.specs.Quota.{may_store}
use Rattle.meaning.proofs.Facts.{by_cases, every_same}
use Rattle.meaning.proofs.Columns.{sum_same}

-- ---- numbers by radices that agree

module _ (K L : ℕ → ℕ) where
  pub size_alike : (k : ℕ) → ((v : ℕ) → v < k → K v ≡ L v) → size K k ≡ size L k
  size_alike zero h = refl
  size_alike (suc k) h = ap₂ ◌*◌ (size_alike k (λ v l. h v (omega arith))) (h k (le_refl (suc k)))

  pub digit_alike : (k : ℕ) → ((v : ℕ) → v < k → K v ≡ L v) → (a v : ℕ) → v < k → digit K a v ≡ digit L a v
  digit_alike k h a v l = ap₂ (λ x y. a / x % y) (size_alike v (λ u g. h u (omega arith))) (h v l)

  pub number_alike : (d e : ℕ → ℕ) (k : ℕ) → ((v : ℕ) → v < k → K v ≡ L v) → ((v : ℕ) → v < k → d v ≡ e v) → number K d k ≡ number L e k
  number_alike d e zero h g = refl
  number_alike d e (suc k) h g =
      ap₂ ◌+◌ (number_alike d e k (λ v l. h v (omega arith)) (λ v l. g v (omega arith)))
      (ap₂ ◌*◌ (g k (le_refl (suc k))) (size_alike k (λ v l. h v (omega arith))))

-- classes that agree are as many
pub count_alike : (c d : ℕ → ℕ) (n : ℕ) → ((x : ℕ) → x < n → c x ≡ d x) → count_of c n ≡ count_of d n
count_alike c d zero h = refl
count_alike c d (suc n) h = ap₂ max (count_alike c d n (λ x l. h x (omega arith))) (ap suc (h n (le_refl (suc n))))

-- ---- tasks

pub record SameSas (S R : Sas) : Type 0 where
  pub vars : S.vars ≡ R.vars
  pub ops : S.ops ≡ R.ops
  pub dom : (v : ℕ) → v < S.vars → S.dom v ≡ R.dom v
  pub goal : (v : ℕ) → v < S.vars → S.goal v ≡ R.goal v
  pub cost : (o : ℕ) → o < S.ops → S.cost o ≡ R.cost o
  pub pre : (o v : ℕ) → o < S.ops → v < S.vars → S.pre o v ≡ R.pre o v
  pub eff : (o v : ℕ) → o < S.ops → v < S.vars → S.eff o v ≡ R.eff o v

-- two states are the same at the task's variables
abbrev pub SameAt : Sas → State → State → Type 0
SameAt S s t = (v : ℕ) → v < S.vars → s v ≡ t v

module _ {S R : Sas} (E : SameSas S R) where
  pub sas_back : SameSas R S
  sas_back =
      record {
        vars = sym E.vars;
        ops = sym E.ops;
        dom = λ v l. sym (E.dom v (omega (arith, E.vars)));
        goal = λ v l. sym (E.goal v (omega (arith, E.vars)));
        cost = λ o l. sym (E.cost o (omega (arith, E.ops)));
        pre = λ o v lo l. sym (E.pre o v (omega (arith, E.ops)) (omega (arith, E.vars)));
        eff = λ o v lo l. sym (E.eff o v (omega (arith, E.ops)) (omega (arith, E.vars)));
      }

  pub state_alike : (s : State) → IsState S s → IsState R s
  state_alike s h v l =
      let g : v < S.vars = omega (arith, E.vars) in
      subst (λ (d : ℕ). s v < d) (E.dom v g) (h v g)

  facts_alike : (F G : Facts) → ((v : ℕ) → v < S.vars → F v ≡ G v) → (s : State) → Complies S F s → Complies R G s
  facts_alike F G h s c v l =
      let g : v < S.vars = omega (arith, E.vars) in
      subst (λ (f : ℕ). Holds f (s v)) (h v g) (c v g)

  pub transition_alike : (s t : State) (o : ℕ) → Transition S s o t → Transition R s o t
  transition_alike s t o M =
      record {
        from = state_alike s M.from;
        into = state_alike t M.into;
        operator = omega (arith, M.operator, E.ops);
        runs = facts_alike (S.pre o) (R.pre o) (λ v l. E.pre o v M.operator l) s M.runs;
        effects = facts_alike (S.eff o) (R.eff o) (λ v l. E.eff o v M.operator l) t M.effects;
        others =
            λ v l e.
            let g : v < S.vars = omega (arith, E.vars) in
            M.others v g (E.eff o v M.operator g ∙ e);
      }

  -- the computed test, of states that are the same at the variables
  pub complies_alike : (F G : Facts) (s t : State) → ((v : ℕ) → v < S.vars → F v ≡ G v) → SameAt S s t → complies S F s ≡ complies R G t
  complies_alike F G s t h g =
      every_same (λ v. holds (F v) (s v)) (λ v. holds (G v) (t v)) S.vars (λ v l. ap₂ holds (h v l) (g v l))
      ∙ ap (every (λ v. holds (G v) (t v))) E.vars

-- ---- views

pub record SameView (S : Sas) (W X : View) : Type 0 where
  pub classes : (v : ℕ) → v < S.vars → W.classes v ≡ X.classes v
  pub class : (v x : ℕ) → v < S.vars → x < S.dom v → W.class v x ≡ X.class v x
  pub price : (o : ℕ) → o < S.ops → W.price o ≡ X.price o

module _ {S R : Sas} (E : SameSas S R) {W X : View} (C : SameView S W X) where
  pub view_back : SameView R X W
  view_back =
      record {
        classes = λ v l. sym (C.classes v (omega (arith, E.vars)));
        class =
            λ v x l g.
            let h : v < S.vars = omega (arith, E.vars) in
            sym (C.class v x h (omega (arith, E.dom v h)));
        price = λ o l. sym (C.price o (omega (arith, E.ops)));
      }

  pub states_alike : abstract_states S W ≡ abstract_states R X
  states_alike = size_alike W.classes X.classes S.vars C.classes ∙ ap (size X.classes) E.vars

  -- a state has the same image, and so has one that is the same at the variables
  pub α_alike : (s t : State) → IsState S s → SameAt S s t → α S W s ≡ α R X t
  α_alike s t h g =
      number_alike W.classes X.classes (λ v. W.class v (s v)) (λ v. X.class v (t v)) S.vars C.classes
      (λ v l. C.class v (s v) l (h v l) ∙ ap (X.class v) (g v l))
      ∙ ap (number X.classes (λ v. X.class v (t v))) E.vars

  step_alike : (o a b : ℕ) → AbstractStep S W o a b → AbstractStep R X o a b
  step_alike o a b A =
      let s = A.0 in
      let t = A.3.0 in (
        s,
        state_alike E s A.1,
        sym (α_alike s s A.1 (λ v l. refl)) ∙ A.2,
        (t, state_alike E t A.3.1, sym (α_alike t t A.3.1 (λ v l. refl)) ∙ A.3.2, transition_alike E s t o A.3.3),
      )

  goal_alike : (a : ℕ) → AbstractGoal S W a → AbstractGoal R X a
  goal_alike a A =
      let s = A.0 in
      (s, state_alike E s A.1, sym (α_alike s s A.1 (λ v l. refl)) ∙ A.2, facts_alike E S.goal R.goal E.goal s A.3)

  pub leads_alike : (os : List ℕ) (a : ℕ) → AbstractlyLeads S W os a → AbstractlyLeads R X os a
  leads_alike [] a h = goal_alike a h
  leads_alike (o ∷ os) a h = (h.0, step_alike o a h.0 h.1, leads_alike os h.0 h.2)

  pub price_alike : (os : List ℕ) (a : ℕ) → AbstractlyLeads S W os a → paid W.price os ≡ paid X.price os
  price_alike [] a h = refl
  price_alike (o ∷ os) a h = ap₂ ◌+◌ (C.price o h.1.3.3.operator) (price_alike os h.0 h.2)

-- the same least prices
module _ {S R : Sas} (E : SameSas S R) {W X : View} (C : SameView S W X) where
  pub least_alike : {P : List ℕ → Type 0} (a : ℕ) (v : Cost) → IsLeastAt S W P a v → IsLeastAt R X P a v
  least_alike a v D =
      record {
        attained =
            λ d e.
            let t = D.attained d e in
            (t.0, t.1, leads_alike E C t.0 a t.2, sym (price_alike E C t.0 a t.2) ∙ t.3);
        below =
            λ os p h.
            let g = leads_alike (sas_back E) (view_back E C) os a h in
            subst (λ (c : ℕ). v ⊑ c) (price_alike E C os a g) (D.below os p g);
      }

  unchanged_alike : (i : ℕ) → UnchangedAt S W i → UnchangedAt R X i
  unchanged_alike i h a l =
      let t = h a (omega (arith, states_alike E C)) in
      (t.0, least_alike a t.0 t.1, least_alike a t.0 t.2)

-- the same cheapest sequences
module _ {S R : Sas} (E : SameSas S R) {W X : View} (C : SameView S W X) where
  cheapest_alike : (a : ℕ) (os : List ℕ) → CheapestAt S W a os → CheapestAt R X a os
  cheapest_alike a os D =
      let back : (vs : List ℕ) → AbstractlyLeads R X vs a → AbstractlyLeads S W vs a = λ vs h. leads_alike (sas_back E) (view_back E C) vs a h in
      let e = price_alike E C os a D.leads in
      record {
        leads = leads_alike E C os a D.leads;
        cheapest = λ vs h. let g = back vs h in omega (arith, D.cheapest vs g, e, price_alike E C vs a g);
        fewest = λ vs h q. let g = back vs h in D.fewest vs g (price_alike E C vs a g ∙ q ∙ sym e);
      }

-- and so the same best steps
pub best_alike : {S R : Sas} (E : SameSas S R) {W X : View} (C : SameView S W X) (a : ℕ) (x : Advice) → IsBestStepAt S W a x → IsBestStepAt R X a x
best_alike E C a halt h = ⊎_elim (λ g. inl (goal_alike E C a g)) (λ f. inr (λ os k. f os (leads_alike (sas_back E) (view_back E C) os a k))) h
best_alike E C a (take o) h = (
  (h.0.0, cheapest_alike E C a (o ∷ h.0.0) h.0.1),
  λ p B. h.1 p (B.0, cheapest_alike (sas_back E) (view_back E C) a (p ∷ B.0) B.1),
)

-- the same rounds
pub rounds_alike : {S R : Sas} (E : SameSas S R) {W X : View} (C : SameView S W X) (r : ℕ) → IsRounds S W r → IsRounds R X r
rounds_alike E C r H =
    record {
      positive = H.positive;
      unchanged = unchanged_alike E C r H.unchanged;
      smallest = λ i p l u. H.smallest i p l (unchanged_alike (sas_back E) (view_back E C) i u);
    }

-- ---- tasks with their maps and shares

pub record SameTask (T U : Task) : Type 0 where
  pub sas : SameSas T.sas U.sas
  pub maps : T.maps ≡ U.maps
  pub class : (m v x : ℕ) → m < T.maps → v < T.sas.vars → x < T.sas.dom v → T.class m v x ≡ U.class m v x
  pub share : (m o : ℕ) → m < T.maps → o < T.sas.ops → T.share m o ≡ U.share m o
  pub edition : T.edition ≡ U.edition
  pub quota : T.quota ≡ U.quota
  pub mark : (o : ℕ) → o < T.sas.ops → T.mark o ≡ U.mark o

pub task_back : {T U : Task} → SameTask T U → SameTask U T
task_back {T = T} E =
    record {
      sas = sas_back E.sas;
      maps = sym E.maps;
      class =
          λ m v x lm l h.
          let g : v < T.sas.vars = omega (arith, E.sas.vars) in
          sym (E.class m v x (omega (arith, E.maps)) g (omega (arith, E.sas.dom v g)));
      share = λ m o lm l. sym (E.share m o (omega (arith, E.maps)) (omega (arith, E.sas.ops)));
      edition = sym E.edition;
      quota = sym E.quota;
      mark = λ o l. sym (E.mark o (omega (arith, E.sas.ops)));
    }

pub view_alike : {T U : Task} → SameTask T U → (m : ℕ) → m < T.maps → SameView T.sas (view T m) (view U m)
view_alike {T = T} {U = U} E m lm =
    record {
      classes =
          λ v l. count_alike (T.class m v) (U.class m v) (T.sas.dom v) (λ x g. E.class m v x lm l g) ∙ ap (count_of (U.class m v)) (E.sas.dom v l);
      class = λ v x l g. E.class m v x lm l g;
      price = λ o l. E.share m o lm l;
    }

-- a step adds the same to every column
pub gain_alike : {T U : Task} → SameTask T U → (c o : ℕ) → o < T.sas.ops → gain T c o ≡ gain U c o
unfolding gain rest
gain_alike {T = T} {U = U} E c o lo =
    let rests = ap₂ ◌-◌ (E.sas.cost o lo) (sum_same (λ m. T.share m o) (λ m. U.share m o) T.maps (λ m l. E.share m o l lo)) in
    by_cases (ltb c T.maps) (λ e. rw (← E.maps, e) (E.share c o (ltb-true c T.maps e) lo))
    (λ e. rw (← E.maps, e) (ap₂ (λ (x y : ℕ). cond (eqb c unshared) x (cond (eqb c stored_tests) y 0)) rests (E.mark o lo)))

-- after as many stored tests it may store, or not
pub may_store_alike : {T U : Task} → SameTask T U → (n o : ℕ) → o < T.sas.ops → may_store T n o ≡ may_store U n o
unfolding may_store
may_store_alike E n o lo = ap₂ (λ (x q : ℕ). leb (n + x) q) (E.mark o lo) E.quota
