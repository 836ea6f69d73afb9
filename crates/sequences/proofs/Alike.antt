-- Tasks that agree at their own variables and operators are walked alike, from states that agree at the variables: step by step, the states under way agree.
-- Maps and shares aren't read. Assumes nothing.
use Prim.Native.Nat.{ℕ, suc, ◌+◌, ◌<◌}
use mathlib.Core.Path.{◌≡◌, refl, ap, ap₂, ◌∙◌}
use mathlib.Core.Bool.{Bool, cond}
use mathlib.Core.List.{List, [], ◌∷◌}
use lib.Dec.{leb, ltb}
use lib.ListN.{length}
use borrow.Author.Tests.{ltb-true}
use Rattle.std.specs.Prelude.{Option, Some, None, Result, Ok, Err}
use Rattle.refusals.specs.declared.Refusal.{Refusal}
use Rattle.refusals.specs.declared.Refusal.TheVariants.{SequenceTooLong, NoGoal}
use Rattle.meaning.specs.Limits.{most_steps}
use Rattle.meaning.specs.Sas.{State, Sas, put, after}
use Rattle.meaning.specs.Split.{Task}
use Rattle.meaning.specs.Views.{complies}
use Rattle.meaning.specs.Quota.{may_store}
use Rattle.meaning.proofs.Facts.{by_cases}
use Rattle.meaning.proofs.Unread.{SameSas, SameTask, SameAt, complies_alike}
use Rattle.sequences.specs.declared.stepping.Hitch.{Hitch}
use Rattle.sequences.specs.declared.choosing.Part.{Part}
use Rattle.sequences.specs.Stepping.{step_of, taken_apart}
use Rattle.sequences.specs.Judging.{walked, limited}
use Rattle.sequences.specs.Choosing.{part, reached_from, reached_of, choice_of, chosen_from}
use Rattle.sequences.proofs.Laws.{step_told, apart_same}

-- what steps read is the same: the task without its maps and its split, the quota, and the operators' marks
pub record SameSteps (T U : Task) : Type 0 where
  pub sas : SameSas T.sas U.sas
  pub quota : T.quota ≡ U.quota
  pub mark : (o : ℕ) → o < T.sas.ops → T.mark o ≡ U.mark o

pub task_steps : {T U : Task} → SameTask T U → SameSteps T U
task_steps E = record { sas = E.sas; quota = E.quota; mark = E.mark }

-- a task is the same as itself
pub sas_self : (S : Sas) → SameSas S S
sas_self S = record { vars = refl; ops = refl; dom = λ v l. refl; goal = λ v l. refl; cost = λ o l. refl; pre = λ o v l h. refl; eff = λ o v l h. refl }

pub steps_self : (T : Task) → SameSteps T T
steps_self T = record { sas = sas_self T.sas; quota = refl; mark = λ o l. refl }

module _ {T U : Task} (E : SameSteps T U) where
  abbrev S : Sas
  S = T.sas

  abbrev R : Sas
  R = U.sas

  pub step_alike : (n : ℕ) (s t : State) (o : ℕ) → SameAt S s t → step_of T n s o ≡ step_of U n t o
  unfolding step_of may_store
  step_alike n s t o g =
      by_cases (ltb o S.ops)
      (λ e.
      let l : o < S.ops = ltb-true o S.ops e in
      rw (← E.sas.ops, e, complies_alike E.sas (S.pre o) (R.pre o) s t (λ v h. E.sas.pre o v l h) g, E.mark o l, E.quota, E.sas.cost o l) refl)
      (λ e. rw (← E.sas.ops, e) refl)

  after_alike : (s t : State) (o : ℕ) → o < S.ops → SameAt S s t → SameAt S (after S o s) (after R o t)
  after_alike s t o l g v h = ap₂ put (E.sas.eff o v l h) (g v h)

  -- a step's answer taken apart, and then what follows one that was taken: it stores the same
  module _ {A : Type 0} (n : ℕ) (s t : State) (o : ℕ) (g : SameAt S s t) (out : Hitch → A) (on off : ℕ → ℕ → A)
      (h : (m c : ℕ) → SameAt S (after S o s) (after R o t) → on m c ≡ off m c) where
    stepped_alike : taken_apart (step_of T n s o) out (on (n + T.mark o)) ≡ taken_apart (step_of U n t o) out (off (n + U.mark o))
    stepped_alike =
        apart_same (step_of T n s o) out (on (n + T.mark o)) (off (n + U.mark o))
        (λ c e.
        let l = (step_told T n s o (Ok c) e).exists in
        h (n + T.mark o) c (after_alike s t o l g) ∙ ap (λ (y : ℕ). off (n + y) c) (E.mark o l))
        ∙ ap (λ (m : Result ℕ Hitch). taken_apart m out (off (n + U.mark o))) (step_alike n s t o g)

  goal_alike : (s t : State) → SameAt S s t → complies S S.goal s ≡ complies R R.goal t
  goal_alike s t g = complies_alike E.sas S.goal R.goal s t E.sas.goal g

  pub walked_alike : (k n p : ℕ) (s t : State) (ops : List ℕ) → SameAt S s t → walked T k n p s ops ≡ walked U k n p t ops
  unfolding walked
  walked_alike k n p s t [] g = ap (λ (b : Bool). cond b (Ok p) (Err (NoGoal k))) (goal_alike s t g)
  walked_alike k n p s t (o ∷ os) g =
      stepped_alike n s t o g _ (λ m c. walked T (suc k) m (p + c) (after S o s) os) (λ m c. walked U (suc k) m (p + c) (after R o t) os)
      (λ m c h. walked_alike (suc k) m (p + c) (after S o s) (after R o t) os h)

  pub limited_alike : (s t : State) (ops : List ℕ) → SameAt S s t → limited T s ops ≡ limited U t ops
  unfolding limited
  limited_alike s t ops g = ap (λ (j : Result ℕ Refusal). cond (leb (length ops) most_steps) j (Err SequenceTooLong)) (walked_alike 0 0 0 s t ops g)

  pub reached_alike : (k n p : ℕ) (s t : State) (ops : List ℕ) → SameAt S s t → reached_from T k n p s ops ≡ reached_from U k n p t ops
  unfolding reached_from
  reached_alike k n p s t [] g = ap (λ (b : Bool). cond b (Some (part k p)) None) (goal_alike s t g)
  reached_alike k n p s t (o ∷ os) g =
      ap₂ (λ (b : Bool) (r : Option Part). cond b (Some (part k p)) r) (goal_alike s t g)
      (stepped_alike n s t o g _ (λ m c. reached_from T (suc k) m (p + c) (after S o s) os) (λ m c. reached_from U (suc k) m (p + c) (after R o t) os)
      (λ m c h. reached_alike (suc k) m (p + c) (after S o s) (after R o t) os h))

  pub reached_of_alike : (s t : State) (ops : List ℕ) → SameAt S s t → reached_of T s ops ≡ reached_of U t ops
  unfolding reached_of
  reached_of_alike s t ops g = ap (λ (r : Option Part). cond (leb (length ops) most_steps) r None) (reached_alike 0 0 0 s t ops g)

  pub chosen_from_alike : (s t : State) (a b : List ℕ) → SameAt S s t → chosen_from T s a b ≡ chosen_from U t a b
  chosen_from_alike s t a b g = ap₂ choice_of (reached_of_alike s t a g) (reached_of_alike s t b g)
