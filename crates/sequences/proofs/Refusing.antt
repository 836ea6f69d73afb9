-- Judging refuses a step with 10, 12 or 19, and its number, exactly if tables and state are accepted, the sequence isn't too long, the steps before it run and
-- keep the quota, and that is true of the step. By induction over the list; what is handed in has other numbers. Assumes nothing.
use Prim.Native.Nat.{ℕ, zero, suc, ◌+◌, ◌≤◌, ◌<◌}
use mathlib.Core.Path.{◌≡◌, refl, ap, sym, ◌∙◌, subst}
use mathlib.Core.Bool.{Bool, true, false, cond, ◌||◌, false≢true}
use mathlib.Core.List.{List, [], ◌∷◌}
use mathlib.Core.Logic.{◌↔◌, inl, inr}
use native.Mathlib.Omega.{arith}
use lib.Dec.{leb, ltb, eqb}
use lib.ListN.{length, get_or, take}
use borrow.Author.Tests.{leb-true, le-leb}
use Rattle.scan.specs.Found.{Found, clean}
use Rattle.refusals.specs.declared.Refusal.{Refusal}
use Rattle.refusals.specs.declared.Refusal.TheVariants.{SequenceTooLong, NoGoal, TableTooShort, ValueOutside, NoSuchOperator, MayNotRun, BeyondQuota}
use Rattle.refusals.specs.Listed.{number_of, place_of}
use Rattle.meaning.specs.Limits.{most_steps}
use Rattle.meaning.specs.Sas.{State, Sas, Runs, after, end}
use Rattle.meaning.specs.Split.{Task}
use Rattle.meaning.specs.Views.{complies}
use Rattle.meaning.specs.Quota.{stored, StoresWithin, RunsWithin}
use Rattle.meaning.proofs.Facts.{by_cases}
use Rattle.meaning.proofs.Quota.{keeps_exactly}
use Rattle.scan.specs.Scan.{unless, ◌then◌, each, tables_fault, state_fault, input_fault}
use Rattle.scan.proofs.Numbers.{OfTables, tables_refused}
use Rattle.tables.specs.Layout.{Tables, dom_at}
use Rattle.tables.specs.Task.{task_of, state_of}
use Rattle.std.specs.Result.{result_and}
use Rattle.std.specs.Prelude.{Result, Ok, Err}
use Rattle.sequences.specs.declared.stepping.Hitch.{Hitch}
use Rattle.sequences.specs.declared.stepping.Hitch.TheVariants.{NoSuch, MayNot, Beyond}
use Rattle.sequences.specs.Stepping.{step_of, refusal_of}
use Rattle.sequences.specs.Judging.{walked, limited, judged_of}
use Rattle.sequences.proofs.Laws.{Told, step_told, told_step, takes}

-- ---- the numbers of a step's refusals

abbrev told : Result ℕ Refusal → ℕ
told (Ok c) = 0
told (Err r) = number_of r

abbrev place : Result ℕ Refusal → ℕ
place (Ok c) = 0
place (Err r) = place_of r

abbrev of_step : ℕ → Bool
of_step n = eqb n 10 || (eqb n 12 || eqb n 19)

-- the hitch that such a number tells
abbrev back : ℕ → Hitch
back n = cond (eqb n 10) NoSuch (cond (eqb n 12) MayNot Beyond)

-- a hitch is told by its number and its place
pub record HitchTold (h : Hitch) (q : ℕ) : Type 0 where
  pub number : of_step (number_of (refusal_of h q)) ≡ true
  pub answer : back (number_of (refusal_of h q)) ≡ h
  pub place : place_of (refusal_of h q) ≡ q

hitch_told : (h : Hitch) (q : ℕ) → HitchTold h q
hitch_told NoSuch q = record { number = refl; answer = refl; place = refl }
hitch_told MayNot q = record { number = refl; answer = refl; place = refl }
hitch_told Beyond q = record { number = refl; answer = refl; place = refl }

one_refusal : (h w : Hitch) (q k : ℕ) → ◌≡◌ {A = Result ℕ Refusal} (Err (refusal_of h q)) (Err (refusal_of w k)) → (h ≡ w) × (q ≡ k)
one_refusal h w q k e =
    let a = hitch_told h q in
    let b = hitch_told w k in
    (sym a.answer ∙ ap (λ (j : Result ℕ Refusal). back (told j)) e ∙ b.answer, sym a.place ∙ ap place e ∙ b.place)

-- what tells another number isn't one
no_step : {A : Type 0} (j : Result ℕ Refusal) (h : Hitch) (q : ℕ) → of_step (told j) ≡ false → j ≡ Err (refusal_of h q) → A
no_step j h q p e = absurd (false≢true (sym p ∙ ap (λ (i : Result ℕ Refusal). of_step (told i)) e ∙ (hitch_told h q).number))

-- what is handed in is told by other numbers
abbrev faulty : Found → Bool
faulty (Ok tt) = false
faulty (Err r) = of_step (number_of r)

then_other : (f g : Found) → faulty f ≡ false → faulty g ≡ false → faulty (f then g) ≡ false
then_other (Ok tt) g p q = q
then_other (Err r) g p q = p

tables_other : (r : Refusal) → OfTables r → of_step (number_of r) ≡ false
tables_other r (inl e) = ap of_step e
tables_other r (inr (inl e)) = ap of_step e
tables_other r (inr (inr (inl e))) = ap of_step e
tables_other r (inr (inr (inr (inl e)))) = ap of_step e
tables_other r (inr (inr (inr (inr (inl e))))) = ap of_step e
tables_other r (inr (inr (inr (inr (inr e))))) = ap of_step e

found_other : (f : Found) → ((r : Refusal) → f ≡ Err r → OfTables r) → faulty f ≡ false
found_other (Ok tt) h = refl
found_other (Err r) h = tables_other r (h r refl)

rule_other : (b : Bool) (r : Refusal) → of_step (number_of r) ≡ false → faulty (unless b r) ≡ false
rule_other true r p = refl
rule_other false r p = p

each_other : (f : ℕ → Found) → ((i : ℕ) → faulty (f i) ≡ false) → (n i : ℕ) → faulty (each f n i) ≡ false
unfolding each
each_other f h zero i = refl
each_other f h (suc n) i = then_other (f i) (each f n (suc i)) (h i) (each_other f h n (suc i))

state_other : (t : Tables) (s : List ℕ) → faulty (state_fault t.counts t.facts s) ≡ false
unfolding state_fault
state_other t s =
    let value : ℕ → Found = λ v. unless (ltb (state_of s v) (dom_at t.facts v)) (ValueOutside v) in
    then_other (unless (leb t.counts.vars (length s)) TableTooShort) (each value t.counts.vars 0) (rule_other (leb t.counts.vars (length s)) TableTooShort refl)
    (each_other value (λ v. rule_other (ltb (state_of s v) (dom_at t.facts v)) (ValueOutside v) refl) t.counts.vars 0)

input_other : (t : Tables) (s : List ℕ) → faulty (input_fault t s) ≡ false
unfolding input_fault
input_other t s =
    then_other (tables_fault t) (state_fault t.counts t.facts s) (found_other (tables_fault t) (tables_refused t)) (state_other t s)

-- ---- the walk

-- after n stored tests: j steps of the list run from s, none of them stores beyond the quota, and the step after them answers m
pub record AnswersAfter (T : Task) (n : ℕ) (s : State) (os : List ℕ) (j : ℕ) (m : Result ℕ Hitch) : Type 0 where
  pub inside : j < length os
  pub runs : Runs T.sas (take j os) s
  pub within : StoresWithin T n (take j os)
  pub answer : step_of T (n + stored T (take j os)) (end T.sas (take j os) s) (get_or os j 0) ≡ m

module _ (T : Task) where
  abbrev S : Sas
  S = T.sas

  -- one step more before it, and one less
  later : (n : ℕ) (s : State) (o c : ℕ) (os : List ℕ) (j : ℕ) (m : Result ℕ Hitch) → step_of T n s o ≡ Ok c → AnswersAfter T (n + T.mark o) (after S o s) os j m
      → AnswersAfter T n s (o ∷ os) (suc j) m
  later n s o c os j m e h =
      let u = step_told T n s o (Ok c) e in
      let sums : n + T.mark o + stored T (take j os) ≡ n + (T.mark o + stored T (take j os)) = omega arith in
      record {
        inside = omega (arith, h.inside);
        runs = (u.exists, u.runs, h.runs);
        within = (u.within, h.within);
        answer = subst (λ (k : ℕ). step_of T k (end S (take j os) (after S o s)) (get_or os j 0) ≡ m) sums h.answer;
      }

  sooner : (n : ℕ) (s : State) (o : ℕ) (os : List ℕ) (j : ℕ) (m : Result ℕ Hitch) → AnswersAfter T n s (o ∷ os) (suc j) m
      → AnswersAfter T (n + T.mark o) (after S o s) os j m
  sooner n s o os j m h =
      let sums : n + (T.mark o + stored T (take j os)) ≡ n + T.mark o + stored T (take j os) = omega arith in
      record {
        inside = omega (arith, h.inside);
        runs = h.runs.2;
        within = h.within.1;
        answer = subst (λ (k : ℕ). step_of T k (end S (take j os) (after S o s)) (get_or os j 0) ≡ m) sums h.answer;
      }

  -- before all steps nothing is stored yet
  none_yet : (n : ℕ) (s : State) (o : ℕ) → step_of T n s o ≡ step_of T (n + 0) s o
  none_yet n s o = let e : n ≡ n + 0 = omega arith in ap (λ (k : ℕ). step_of T k s o) e

  walked_stops : (os : List ℕ) (s : State) (k n p q : ℕ) (h : Hitch) → walked T k n p s os ≡ Err (refusal_of h q)
      → (j : ℕ) × (q ≡ suc (k + j)) × AnswersAfter T n s os j (Err h)
  unfolding walked
  walked_stops [] s k n p q h e =
      by_cases (complies S S.goal s) (λ g. no_step (Ok p) h q refl (rw g at e)) (λ g. no_step (Err (NoGoal k)) h q refl (rw g at e))
  walked_stops (o ∷ os) s k n p q h e =
      at (step_of T n s o) refl (λ c x. walked_stops os (after S o s) (suc k) (n + T.mark o) (p + c) q h (rw x at e))
    where
      at : (m : Result ℕ Hitch) → step_of T n s o ≡ m
          → ((c : ℕ) → step_of T n s o ≡ Ok c → (j : ℕ) × (q ≡ suc (suc k + j)) × AnswersAfter T (n + T.mark o) (after S o s) os j (Err h))
          → (j : ℕ) × (q ≡ suc (k + j)) × AnswersAfter T n s (o ∷ os) j (Err h)
      at (Err w) x go =
          let same = one_refusal w h (suc k) q (rw x at e) in
          (0, omega (arith, same.1), record { inside = omega arith; runs = tt; within = tt; answer = sym (none_yet n s o) ∙ x ∙ ap Err same.0 })
      at (Ok c) x go =
          let r = go c x in
          (suc r.0, omega (arith, r.1), later n s o c os r.0 (Err h) x r.2)

  stops_walked : (os : List ℕ) (s : State) (k n p j : ℕ) (h : Hitch) → AnswersAfter T n s os j (Err h) → walked T k n p s os ≡ Err (refusal_of h (suc (k + j)))
  unfolding walked
  stops_walked [] s k n p j h a = absurd (let z : ⊥ = omega (arith, a.inside) in z)
  stops_walked (o ∷ os) s k n p zero h a = rw (none_yet n s o ∙ a.answer) (ap (λ (q : ℕ). Err (refusal_of h q)) (omega arith))
  stops_walked (o ∷ os) s k n p (suc j) h a =
      rw (takes T n s o a.runs.0 a.runs.1 a.within.0)
      (stops_walked os (after S o s) (suc k) (n + T.mark o) (p + S.cost o) j h (sooner n s o os j (Err h) a)
      ∙ ap (λ (q : ℕ). Err (refusal_of h q)) (omega arith))

-- ---- THE STEP THAT IS REFUSED

-- what is handed in is accepted, the sequence isn't too long, its first k steps run and keep the quota, and the hitch h is true of the step after them:
-- there is no such operator; or there is, and it may not run; or it may, and stores beyond the quota
pub record RefusedAfter (t : Tables) (s ops : List ℕ) (k : ℕ) (h : Hitch) : Type 0 where
  pub input : input_fault t s ≡ clean
  pub within : length ops ≤ most_steps
  pub inside : k < length ops
  pub before : RunsWithin (task_of t) (take k ops) (state_of s)
  pub told : Told (task_of t) (stored (task_of t) (take k ops)) (end (task_of t).sas (take k ops) (state_of s)) (get_or ops k 0) (Err h)

module _ (t : Tables) (s ops : List ℕ) where
  abbrev W : Task
  W = task_of t

  -- of all steps from the start
  from_start : (k : ℕ) (h : Hitch) → input_fault t s ≡ clean → length ops ≤ most_steps → AnswersAfter W 0 (state_of s) ops k (Err h) → RefusedAfter t s ops k h
  from_start k h c l a =
      let e : 0 + stored W (take k ops) ≡ stored W (take k ops) = omega arith in
      let at : ℕ → Result ℕ Hitch = λ n. step_of W n (end W.sas (take k ops) (state_of s)) (get_or ops k 0) in
      record {
        input = c;
        within = l;
        inside = a.inside;
        before = (a.runs, (keeps_exactly W (take k ops)).1 a.within);
        told = step_told W _ _ _ (Err h) (subst (λ (n : ℕ). at n ≡ Err h) e a.answer);
      }

  to_start : (k : ℕ) (h : Hitch) → RefusedAfter t s ops k h → AnswersAfter W 0 (state_of s) ops k (Err h)
  to_start k h a =
      let e : stored W (take k ops) ≡ 0 + stored W (take k ops) = omega arith in
      let at : ℕ → Result ℕ Hitch = λ n. step_of W n (end W.sas (take k ops) (state_of s)) (get_or ops k 0) in
      record {
        inside = a.inside;
        runs = a.before.0;
        within = (keeps_exactly W (take k ops)).0 a.before.1;
        answer = subst (λ (n : ℕ). at n ≡ Err h) e (told_step W _ _ _ (Err h) a.told);
      }

  refused_says : (q : ℕ) (h : Hitch) → judged_of t s ops ≡ Err (refusal_of h q) → (k : ℕ) × (q ≡ suc k) × RefusedAfter t s ops k h
  unfolding judged_of limited
  refused_says q h = at (input_fault t s) refl
    where
      at : (f : Found) → input_fault t s ≡ f → result_and f (limited W (state_of s) ops) ≡ Err (refusal_of h q)
          → (k : ℕ) × (q ≡ suc k) × RefusedAfter t s ops k h
      at (Ok tt) c e =
          by_cases (leb (length ops) most_steps)
          (λ l.
          let a = walked_stops W ops (state_of s) 0 0 0 q h (rw l at e) in
          (a.0, omega (arith, a.1), from_start a.0 h c (leb-true (length ops) most_steps l) a.2))
          (λ l. no_step (Err SequenceTooLong) h q refl (rw l at e))
      at (Err x) c e = no_step (Err x) h q (sym (ap faulty c) ∙ input_other t s) e

  says_refused : (k : ℕ) (h : Hitch) → RefusedAfter t s ops k h → judged_of t s ops ≡ Err (refusal_of h (suc k))
  unfolding judged_of limited
  says_refused k h a =
      rw (a.input, le-leb (length ops) most_steps a.within)
      (stops_walked W ops (state_of s) 0 0 0 k h (to_start k h a) ∙ ap (λ (q : ℕ). Err (refusal_of h q)) (omega arith))

  -- EACH OF THE THREE EXACTLY THEN
  pub refused_exactly : (k : ℕ) (h : Hitch) → (judged_of t s ops ≡ Err (refusal_of h (suc k))) ↔ RefusedAfter t s ops k h
  refused_exactly k h = (
    λ e.
        let a = refused_says (suc k) h e in
        let same : a.0 ≡ k = omega (arith, a.1) in
        subst (λ (j : ℕ). RefusedAfter t s ops j h) same a.2,
    says_refused k h,
  )

  pub ten_exactly : (k : ℕ) → (judged_of t s ops ≡ Err (NoSuchOperator (suc k))) ↔ RefusedAfter t s ops k NoSuch
  ten_exactly k = refused_exactly k NoSuch

  pub twelve_exactly : (k : ℕ) → (judged_of t s ops ≡ Err (MayNotRun (suc k))) ↔ RefusedAfter t s ops k MayNot
  twelve_exactly k = refused_exactly k MayNot

  pub nineteen_exactly : (k : ℕ) → (judged_of t s ops ≡ Err (BeyondQuota (suc k))) ↔ RefusedAfter t s ops k Beyond
  nineteen_exactly k = refused_exactly k Beyond

  -- its place is the number of a step
  pub nineteen_says : (q : ℕ) → judged_of t s ops ≡ Err (BeyondQuota q) → (k : ℕ) × (q ≡ suc k) × RefusedAfter t s ops k Beyond
  nineteen_says q = refused_says q Beyond
