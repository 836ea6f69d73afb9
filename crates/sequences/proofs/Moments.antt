-- The first moment a goal holds: what the walk up to it finds is the shortest opening part that passes, and so the cheapest, and it keeps the quota; a list that
-- stores beyond the quota before that moment is out. Assumes nothing.
use Prim.Native.Nat.{ℕ, zero, suc, ◌+◌, ◌≤◌, ◌<◌}
use mathlib.Core.Path.{◌≡◌, refl, ap, sym, ◌∙◌, subst}
use mathlib.Core.Bool.{true, false, false≢true}
use mathlib.Core.List.{List, [], ◌∷◌}
use native.Mathlib.Omega.{arith}
use lib.Dec.{leb}
use lib.ListN.{length, take}
use borrow.Author.Tests.{leb-true, leb-false, le-leb}
use Rattle.meaning.specs.Sas.{State, Sas, MayRun, after, Passes, paid}
use Rattle.meaning.specs.Split.{Task}
use Rattle.meaning.specs.Quota.{stored, KeepsQuota, StoresWithin, PassesWithin}
use Rattle.meaning.specs.Views.{complies}
use Rattle.meaning.proofs.Facts.{complies_true, true_complies, by_cases, by_order}
use Rattle.meaning.proofs.Quota.{keeps_exactly}
use Rattle.std.specs.Prelude.{Option, Some, None, Ok}
use Rattle.sequences.specs.declared.choosing.Part.{Part}
use Rattle.sequences.specs.Stepping.{step_of}
use Rattle.meaning.specs.Limits.{most_steps}
use Rattle.sequences.specs.Choosing.{part, reached_from, reached_of}
use Rattle.sequences.proofs.Laws.{takes, step_told, apart_taken, cond_held, reached_goal}

-- a goal first holds after n steps of the list, which cost q together
pub record Moment (S : Sas) (s : State) (os : List ℕ) (n q : ℕ) : Type 0 where
  pub inside : n ≤ length os
  pub passes : Passes S (take n os) s
  pub cost : q ≡ paid S.cost (take n os)
  pub first : (j : ℕ) → j < n → Passes S (take j os) s → ⊥

-- a longer opening part costs no less
paid_more : (p : ℕ → ℕ) (os : List ℕ) (n j : ℕ) → n ≤ j → paid p (take n os) ≤ paid p (take j os)
paid_more p os zero j h = omega arith
paid_more p os (suc n) zero h = absurd (let z : ⊥ = omega arith in z)
paid_more p [] (suc n) (suc j) h = omega arith
paid_more p (o ∷ os) (suc n) (suc j) h = omega (arith, paid_more p os n j (omega arith))

not_out : (r : Part) → None ≡ Some r → ⊥
not_out r e = cc

module _ (S : Sas) where
  -- no goal holds here, so the empty opening part doesn't pass
  not_here : (s : State) → complies S S.goal s ≡ false → Passes S [] s → ⊥
  not_here s g h = false≢true (sym g ∙ true_complies S S.goal s h.1)

  here : (s : State) (os : List ℕ) → complies S S.goal s ≡ true → Moment S s os 0 0
  here s os g =
      record { inside = omega arith; passes = (tt, complies_true S S.goal s g); cost = refl; first = λ j l. absurd (let z : ⊥ = omega arith in z) }

  onward : (s : State) (o n q : ℕ) (os : List ℕ) → complies S S.goal s ≡ false → o < S.ops → MayRun S o s → Moment S (after S o s) os n q
      → Moment S s (o ∷ os) (suc n) (S.cost o + q)
  onward s o n q os g l r h =
      record {
        inside = omega (arith, h.inside);
        passes = ((l, r, h.passes.0), h.passes.1);
        cost = omega (arith, h.cost);
        first = sooner;
      }
    where
      sooner : (j : ℕ) → j < suc n → Passes S (take j (o ∷ os)) s → ⊥
      sooner zero l w = not_here s g w
      sooner (suc j) l w = h.first j (omega arith) (w.0.2, w.1)

  -- no opening part that passes is cheaper than the one at the first moment
  pub moment_least : (s : State) (os : List ℕ) (n q j : ℕ) → Moment S s os n q → Passes S (take j os) s → q ≤ paid S.cost (take j os)
  moment_least s os n q j m h =
      by_cases (leb n j) (λ e. omega (arith, m.cost, paid_more S.cost os n j (leb-true n j e)))
      (λ e. absurd (m.first j (let l : j < n = omega (arith, leb-false n j e) in l) h))

-- ---- the walk

module _ (T : Task) where
  abbrev S : Sas
  S = T.sas

  -- after u stored tests: i steps and the cost q, k and p of which came before, are the first moment, and no step up to it stores beyond the quota
  abbrev Finds : List ℕ → State → ℕ → ℕ → ℕ → ℕ → ℕ → Type 0
  Finds os s k u p i q = (m x : ℕ) × (i ≡ k + m) × (q ≡ p + x) × Moment S s os m x × StoresWithin T u (take m os)

  finds_here : (os : List ℕ) (s : State) (k u p i q : ℕ) → reached_from T k u p s os ≡ Some (part i q) → complies S S.goal s ≡ true → Finds os s k u p i q
  finds_here os s k u p i q e g =
      let f = reached_goal T k u p s os g in
      let h : part k p ≡ part i q = cc in
      let a : k ≡ i = ap (λ (r : Part). r.steps) h in
      let b : p ≡ q = ap (λ (r : Part). r.cost) h in
      (0, 0, omega arith, omega arith, here S s os g, tt)

  -- what the walk finds is the first moment
  reached_moment : (os : List ℕ) (s : State) (k u p i q : ℕ) → reached_from T k u p s os ≡ Some (part i q) → Finds os s k u p i q
  unfolding reached_from
  reached_moment [] s k u p i q e =
      by_cases (complies S S.goal s) (finds_here [] s k u p i q e) (λ g. absurd (not_out (part i q) (rw g at e)))
  reached_moment (o ∷ os) s k u p i q e =
      by_cases (complies S S.goal s) (finds_here (o ∷ os) s k u p i q e)
      (λ g.
      let none = not_out (part i q) in
      let t = apart_taken (step_of T u s o) (λ x. reached_from T (suc k) (u + T.mark o) (p + x) (after S o s) os) (λ h. none) (rw g at e) in
      let w = step_told T u s o (Ok t.0) t.1 in
      let r = reached_moment os (after S o s) (suc k) (u + T.mark o) (p + t.0) i q t.2 in
      (suc r.0, S.cost o + r.1, omega (arith, r.2), omega (arith, r.3, w.cost), onward S s o r.0 r.1 os g w.exists w.runs r.4, (w.within, r.5)))

  -- where an opening part passes and keeps the quota, the walk finds a moment
  passes_reached : (os : List ℕ) (s : State) (k u p j : ℕ) → Passes S (take j os) s → StoresWithin T u (take j os)
      → (i q : ℕ) × (reached_from T k u p s os ≡ Some (part i q))
  unfolding reached_from
  passes_reached os s k u p zero h w = (k, p, reached_goal T k u p s os (true_complies S S.goal s h.1))
  passes_reached [] s k u p (suc j) h w = (k, p, reached_goal T k u p s [] (true_complies S S.goal s h.1))
  passes_reached (o ∷ os) s k u p (suc j) h w =
      by_cases (complies S S.goal s) (λ g. (k, p, reached_goal T k u p s (o ∷ os) g))
      (λ g.
      let r = passes_reached os (after S o s) (suc k) (u + T.mark o) (p + S.cost o) j (h.0.2, h.1) w.1 in
      (r.0, r.1, rw (g, takes T u s o h.0.0 h.0.1 w.0) r.2))

  -- ---- a list of any length

  from_start : (s : State) (os : List ℕ) (i q : ℕ) → Finds os s 0 0 0 i q → Moment S s os i q × KeepsQuota T (take i os)
  from_start s os i q r =
      let m : r.0 ≡ i = omega (arith, r.2) in
      let x : r.1 ≡ q = omega (arith, r.3) in
      subst (λ (a : ℕ). Moment S s os a q × KeepsQuota T (take a os)) m
      (subst (λ (b : ℕ). Moment S s os r.0 b) x r.4, (keeps_exactly T (take r.0 os)).1 r.5)

  pub moment_of : (s : State) (os : List ℕ) (i q : ℕ) → reached_of T s os ≡ Some (part i q) → (length os ≤ most_steps) × Moment S s os i q × KeepsQuota T (take i os)
  unfolding reached_of
  moment_of s os i q e =
      let t = cond_held (leb (length os) most_steps) (reached_from T 0 0 0 s os) (not_out (part i q)) e in
      let f = from_start s os i q (reached_moment os s 0 0 0 i q t.1) in
      (leb-true (length os) most_steps t.0, f.0, f.1)

  -- a list is out exactly if it is too long or no opening part passes and keeps the quota
  pub out_none : (s : State) (os : List ℕ) (j : ℕ) → reached_of T s os ≡ None → length os ≤ most_steps → PassesWithin T (take j os) s → ⊥
  unfolding reached_of
  out_none s os j e l h =
      let r = passes_reached os s 0 0 0 j h.0 ((keeps_exactly T (take j os)).0 h.1) in
      not_out (part r.0 r.1) (sym e ∙ rw (le-leb (length os) most_steps l) r.2)

  pub none_out : (s : State) (os : List ℕ) → ((j : ℕ) → length os ≤ most_steps → PassesWithin T (take j os) s → ⊥) → reached_of T s os ≡ None
  none_out s os h = at (reached_of T s os) refl
    where
      at : (r : Option Part) → reached_of T s os ≡ r → reached_of T s os ≡ None
      at (Some r) e = let m = moment_of s os r.steps r.cost e in absurd (h r.steps m.0 (m.1.passes, m.2))
      at None e = e

  -- so a list that stores beyond the quota with step j + 1, before a goal has held, is out
  pub beyond_out : (s : State) (os : List ℕ) (j : ℕ) → T.quota < stored T (take (suc j) os) → ((i : ℕ) → i ≤ j → Passes S (take i os) s → ⊥)
      → reached_of T s os ≡ None
  beyond_out s os j over none =
      none_out s os
      (λ i l h. by_order j i (λ later. omega (arith, paid_more T.mark os (suc j) i later, h.1)) (λ sooner. none i sooner h.0))
