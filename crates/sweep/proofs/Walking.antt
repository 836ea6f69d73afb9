-- Laws of a step among numbered states: digits by division, a number by its strides, and the two together are the numbered state space's.
-- Assumes nothing.
use mathlib.Core.Path.{◌≡◌, refl, sym, ap, ap₂, ◌∙◌, subst}
use mathlib.Core.Logic.{⊎_elim}
use mathlib.Core.Bool.{Bool, true, false}
use mathlib.Core.List.{List, []}
use Prim.Native.Nat.{ℕ, zero, suc, ◌+◌, ◌*◌, ◌/◌, ◌%◌, ◌^◌, ◌≤◌, ◌<◌}
use native.Mathlib.Nat.{le_refl, le_of_suc-le-suc, eq-or-lt_of_le, mul-le-mul_right, div-div-eq-div-mul}
use native.Mathlib.Numerals.{add-one}
use native.Mathlib.Omega.{arith}
use lib.ListN.{get_or}
use Rattle.graph.specs.Graph.{Next, stop, to, Closed}
use Rattle.graph.specs.Least.{after_step}
use Rattle.meaning.specs.Limits.{most_states}
use Rattle.meaning.specs.Numbering.{size, number, digit, Positive, Digits}
use Rattle.meaning.specs.Sas.{put, after}
use Rattle.meaning.specs.Views.{complies, to_if}
use Rattle.meaning.proofs.Numbers.{number_below, number_same, digit_below, size_pos}
use Rattle.meaning.proofs.Facts.{put_below, complies_same}
use Rattle.meaning.proofs.Space.{to_if_to}
use Rattle.tables.specs.declared.Counts.{Counts}
use Rattle.tables.specs.Layout.{dom_at, eff_at, eff_row}
use Rattle.tables.specs.Task.{sas_of, tables, state_of}
use Rattle.tables.specs.Steps.{may_run, meets_goal, value_after}
use Rattle.tables.proofs.Meant.{may_run_is, meets_goal_is}
use Rattle.sweep.specs.Said.{NONE, said, said_at}
use Rattle.sweep.specs.Inside.Walks.{space_of, Walkable, HasDigits, number_after, next_from}
use Rattle.sweep.specs.Inside.Sweeps.{PricesSmall, Addable}
use Rattle.sweep.proofs.Saids.{beyond_within}

-- a stride is at most a later one
pub size_le : (K : ℕ → ℕ) (v n : ℕ) → v ≤ n → Positive K n → size K v ≤ size K n
size_le K v zero l p = let e : v ≡ 0 = omega arith in rw e (le_refl 1)
size_le K v (suc n) l p = ⊎_elim
    (λ e. rw e (le_refl (size K (suc n))))
    (λ lt.
    omega
    (arith, size_le K v n (le_of_suc-le-suc lt) (λ u g. p u (omega arith)), mul-le-mul_right (size K n) (p n (le_refl (suc n)))))
    (eq-or-lt_of_le l)

-- ---- digits by division

pub rest_more : (K : ℕ → ℕ) (a v rest k : ℕ) → rest ≡ a / size K v → k ≡ K v → rest / k ≡ a / size K (v + 1)
rest_more K a v rest k h e = rw add-one (ap₂ ◌/◌ h e ∙ div-div-eq-div-mul a (size K v) (K v))

pub rest_digit : (K : ℕ → ℕ) (a v rest k : ℕ) → rest ≡ a / size K v → k ≡ K v → rest % k ≡ digit K a v
rest_digit K a v rest k h e = ap₂ ◌%◌ h e

-- ---- a number by its strides

-- radices, and digits below them, of a number that stays small
pub record Digital (K D : ℕ → ℕ) (n : ℕ) : Type 0 where
  pub positive : Positive K n
  pub below : Digits K D n
  pub few : size K n ≤ most_states

-- the first v digits D are in b
pub record Numbered (K D : ℕ → ℕ) (n v stride b : ℕ) : Type 0 where
  pub low : v ≤ n
  pub stride_is : stride ≡ size K v
  pub number_is : b ≡ number K D v

module _ {K D : ℕ → ℕ} {n v stride b : ℕ} (w : Numbered K D n v stride b) where
  -- the numbers stay small
  pub numbered_small : Digital K D n → (stride ≤ most_states) × (b < most_states)
  numbered_small W =
      let s : size K v ≤ size K n = size_le K v n w.low W.positive in
      let d : number K D v < size K v = number_below K D v (λ u l. W.below u (omega (arith, w.low))) in
      (omega (arith, w.stride_is, W.few), omega (arith, w.number_is, W.few))

  -- one digit more, x by the radix k
  pub numbered_more : v < n → {x k stride' b' : ℕ} → x ≡ D v → k ≡ K v → stride' ≡ stride * k → b' ≡ b + x * stride → Numbered K D n (v + 1) stride' b'
  numbered_more l hx hk hs hb =
      record {
        low = omega arith;
        stride_is = rw add-one (hs ∙ ap₂ ◌*◌ w.stride_is hk);
        number_is = rw add-one (hb ∙ ap₂ ◌+◌ w.number_is (ap₂ ◌*◌ hx w.stride_is));
      }

-- which stays small too
pub placed_small : {K D : ℕ → ℕ} {n v stride b : ℕ} → Numbered K D n v stride b → Digital K D n → v < n → {x k : ℕ} → x ≡ D v → k ≡ K v
    → (b + x * stride < 2 ^ 32) × (stride * k < 2 ^ 32)
placed_small w W l hx hk = let s = numbered_small (numbered_more w l hx hk refl refl) W in (omega (arith, s.1), omega (arith, s.0))

-- ---- the step

module _ (c : Counts) (facts s : List ℕ) (o : ℕ) (may : Bool) (is : may ≡ may_run c facts s o) where
  -- it leads on where the operator may run, and only there
  pub step_runs : (row b : ℕ) → may ≡ true → row ≡ eff_row o → b ≡ number_after c.vars facts row s → to b ≡ next_from c facts s o
  unfolding next_from
  step_runs row b e r n = rw (sym is ∙ e, n, r) refl

  pub step_stops : may ≡ false → stop ≡ next_from c facts s o
  unfolding next_from
  step_stops e = rw (sym is ∙ e) refl

module _ (c : Counts) (facts prices : List ℕ) where
  -- from the digits of a state, the computed step is the state space's; and so is the goal
  pub step_is : (a o : ℕ) (s : List ℕ) → HasDigits c.vars facts a s → next_from c facts s o ≡ (space_of c facts prices).succ o a
  unfolding next_from
  step_is a o s h =
      let t = tables c facts prices [] in
      ap₂ to_if (may_run_is t s o ∙ complies_same (sas_of t) ((sas_of t).pre o) (state_of s) (digit (dom_at facts) a) h)
      (number_same (dom_at facts) (value_after facts (eff_row o) s) (after (sas_of t) o (digit (dom_at facts) a)) c.vars
      (λ v l. ap (put (eff_at facts o v)) (h v l)))

  pub goal_is : (a : ℕ) (s : List ℕ) → HasDigits c.vars facts a s → meets_goal c facts s ≡ (space_of c facts prices).goal a
  goal_is a s h =
      let t = tables c facts prices [] in
      meets_goal_is t s ∙ complies_same (sas_of t) (sas_of t).goal (state_of s) (digit (dom_at facts) a) h

  module _ (W : Walkable c facts) where
    -- the values after an operator are values
    pub after_digits : (o : ℕ) (s : ℕ → ℕ) → o < c.ops → Digits (dom_at facts) s c.vars
        → Digits (dom_at facts) (λ v. put (eff_at facts o v) (s v)) c.vars
    after_digits o s lo h v l = put_below (eff_at facts o v) (s v) (dom_at facts v) (W.effects o v lo l) (h v l)

    pub walkable_closed : Closed (space_of c facts prices)
    walkable_closed o a b lo l e =
        let S = sas_of (tables c facts prices []) in
        let D = digit (dom_at facts) a in
        let t = to_if_to (complies S (S.pre o) D) (number (dom_at facts) (after S o D) c.vars) b e in
        subst (λ (x : ℕ). x < size (dom_at facts) c.vars) t.1
        (number_below (dom_at facts) (after S o D) c.vars (after_digits o D lo (digit_below (dom_at facts) a c.vars W.values)))

    pub walkable_some : 1 ≤ (space_of c facts prices).states
    walkable_some = size_pos (dom_at facts) c.vars W.values

    -- a price more than what a table says of where the step leads still fits
    pub price_fits : (old s : List ℕ) {a o k v : ℕ} {next : Next} → PricesSmall c prices → a < size (dom_at facts) c.vars → o < c.ops
        → Addable (size (dom_at facts) c.vars) old → HasDigits c.vars facts a s → next ≡ next_from c facts s o → k ≡ get_or prices o 0
        → said v ≡ after_step (said_at old) next → v < NONE → k + v < NONE
    price_fits old s {a = a} {o = o} {v = v} {next = next} P la lo h sp n e d l =
        let q : next ≡ (space_of c facts prices).succ o a = n ∙ step_is a o s sp in
        omega
        (arith, P o lo, beyond_within (size (dom_at facts) c.vars) old next v h (λ b g. walkable_closed o a b lo la (sym q ∙ g)) d l)
