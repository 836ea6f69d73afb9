-- Laws of numbered states: strides, a number by its strides, and the numbered space of facts that can be walked. Assumes nothing.
use mathlib.Core.Path.{◌≡◌, refl, ap, ap₂, ◌∙◌, subst}
use mathlib.Core.Logic.{⊎_elim}
use mathlib.Core.List.{List, []}
use Prim.Native.Nat.{ℕ, zero, suc, ◌+◌, ◌*◌, ◌≤◌, ◌<◌}
use native.Mathlib.Nat.{le_refl, le_of_suc-le-suc, eq-or-lt_of_le, mul-le-mul_right}
use native.Mathlib.Numerals.{add-one}
use native.Mathlib.Omega.{arith}
use Rattle.graph.specs.Graph.{Closed}
use Rattle.meaning.specs.Limits.{most_states}
use Rattle.meaning.specs.Numbering.{size, number, digit, Positive, Digits}
use Rattle.meaning.specs.Sas.{put, after}
use Rattle.meaning.specs.Views.{complies}
use Rattle.meaning.proofs.Numbers.{number_below, digit_below, size_pos}
use Rattle.meaning.proofs.Facts.{put_below}
use Rattle.meaning.proofs.Space.{to_if_to}
use Rattle.tables.specs.declared.Counts.{Counts}
use Rattle.tables.specs.Layout.{dom_at, eff_at}
use Rattle.tables.specs.Task.{sas_of, tables}
use Rattle.maps.specs.Inside.Walks.{space_of, Walkable}

-- a stride is at most a later one
pub size_le : (K : ℕ → ℕ) (v n : ℕ) → v ≤ n → Positive K n → size K v ≤ size K n
size_le K v zero l p = let e : v ≡ 0 = omega arith in rw e (le_refl 1)
size_le K v (suc n) l p = ⊎_elim
    (λ e. rw e (le_refl (size K (suc n))))
    (λ lt.
    omega
    (arith, size_le K v n (le_of_suc-le-suc lt) (λ u g. p u (omega arith)), mul-le-mul_right (size K n) (p n (le_refl (suc n)))))
    (eq-or-lt_of_le l)

-- the stride of the next digit, of k values
pub size_more : (K : ℕ → ℕ) (v stride k : ℕ) → stride ≡ size K v → k ≡ K v → stride * k ≡ size K (v + 1)
size_more K v stride k e f = rw add-one (ap₂ ◌*◌ e f)

-- ---- a number by its strides

-- radices, and digits below them, of a number that stays small
pub record Digital (K D : ℕ → ℕ) (n : ℕ) : Type 0 where
  pub positive : Positive K n
  pub below : Digits K D n
  pub few : size K n ≤ most_states

-- the first v digits D are in b
pub record Numbered (K D : ℕ → ℕ) (n v stride b : ℕ) : Type 0 where
  pub low : v ≤ n
  pub stride_is : stride ≡ size K v
  pub number_is : b ≡ number K D v

pub numbered_none : {K D : ℕ → ℕ} {n : ℕ} → Numbered K D n 0 1 0
numbered_none = record { low = omega arith; stride_is = refl; number_is = refl }

module _ {K D : ℕ → ℕ} {n v stride b : ℕ} (w : Numbered K D n v stride b) where
  -- the numbers stay small
  pub numbered_small : Digital K D n → (stride ≤ most_states) × (b < most_states)
  numbered_small W =
      let s : size K v ≤ size K n = size_le K v n w.low W.positive in
      let d : number K D v < size K v = number_below K D v (λ u l. W.below u (omega (arith, w.low))) in
      (omega (arith, w.stride_is, W.few), omega (arith, w.number_is, W.few))

  pub numbered_all : n ≤ v → b ≡ number K D n
  numbered_all l = let q : v ≡ n = omega (arith, w.low) in w.number_is ∙ ap (number K D) q

  -- one digit more, x by the radix k
  pub numbered_more : v < n → {x k : ℕ} → x ≡ D v → k ≡ K v → Numbered K D n (v + 1) (stride * k) (b + x * stride)
  numbered_more l hx hk =
      record {
        low = omega arith;
        stride_is = size_more K v stride _ w.stride_is hk;
        number_is = rw add-one (ap₂ ◌+◌ w.number_is (ap₂ ◌*◌ hx w.stride_is));
      }

-- ---- the numbered space

module _ (c : Counts) (facts prices : List ℕ) (W : Walkable c facts) where
  -- the values after an operator are values
  pub after_digits : (o : ℕ) (s : ℕ → ℕ) → o < c.ops → Digits (dom_at facts) s c.vars
      → Digits (dom_at facts) (λ v. put (eff_at facts o v) (s v)) c.vars
  after_digits o s lo h v l = put_below (eff_at facts o v) (s v) (dom_at facts v) (W.effects o v lo l) (h v l)

  pub walkable_closed : Closed (space_of c facts prices)
  walkable_closed o a b lo l e =
      let S = sas_of (tables c facts prices []) in
      let D = digit (dom_at facts) a in
      let t = to_if_to (complies S (S.pre o) D) (number (dom_at facts) (after S o D) c.vars) b e in
      subst (λ (x : ℕ). x < size (dom_at facts) c.vars) t.1
      (number_below (dom_at facts) (after S o D) c.vars (after_digits o D lo (digit_below (dom_at facts) a c.vars W.values)))

  pub walkable_some : 1 ≤ (space_of c facts prices).states
  walkable_some = size_pos (dom_at facts) c.vars W.values
