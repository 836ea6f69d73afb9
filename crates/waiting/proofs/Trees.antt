-- Laws of the tree of least keys. A place that is written disturbs the node above it alone; so a leaf and the two nodes above it, written in that order, make a tree
-- again. The least key at the top is the key of a state, found going down one child at a time. Assumes nothing.
use mathlib.Core.Path.{◌≡◌, sym, refl, ap, ap₂, ◌∙◌, subst}
use mathlib.Core.Logic.{◌⊎◌, inl, inr, ⊎_elim}
use mathlib.Core.List.{List}
use Prim.Native.Nat.{ℕ, zero, suc, ◌+◌, ◌*◌, ◌-◌, ◌/◌, ◌≤◌, ◌<◌, min}
use native.Mathlib.Decide.{ℕ_discrete, dec_le, dec_lt}
use native.Mathlib.Numerals.{add-one}
use native.Mathlib.Omega.{arith}
use lib.ListN.{length, get_or, set, length-set, take, drop, replicate, get_or-replicate}
use Rattle.std.proofs.lemmas.List.{length-take, length-drop, get_or-take, get_or-drop}
use lib.Seq.{get_or-set_same, get_or-set_other}
use Rattle.waiting.specs.Trees.{NOKEY, lowest, leaf, HoldsLeast, Tree, Leafed}

-- a place that is not among the k doesn't matter
lowest_other : (t : List ℕ) (j v at k : ℕ) → (j < at) ⊎ (at + k ≤ j) → lowest (set t j v) at k ≡ lowest t at k
unfolding lowest
lowest_other t j v at zero h = refl
lowest_other t j v at (suc k) h =
    ap₂ min (lowest_other t j v at k (⊎_elim (λ l. inl l) (λ l. inr (let z : at + k ≤ j = omega arith in z)) h))
    (get_or-set_other t j (at + k) v 0 (⊎_elim (λ l e. omega arith) (λ l e. omega arith) h))

-- one of the k that is lowered
lowest_put : (t : List ℕ) (j v at k : ℕ) → j < length t → v ≤ get_or t j 0 → at ≤ j → j < at + k → lowest (set t j v) at k ≡ min (lowest t at k) v
unfolding lowest
lowest_put t j v at zero ll lv lo hi = absurd (omega arith)
lowest_put t j v at (suc k) ll lv lo hi = pick (λ h. lowest_put t j v at k ll lv lo h) (ℕ_discrete j (at + k))
  where
    pick : (j < at + k → lowest (set t j v) at k ≡ min (lowest t at k) v) → Dec (j ≡ at + k) → lowest (set t j v) at (suc k) ≡ min (lowest t at (suc k)) v
    pick f (yes e) =
        let s : get_or (set t j v) (at + k) 0 ≡ v = subst (λ (x : ℕ). get_or (set t j v) x 0 ≡ v) e (get_or-set_same t j v 0 ll) in
        let g : get_or t (at + k) 0 ≡ get_or t j 0 = ap (λ (x : ℕ). get_or t x 0) (sym e) in
        let o : lowest (set t j v) at k ≡ lowest t at k = lowest_other t j v at k (inr (let z : at + k ≤ j = omega arith in z)) in
        omega arith
    pick f (no d) =
        let s : get_or (set t j v) (at + k) 0 ≡ get_or t (at + k) 0 = get_or-set_other t j (at + k) v 0 (λ e. d (sym e)) in
        let o : lowest (set t j v) at k ≡ min (lowest t at k) v = f (omega arith) in
        omega arith

-- none of the k is below the least
lowest_le : (t : List ℕ) (at k j : ℕ) → at ≤ j → j < at + k → lowest t at k ≤ get_or t j 0
unfolding lowest
lowest_le t at zero j lo hi = absurd (omega arith)
lowest_le t at (suc k) j lo hi = pick (λ h. lowest_le t at k j lo h) (ℕ_discrete j (at + k))
  where
    pick : (j < at + k → lowest t at k ≤ get_or t j 0) → Dec (j ≡ at + k) → lowest t at (suc k) ≤ get_or t j 0
    pick f (yes e) = let g : get_or t (at + k) 0 ≡ get_or t j 0 = ap (λ (x : ℕ). get_or t x 0) (sym e) in omega arith
    pick f (no d) = let z : lowest t at k ≤ get_or t j 0 = f (omega arith) in omega arith

-- ---- the k keys from place at on, as they are lent

pub range_len : (t : List ℕ) (at k : ℕ) → at + k ≤ length t → length (take (at + k - at) (drop at t)) ≡ k
range_len t at k h = omega (arith, length-take (at + k - at) (drop at t), length-drop at t)

range_at : (t : List ℕ) (at k i : ℕ) → i < k → get_or (take (at + k - at) (drop at t)) i 0 ≡ get_or t (at + i) 0
range_at t at k i h = get_or-take (at + k - at) (drop at t) i 0 (omega arith) ∙ get_or-drop at t i 0

-- the least of one key more
pub lowest_more : (t : List ℕ) (at i k : ℕ) → at + k ≤ length t → i < length (take (at + k - at) (drop at t)) → {x y : ℕ} → x ≡ lowest t at i
    → y ≡ min x (get_or (take (at + k - at) (drop at t)) i 0) → y ≡ lowest t at (i + 1)
unfolding lowest
lowest_more t at i k h l {x} {y} e f = rw add-one (omega (arith, range_len t at k h, range_at t at k i (omega (arith, range_len t at k h))))

-- the least of all
pub lowest_all : (t : List ℕ) (at i k : ℕ) → at + k ≤ length t → i ≤ length (take (at + k - at) (drop at t)) → length (take (at + k - at) (drop at t)) ≤ i
    → {x : ℕ} → x ≡ lowest t at i → x ≡ lowest t at k
lowest_all t at i k h l m {x} e = let f : i ≡ k = omega (arith, range_len t at k h) in subst (λ (j : ℕ). x ≡ lowest t at j) f e

-- the place of a key x among the k from place at on
At : List ℕ → ℕ → ℕ → ℕ → Type 0
At t at k x = (j : ℕ) × (at ≤ j) × (j < at + k) × (get_or t j 0 ≡ x)

-- a least below NOKEY is one of the k
lowest_at : (t : List ℕ) (at k : ℕ) → lowest t at k < NOKEY → At t at k (lowest t at k)
unfolding lowest At
lowest_at t at zero h = absurd (omega arith)
lowest_at t at (suc k) h = pick (λ z. lowest_at t at k z) (dec_le (get_or t (at + k) 0) (lowest t at k))
  where
    pick : (lowest t at k < NOKEY → At t at k (lowest t at k)) → Dec (get_or t (at + k) 0 ≤ lowest t at k) → At t at (suc k) (lowest t at (suc k))
    pick f (yes l) = (at + k, omega arith, omega arith, omega arith)
    pick f (no l) = let r = f (omega arith) in (r.0, r.1, omega (arith, r.2), omega (arith, r.3))

-- t' is the row t of a tree's length, with v at place j
record Written (t t' : List ℕ) (j v : ℕ) : Type 0 where
  size : length t ≡ 4368
  inside : j < 4368
  is : t' ≡ set t j v

-- every node but q holds its least
But : ℕ → List ℕ → Type 0
But q t = (i : ℕ) → i < 272 → (i ≡ q → ⊥) → HoldsLeast t i

module _ {t t' : List ℕ} {j v : ℕ} (w : Written t t' j v) where
  size_after : length t' ≡ 4368
  size_after = ap length w.is ∙ length-set t j v ∙ w.size

  at_place : get_or t' j 0 ≡ v
  at_place = ap (λ (s : List ℕ). get_or s j 0) w.is ∙ get_or-set_same t j v 0 (omega (arith, w.size, w.inside))

  elsewhere : (i : ℕ) → (i ≡ j → ⊥) → get_or t' i 0 ≡ get_or t i 0
  elsewhere i d = ap (λ (s : List ℕ). get_or s i 0) w.is ∙ get_or-set_other t j i v 0 d

  least_elsewhere : (at : ℕ) → (j < at) ⊎ (at + 16 ≤ j) → lowest t' at 16 ≡ lowest t at 16
  least_elsewhere at h = ap (λ (s : List ℕ). lowest s at 16) w.is ∙ lowest_other t j v at 16 h

  least_lowered : (at : ℕ) → v ≤ get_or t j 0 → at ≤ j → j < at + 16 → lowest t' at 16 ≡ min (lowest t at 16) v
  least_lowered at lv lo hi =
      ap (λ (s : List ℕ). lowest s at 16) w.is ∙ lowest_put t j v at 16 (omega (arith, w.size, w.inside)) lv lo hi

  -- a node that is written right, or a leaf, disturbs the node above it alone; a node at the top has none above it
  written_right : But j t → (j < 272 → v ≡ lowest t (16 + 16 * j) 16) → (i : ℕ) → i < 272 → (16 ≤ j → i ≡ j / 16 - 1 → ⊥) → HoldsLeast t' i
  unfolding But
  written_right ok right i l d = pick (ℕ_discrete i j)
    where
      beside : Dec (j < 16 + 16 * i) → (j < 16 + 16 * i) ⊎ (16 + 16 * i + 16 ≤ j)
      beside (yes g) = inl g
      beside (no g) = inr (let n : i ≡ j / 16 - 1 → ⊥ = d (omega arith) in let z : 16 + 16 * i + 16 ≤ j = omega arith in z)

      pick : Dec (i ≡ j) → HoldsLeast t' i
      pick (yes e) =
          subst (λ (x : ℕ). HoldsLeast t' x) (sym e)
          (at_place ∙ right (omega arith) ∙ sym (least_elsewhere (16 + 16 * j) (inl (let z : j < 16 + 16 * j = omega arith in z))))
      pick (no n) = elsewhere i n ∙ ok i l n ∙ sym (least_elsewhere (16 + 16 * i) (beside (dec_lt j (16 + 16 * i))))

-- the leaf of state a, the node above it and the node above that, written one after the other
module _ (t t₁ t₂ t₃ : List ℕ) (a x j p q y z : ℕ) (size : length t ≡ 4368) (la : a < 4096) (ok : Tree t)
    (hj : j ≡ 272 + a) (hp : p ≡ 16 + a / 16) (hq : q ≡ a / 256) (e₁ : t₁ ≡ set t j x) (e₂ : t₂ ≡ set t₁ p y) (e₃ : t₃ ≡ set t₂ q z) where
  w₁ : Written t t₁ j x
  w₁ = record { size = size; inside = omega arith; is = e₁ }

  w₂ : Written t₁ t₂ p y
  w₂ = record { size = size_after w₁; inside = omega arith; is = e₂ }

  w₃ : Written t₂ t₃ q z
  w₃ = record { size = size_after w₂; inside = omega arith; is = e₃ }

  -- each node set to the least of its children
  pub mended : y ≡ lowest t₁ (16 + 16 * p) 16 → z ≡ lowest t₂ (16 + 16 * q) 16 → Leafed a x t t₃
  unfolding But
  mended hy hz =
      let b₁ : But p t₁ = λ i l d. written_right w₁ (λ i l d. ok i l) (λ l. absurd (omega arith)) i l (λ _ e. d (omega arith)) in
      let b₂ : But q t₂ = λ i l d. written_right w₂ b₁ (λ l. hy) i l (λ _ e. d (omega arith)) in
      let at_leaf : get_or t₃ j 0 ≡ leaf t₃ a = ap (λ (k : ℕ). get_or t₃ k 0) hj in
      record {
        size = size_after w₃ ∙ sym size;
        tree = λ i l. written_right w₃ b₂ (λ l. hz) i l (λ h. absurd (omega arith));
        here = sym at_leaf ∙ elsewhere w₃ j (omega arith) ∙ elsewhere w₂ j (omega arith) ∙ at_place w₁;
        others = λ b d.
            elsewhere w₃ (272 + b) (omega arith) ∙ elsewhere w₂ (272 + b) (omega arith) ∙ elsewhere w₁ (272 + b) (λ e. d (omega arith));
      }

  -- each node lowered to a key that is at most the one before
  pub lowered : x ≤ leaf t a → y ≡ min (get_or t₁ p 0) x → z ≡ min (get_or t₂ q 0) x → Leafed a x t t₃
  lowered lx hy hz =
      let at_leaf : get_or t j 0 ≡ leaf t a = ap (λ (k : ℕ). get_or t k 0) hj in
      let l₁ : lowest t₁ (16 + 16 * p) 16 ≡ min (lowest t (16 + 16 * p) 16) x = least_lowered w₁ (16 + 16 * p) (omega arith) (omega arith) (omega arith) in
      let p₁ : get_or t₁ p 0 ≡ get_or t p 0 = elsewhere w₁ p (omega arith) in
      let p₀ : get_or t p 0 ≡ lowest t (16 + 16 * p) 16 = ok p (omega arith) in
      let l₂ : lowest t₂ (16 + 16 * q) 16 ≡ min (lowest t₁ (16 + 16 * q) 16) y = least_lowered w₂ (16 + 16 * q) (omega arith) (omega arith) (omega arith) in
      let m₁ : lowest t₁ (16 + 16 * q) 16 ≡ lowest t (16 + 16 * q) 16 = least_elsewhere w₁ (16 + 16 * q) (inr (let h : 16 + 16 * q + 16 ≤ j = omega arith in h)) in
      let q₂ : get_or t₂ q 0 ≡ get_or t q 0 = elsewhere w₂ q (omega arith) ∙ elsewhere w₁ q (omega arith) in
      let q₀ : get_or t q 0 ≡ lowest t (16 + 16 * q) 16 = ok q (omega arith) in
      let r : lowest t (16 + 16 * q) 16 ≤ get_or t p 0 = lowest_le t (16 + 16 * q) 16 p (omega arith) (omega arith) in
      mended (omega arith) (omega arith)

-- the least at the top is at most the key of every state
pub root_below : (t : List ℕ) → Tree t → (a : ℕ) → a < 4096 → lowest t 0 16 ≤ leaf t a
root_below t ok a l =
    let q = a / 256 in
    let p = 16 + a / 16 in
    omega (
      arith,
      lowest_le t 0 16 q (omega arith) (omega arith),
      ok q (omega arith),
      lowest_le t (16 + 16 * q) 16 p (omega arith) (omega arith),
      ok p (omega arith),
      lowest_le t (16 + 16 * p) 16 (272 + a) (omega arith) (omega arith),
    )

-- if it is below NOKEY, it is the key of a state
pub root_leaf : (t : List ℕ) → Tree t → lowest t 0 16 < NOKEY → (a : ℕ) × (a < 4096) × (leaf t a ≡ lowest t 0 16)
unfolding At
root_leaf t ok l = top (lowest_at t 0 16 l)
  where
    down : (i x : ℕ) → i < 272 → x < NOKEY → get_or t i 0 ≡ x → At t (16 + 16 * i) 16 x
    down i x li lx e =
        let k : lowest t (16 + 16 * i) 16 ≡ x = sym (ok i li) ∙ e in
        subst (λ (y : ℕ). At t (16 + 16 * i) 16 y) k (lowest_at t (16 + 16 * i) 16 (omega arith))

    leafy : (j : ℕ) → 272 ≤ j → j < 4368 → get_or t j 0 ≡ lowest t 0 16 → (a : ℕ) × (a < 4096) × (leaf t a ≡ lowest t 0 16)
    leafy j lo hi e = (j - 272, omega arith, ap (λ (k : ℕ). get_or t k 0) (let h : 272 + (j - 272) ≡ j = omega arith in h) ∙ e)

    middle : (q : ℕ) → q < 16 → At t (16 + 16 * q) 16 (lowest t 0 16) → (a : ℕ) × (a < 4096) × (leaf t a ≡ lowest t 0 16)
    middle q lq (p, lo, hi, e) = let r = down p (lowest t 0 16) (omega arith) l e in leafy r.0 (omega (arith, r.1)) (omega (arith, r.2)) r.3

    top : At t 0 16 (lowest t 0 16) → (a : ℕ) × (a < 4096) × (leaf t a ≡ lowest t 0 16)
    top (q, lo, hi, e) = middle q (omega arith) (down q (lowest t 0 16) (omega arith) l e)

-- ---- where nobody waits

-- where all keys are none, so is the least
pub lowest_none : (t : List ℕ) (at k : ℕ) → ((i : ℕ) → i < at + k → get_or t i 0 ≡ NOKEY) → lowest t at k ≡ NOKEY
unfolding lowest
lowest_none t at zero h = refl
lowest_none t at (suc k) h = omega (arith, lowest_none t at k (λ i l. h i (omega arith)), h (at + k) (omega arith))

pub key_none : (i : ℕ) → i < 4368 → get_or (replicate 4368 NOKEY) i 0 ≡ NOKEY
key_none i l = get_or-replicate 4368 i NOKEY 0 l

pub tree_none : Tree (replicate 4368 NOKEY)
tree_none i l = key_none i (omega arith) ∙ sym (lowest_none (replicate 4368 NOKEY) (16 + 16 * i) 16 (λ j m. key_none j (omega arith)))
