-- The laws of a mask, for any width and any test: its width by leading zeros is its largest class and one, its count of ones is how many classes
-- it has, and the two are equal exactly if none below the largest is missing. Assumes nothing.
use mathlib.Core.Path.{◌≡◌, refl, sym, ap, ◌∙◌}
use mathlib.Core.Bool.{Bool, true, false, ◌&&◌, ◌||◌, or-true, or-false, and-true, and-false}
use mathlib.Core.Logic.{◌⊎◌, inl, inr}
use Prim.Native.Nat.{ℕ, zero, suc, ◌+◌, ◌-◌, ◌*◌, ◌%◌, ◌^◌, ◌≤◌, ◌<◌, max, zero-le}
use native.Mathlib.Nat.{pow-suc, zero-add, zero-mul, one-mul, add-zero, eq-or-lt_of_le, le_of_suc-le-suc, le_refl, lt_irrefl, sub-add_cancel, le_trans}
use native.Mathlib.Numerals.{one-add, add-one}
use native.Mathlib.Omega.{arith}
use borrow.Author.Tests.{eq-eqb, ne_eqb}
use lib.Dec.{eqb, eqb-suc-suc, lit<}
use lib.Pow.{pow_pos, pow-lt, shl_exact}
use lib.Bits.{bit_or, or_block, or_zero_r}
use lib.Count.{ones, ones_in, count_leading_zeros, ones_cat, leading_unique}
use Rattle.meaning.specs.Views.{every}
use Rattle.meaning.specs.Split.{count_of}
use Rattle.tables.specs.Classes.{some_has, none_missing}
use Rattle.tables.specs.Inside.Masks.{mask_of}

-- ---- the number whose bit c is set exactly if f c, for each c below n

abbrev pub bit : Bool → ℕ
bit true = 1
bit false = 0

unfoldable pub bits : ℕ → (ℕ → Bool) → ℕ
bits zero f = 0
bits (suc n) f = bit (f n) * 2 ^ n + bits n f

-- one more than the largest c below n with f c; 0 where there is none
abbrev pub top_if : Bool → ℕ → ℕ → ℕ
top_if true n t = suc n
top_if false n t = t

unfoldable pub top : ℕ → (ℕ → Bool) → ℕ
top zero f = 0
top (suc n) f = top_if (f n) n (top n f)

above : (b : Bool) (p r : ℕ) → r < p → bit b * p + r < p * 2
above true p r h = omega arith
above false p r h = omega arith

ones_bit : (b : Bool) → ones (bit b) ≡ bit b
unfolding ones ones_in
ones_bit true = refl
ones_bit false = refl

module _ (f : ℕ → Bool) where
  bits_lt : (n : ℕ) → bits n f < 2 ^ n
  unfolding bits
  bits_lt zero = lit< tt
  bits_lt (suc n) = rw pow-suc (above (f n) (2 ^ n) (bits n f) (bits_lt n))

  -- how many c below n have f c
  unfoldable many : ℕ → ℕ
  many zero = 0
  many (suc n) = bit (f n) + many n

  ones_bits : (n : ℕ) → ones (bits n f) ≡ many n
  unfolding bits ones ones_in many
  ones_bits zero = refl
  ones_bits (suc n) = ones_cat n (bit (f n)) (bits n f) (bits_lt n) ∙ simp (ones_bit (f n), ones_bits n)

  top_le : (n : ℕ) → top n f ≤ n
  unfolding top
  top_le zero = zero-le
  top_le (suc n) = go (f n) (top_le n)
    where
      go : (b : Bool) → top n f ≤ n → top_if b n (top n f) ≤ suc n
      go true h = le_refl (suc n)
      go false h = omega arith

  -- 2 ^ top is the least power of two above the bits
  bits_top : (n : ℕ) → (bits n f < 2 ^ top n f) × (2 ^ top n f ≤ 2 * bits n f + 1)
  unfolding bits top
  bits_top zero = (lit< tt, le_refl 1)
  bits_top (suc n) = go (f n) (bits_top n)
    where
      go : (b : Bool) → (bits n f < 2 ^ top n f) × (2 ^ top n f ≤ 2 * bits n f + 1)
          → (bit b * 2 ^ n + bits n f < 2 ^ top_if b n (top n f)) × (2 ^ top_if b n (top n f) ≤ 2 * (bit b * 2 ^ n + bits n f) + 1)
      go true g = let h = bits_lt n in let e = pow-suc 2 n in (omega arith, omega arith)
      go false g = (omega arith, omega arith)

  -- at any width k: the width is the top
  pub width_top : (k n : ℕ) → n ≤ k → k - count_leading_zeros k (bits n f) ≡ top n f
  width_top k n h =
      let t : top n f ≤ k = le_trans (top_le n) h in
      let m = bits_top n in
      let u : k - top n f ≡ count_leading_zeros k (bits n f) = leading_unique k (bits n f) (k - top n f) (top n f) (sub-add_cancel t) m.0 m.1 in
      omega arith

  many_top : (n : ℕ) → many n ≡ many (top n f)
  unfolding many top
  many_top zero = refl
  many_top (suc n) = go (f n) refl (many_top n)
    where
      go : (b : Bool) → f n ≡ b → many n ≡ many (top n f) → bit (f n) + many n ≡ many (top_if b n (top n f))
      go true e h = refl
      go false e h = rw e (zero-add (many n) ∙ h)

  many_le : (n : ℕ) → many n ≤ n
  unfolding many
  many_le zero = zero-le
  many_le (suc n) = go (f n) (many_le n)
    where
      go : (b : Bool) → many n ≤ n → bit b + many n ≤ suc n
      go true h = omega arith
      go false h = omega arith

  -- all are there exactly if there are as many as there can be
  full : (n : ℕ) → eqb n (many n) ≡ every f n
  unfolding many
  full zero = refl
  full (suc n) = go (f n) (full n)
    where
      go : (b : Bool) → eqb n (many n) ≡ every f n → eqb (suc n) (bit b + many n) ≡ (every f n && b)
      go true g = rw (one-add (many n)) (eqb-suc-suc n (many n) ∙ g ∙ sym (and-true (every f n)))
      go false g = ne_eqb (suc n) (0 + many n) (λ e. let h = many_le n in omega arith) ∙ sym (and-false (every f n))

  -- THE LAW: at any width k, and tests below any n up to k
  pub width_is_count : (k n : ℕ) → n ≤ k → eqb (k - count_leading_zeros k (bits n f)) (ones (bits n f)) ≡ every f (top n f)
  width_is_count k n h = rw (width_top k n h, ones_bits n, many_top n) (full (top n f))

-- ---- one class more

pub bits_same : (f g : ℕ → Bool) (n : ℕ) → ((d : ℕ) → d < n → f d ≡ g d) → bits n f ≡ bits n g
unfolding bits
bits_same f g zero e = refl
bits_same f g (suc n) e = simp (e n (le_refl (suc n)), bits_same f g n (λ d h. e d (omega arith)))

with_one : (b : Bool) → bit_or (bit b) 1 ≡ 1
with_one true = refl
with_one false = refl

pub or_bits : (f : ℕ → Bool) (n c : ℕ) → c < n → bit_or (bits n f) (2 ^ c) ≡ bits n (λ d. f d || eqb c d)
unfolding bits
or_bits f zero c h = absurd (lt_irrefl 0 (omega arith))
or_bits f (suc n) c h = go (or_bits f n c) (eq-or-lt_of_le (le_of_suc-le-suc h))
  where
    go : (c < n → bit_or (bits n f) (2 ^ c) ≡ bits n (λ d. f d || eqb c d)) → (c ≡ n) ⊎ (c < n)
        → bit_or (bit (f n) * 2 ^ n + bits n f) (2 ^ c) ≡ bit (f n || eqb c n) * 2 ^ n + bits n (λ d. f d || eqb c d)
    go ih (inl e) =
        let same : bits n f ≡ bits n (λ d. f d || eqb n d) = bits_same f (λ d. f d || eqb n d) n (λ d l. rw (ne_eqb n d (λ q. lt_irrefl n (omega arith))) (sym (or-false (f d)))) in
        rw (e, eq-eqb n n refl, or-true (f n), ← same)
        (ap (bit_or (bit (f n) * 2 ^ n + bits n f)) (sym (add-zero (1 * 2 ^ n) ∙ one-mul (2 ^ n)))
        ∙ or_block n (bit (f n)) 1 (bits n f) 0 (bits_lt f n) (pow_pos n) ∙ simp (with_one (f n), or_zero_r))
    go ih (inr l) =
        rw (ne_eqb c n (λ q. lt_irrefl n (omega arith)), or-false (f n))
        (ap (bit_or (bit (f n) * 2 ^ n + bits n f)) (sym (ap (λ (x : ℕ). x + 2 ^ c) (zero-mul (2 ^ n)) ∙ zero-add (2 ^ c)))
        ∙ or_block n (bit (f n)) 0 (bits n f) (2 ^ c) (bits_lt f n) (pow-lt l) ∙ simp (or_zero_r, ih l))

top_same : (f g : ℕ → Bool) (n : ℕ) → ((d : ℕ) → d < n → f d ≡ g d) → top n f ≡ top n g
unfolding top
top_same f g zero e = refl
top_same f g (suc n) e = simp (e n (le_refl (suc n)), top_same f g n (λ d h. e d (omega arith)))

or_top : (f : ℕ → Bool) (n c : ℕ) → c < n → top n (λ d. f d || eqb c d) ≡ max (top n f) (suc c)
unfolding top
or_top f zero c h = absurd (lt_irrefl 0 (omega arith))
or_top f (suc n) c h = go (f n) (or_top f n c) (eq-or-lt_of_le (le_of_suc-le-suc h))
  where
    go : (b : Bool) → (c < n → top n (λ d. f d || eqb c d) ≡ max (top n f) (suc c)) → (c ≡ n) ⊎ (c < n)
        → top_if (b || eqb c n) n (top n (λ d. f d || eqb c d)) ≡ max (top_if b n (top n f)) (suc c)
    go true ih w = omega arith
    go false ih (inl e) = rw (eq-eqb c n e) (omega (arith, top_le f n))
    go false ih (inr l) = rw (ne_eqb c n (λ q. lt_irrefl n (omega arith))) (ih l)

pub bits_none : (n : ℕ) → bits n (λ c. false) ≡ 0
unfolding bits
bits_none zero = refl
bits_none (suc n) = rw (bits_none n) (add-zero (0 * 2 ^ n) ∙ zero-mul (2 ^ n))

top_none : (n : ℕ) → top n (λ c. false) ≡ 0
unfolding top
top_none zero = refl
top_none (suc n) = top_none n

-- a shift of 1 by a class, at any width w
pub one_shl : (w k : ℕ) → k < w → 1 * 2 ^ k % 2 ^ w ≡ 2 ^ k
one_shl w k h = shl_exact 1 k w (lit< tt) (omega arith) ∙ one-mul (2 ^ k)

-- ---- the mask of a row of classes

module _ (class : ℕ → ℕ) where
  mask_bits : (n d : ℕ) → ((x : ℕ) → x < d → class x < n) → mask_of class d ≡ bits n (some_has class d)
  mask_bits n zero h = sym (bits_none n)
  mask_bits n (suc d) h = rw (mask_bits n d (λ x l. h x (omega arith))) (or_bits (some_has class d) n (class d) (h d (le_refl (suc d))))

  top_count : (n d : ℕ) → ((x : ℕ) → x < d → class x < n) → top n (some_has class d) ≡ count_of class d
  top_count n zero h = top_none n
  top_count n (suc d) h =
      or_top (some_has class d) n (class d) (h d (le_refl (suc d)))
      ∙ ap (λ (t : ℕ). max t (suc (class d))) (top_count n d (λ x l. h x (omega arith)))

  -- a turn of the loop that builds the mask, at any width w
  pub mask_turn : (w x : ℕ) {m k : ℕ} → m ≡ mask_of class x → k ≡ class x → k < w → bit_or m (1 * 2 ^ k % 2 ^ w) ≡ mask_of class (x + 1)
  mask_turn w x {m} {k} p q h = rw (one_shl w k h, add-one x, p, q)

  -- at any width k, for d values with classes below d: the width is their count, and it is the count of ones exactly if no class is missing
  module _ (k d : ℕ) (fits : d ≤ k) (below : (x : ℕ) → x < d → class x < d) where
    pub mask_width : k - count_leading_zeros k (mask_of class d) ≡ count_of class d
    mask_width = rw (mask_bits d d below) (width_top (some_has class d) k d fits ∙ top_count d d below)

    pub mask_whole : eqb (k - count_leading_zeros k (mask_of class d)) (ones (mask_of class d)) ≡ none_missing class d
    mask_whole =
        rw (mask_bits d d below)
        (width_is_count (some_has class d) k d fits ∙ ap (every (some_has class d)) (top_count d d below))
