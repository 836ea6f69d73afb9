-- Laws of laying rows: one row lane by lane, a value's rows one after the other, a variable's values downwards, and all variables. Assumes nothing.
use mathlib.Core.Path.{◌≡◌, refl, sym, ap, ap₂, ◌∙◌, subst}
use mathlib.Core.Logic.{⊎_elim}
use mathlib.Core.List.{List, ◌++◌}
use Prim.Native.Nat.{ℕ, ◌+◌, ◌*◌, ◌-◌, ◌≤◌, ◌<◌}
use native.Mathlib.Nat.{eq-or-lt_of_le, mul-le-mul_right, zero-add}
use native.Mathlib.Numerals.{add-one}
use native.Mathlib.Omega.{arith}
use borrow.Rule.Slice.PartMut.{put_mid}
use lib.ListN.{length, get_or, replicate, length-replicate, get_or-replicate}
use Rattle.std.specs.List.{between}
use Rattle.std.proofs.lemmas.List.{get_or_append_left}
use Rattle.std.proofs.lemmas.List.Edits.{length-between, get_or-between}
use Rattle.meaning.specs.Limits.{most_vars}
use Rattle.meaning.specs.Numbering.{size, number, digit, Positive, Digits}
use Rattle.meaning.specs.Split.{sum}
use Rattle.meaning.proofs.Numbers.{number_below, number_digits, digit_below}
use Rattle.meaning.proofs.Facts.{by_order}
use Rattle.meaning.proofs.Sums.{sum_most}
use Rattle.maps.proofs.Slices.{written_size, written_here, written_below, written_beyond}
use Rattle.maps.specs.Inside.Rows.{lanes, lane_at, part_at, most_part, most_laid, Parts, RowLaid, ValueLaid, VariableLaid, Laid}

-- ---- a row

-- a row of the table, as it is lent
pub lane_lent : (t : List ℕ) (a o : ℕ) → o < lanes → get_or (between (a * lanes) (a * lanes + lanes) t) o 0 ≡ lane_at t a o
lane_lent t a o l = get_or-between t (a * lanes) (a * lanes + lanes) o 0 (omega arith)

-- row a is copied, its parts are added, and it is written as row b
pub row_laid : {a b : ℕ} {t part from sum to : List ℕ} → a * lanes + lanes ≤ length t → b * lanes + lanes ≤ length t
    → from ≡ between (a * lanes) (a * lanes + lanes) t → length sum ≡ length from
    → ((o : ℕ) → o < length from → get_or sum o 0 ≡ get_or from o 0 + get_or part o 0) → to ≡ sum
    → RowLaid a b part 0 t (put_mid (b * lanes) (b * lanes + lanes - b * lanes) t to)
row_laid {a} {b} {t} {part} {from} {sum} {to} ra rb copied size added same =
    let long : length from ≡ lanes = ap length copied ∙ length-between t (a * lanes) (a * lanes + lanes) ra ∙ omega arith in
    let whole : length to ≡ lanes = ap length same ∙ size ∙ long in
    record {
      size = written_size t to (b * lanes) lanes rb whole;
      row = λ o l.
          written_here t to (b * lanes) lanes rb whole o l ∙ ap (λ (r : List ℕ). get_or r o 0) same ∙ added o (omega (arith, long))
          ∙ ap₂ ◌+◌ (ap (λ (r : List ℕ). get_or r o 0) copied ∙ lane_lent t a o l) (ap (λ (i : ℕ). get_or part i 0) (sym (zero-add o)));
      others = λ x o d l.
          by_order x b (λ h. written_below t to (b * lanes) lanes rb whole (x * lanes + o) (omega (arith, mul-le-mul_right lanes h)))
          (λ h. let n : b + 1 ≤ x = omega arith in written_beyond t to (b * lanes) lanes rb whole (x * lanes + o) (omega (arith, mul-le-mul_right lanes n)));
    }

-- where it is filled with 0, the first row is 0
pub row_cleared : {n : ℕ} {row : List ℕ} (rest : List ℕ) → n ≡ lanes → row ≡ replicate n 0 → (o : ℕ) → o < lanes → lane_at (row ++ rest) 0 o ≡ 0
row_cleared {n} {row} rest e is o l =
    let first : 0 * lanes + o ≡ o = omega arith in
    ap (λ (i : ℕ). get_or (row ++ rest) i 0) first
    ∙ get_or_append_left row rest 0 o (omega (arith, ap length is, length-replicate {A = ℕ} n 0))
    ∙ ap (λ (r : List ℕ). get_or r o 0) is
    ∙ get_or-replicate {A = ℕ} n o 0 0 (omega arith)

-- ---- the rows of a variable

-- a value's parts, as they are lent, are those of the table
pub value_at : {len base : ℕ} {parts : List ℕ} {at k : ℕ} {t t' : List ℕ} → ValueLaid len base (between at (at + lanes) parts) 0 k t t'
    → ValueLaid len base parts at k t t'
value_at {len} {base} {parts} {at} {k} {t} s =
    record {
      size = s.size;
      rows = λ i o h l.
          s.rows i o h l
          ∙ ap (λ (x : ℕ). lane_at t i o + x)
          (ap (λ (j : ℕ). get_or (between at (at + lanes) parts) j 0) (zero-add o) ∙ get_or-between parts at (at + lanes) o 0 (omega arith));
      below = s.below;
      beyond = s.beyond;
    }

module _ {len n : ℕ} {parts : List ℕ} {v : ℕ} {t₀ : List ℕ} where
  module _ {z : ℕ} {t : List ℕ} (s : VariableLaid len n parts v z t₀ t) where
    -- the first rows are as they were
    pub first_kept : 1 ≤ z → (i o : ℕ) → i < len → o < lanes → lane_at t i o ≡ lane_at t₀ i o
    first_kept p i o l h = s.below i o (omega (arith, mul-le-mul_right len p)) h

    pub variable_more : {x base : ℕ} {t' : List ℕ} → z ≡ x + 1 → base ≡ x * len → ValueLaid len base parts ((v * 8 + x) * lanes) len t t'
        → VariableLaid len n parts v x t₀ t'
    variable_more {x} {base} {t'} e b r =
        let more : x * len + len ≤ z * len = omega (arith, mul-le-mul_right len (let q : x + 1 ≤ z = omega arith in q)) in
        record {
          size = r.size ∙ s.size;
          rows = λ y i o g ly li h. ⊎_elim
              (λ d. subst (λ (y : ℕ). lane_at t' (i + y * len) o ≡ lane_at t₀ i o + part_at parts v y o) d
              (let q : i + x * len ≡ base + i = omega arith in
              ap (λ (a : ℕ). lane_at t' a o) q ∙ r.rows i o li h ∙ ap (λ (w : ℕ). w + part_at parts v x o) (first_kept (omega arith) i o li h)))
              (λ lt. r.beyond (i + y * len) o (omega (arith, mul-le-mul_right len lt)) h ∙ s.rows y i o (omega arith) ly li h)
              (eq-or-lt_of_le g);
          below = λ a o l h. r.below a o (omega arith) h ∙ s.below a o (omega arith) h;
        }

-- ---- the rows of all variables

module _ (K : ℕ → ℕ) (parts : List ℕ) (v : ℕ) (t : List ℕ) (s : Laid K parts v t) where
  -- the first v digits give one of the rows so far, and the next digit is the value
  pub laid_more : {len n : ℕ} {t' : List ℕ} → len ≡ size K v → n ≡ K v → VariableLaid len n parts v 0 t t' → Laid K parts (v + 1) t'
  laid_more {len} {n} {t'} e f r D d o l =
      let b : Digits K D v = λ u g. d u (omega arith) in
      let q : number K D (v + 1) ≡ number K D v + D v * len = rw (add-one, e) refl in
      ap (λ (a : ℕ). lane_at t' a o) q
      ∙ r.rows (D v) (number K D v) o (omega arith) (omega (arith, d v (omega arith))) (omega (arith, number_below K D v b)) l
      ∙ ap (λ (x : ℕ). x + part_at parts v (D v) o) (s D b o l)
      ∙ rw add-one refl

  -- a part more still fits
  pub laid_fits : Parts parts → v < most_vars → Positive K v → (i o : ℕ) → i < size K v → o < lanes → lane_at t i o + most_part ≤ most_laid
  laid_fits P few p i o li l =
      let D = digit K i in
      let e : lane_at t (number K D v) o ≡ sum (λ u. part_at parts u (D u) o) v = s D (digit_below K i v p) o l in
      let q : lane_at t i o ≡ lane_at t (number K D v) o = ap (λ (a : ℕ). lane_at t a o) (sym (number_digits K i v p li)) in
      omega (arith, sum_most (λ u. part_at parts u (D u) o) most_part v (λ u g. P.small ((u * 8 + D u) * lanes + o)))
