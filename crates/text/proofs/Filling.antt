-- A lent table that is filled: what stands in each place, the loop that fills it, and the numbers of the area that it is filled with. Assumes nothing.
use Prim.Native.Nat.{ℕ, zero, suc, ◌<◌, ◌≤◌, ◌+◌, ◌*◌, ◌-◌}
use native.Mathlib.Nat.{le_of_suc-le-suc, eq-or-lt_of_le, not-suc-le-zero}
use native.Mathlib.Omega.{arith}
use native.Mathlib.Numerals.{add-one}
use mathlib.Core.Path.{◌≡◌, refl, sym, ap, ◌∙◌}
use mathlib.Core.Logic.{◌⊎◌, inl, inr}
use mathlib.Core.List.{List, ◌++◌}
use lib.ListN.{length, get_or, set, replicate, length-set, length-append, length-replicate, get_or-replicate, get_or-append, get_or-eq_default}
use lib.Seq.{ext_get_or, get_or-set_same, get_or-set_other, get_or-append-add}
use Rattle.grammar.specs.Fields.{filled}
use Rattle.text.specs.Inside.Area.{word_in, threes}
use Rattle.text.specs.Inside.End.{FilledTo}

-- past the numbers, a place of the zeros
zero_at : (n i : ℕ) → i < n → get_or {A = ℕ} (replicate n 0) i 0 ≡ 0
zero_at n i h = get_or-replicate n i 0 0 h

module _ (room : ℕ) (xs lent : List ℕ) (size : length xs ≡ room) where
  pub filled_length : room ≤ length lent → length (filled room xs lent) ≡ length lent
  unfolding filled
  filled_length h = length-append xs _ ∙ simp (length-replicate {A = ℕ} (length lent - room) 0) (omega arith)

  pub filled_at : (i : ℕ) → i < length lent → get_or (filled room xs lent) i 0 ≡ get_or xs i 0
  unfolding filled
  filled_at i h = go (lt_or_le i (length xs))
    where
      lt_or_le : (a b : ℕ) → (a < b) ⊎ (b ≤ a)
      lt_or_le a zero = inr (omega arith)
      lt_or_le zero (suc b) = inl (omega arith)
      lt_or_le (suc a) (suc b) = up (lt_or_le a b)
        where
          up : (a < b) ⊎ (b ≤ a) → (suc a < suc b) ⊎ (suc b ≤ suc a)
          up (inl p) = inl (omega arith)
          up (inr p) = inr (omega arith)

      go : (i < length xs) ⊎ (length xs ≤ i) → get_or (xs ++ replicate (length lent - room) 0) i 0 ≡ get_or xs i 0
      go (inl p) = get_or-append xs _ 0 i p
      go (inr p) =
          let e : i ≡ length xs + (i - length xs) = omega arith in
          ap (λ (n : ℕ). get_or (xs ++ replicate (length lent - room) 0) n 0) e
          ∙ get_or-append-add xs (replicate (length lent - room) 0) (i - length xs) 0
          ∙ zero_at (length lent - room) (i - length xs) (omega arith)
          ∙ sym (get_or-eq_default xs 0 p)

-- the loop that fills a table
pub filled_none : (xs lent : List ℕ) → FilledTo xs lent lent 0
filled_none xs lent = record { fits = omega arith; same = refl; holds = λ k h. let z : ⊥ = omega arith in absurd z }

-- one place more is filled
pub fill_turn : (xs lent out : List ℕ) (i v : ℕ) → FilledTo xs lent out i → i < length out → v ≡ get_or xs i 0 → FilledTo xs lent (set out i v) (i + 1)
fill_turn xs lent out i v done h e =
    record {
      fits = omega (arith, done.same, h);
      same = length-set out i v ∙ done.same;
      holds = λ k l. go k (eq-or-lt_of_le (le_of_suc-le-suc (rw add-one at l)));
    }
  where
    go : (k : ℕ) → (k ≡ i) ⊎ (k < i) → get_or (set out i v) k 0 ≡ get_or xs k 0
    go k (inl q) = rw q (get_or-set_same out i v 0 h ∙ e)
    go k (inr q) = get_or-set_other out i k v 0 (λ z. let f : ⊥ = omega arith in f) ∙ done.holds k q

pub filled_as_far : {xs lent out : List ℕ} {i j : ℕ} → FilledTo xs lent out i → i ≡ j → FilledTo xs lent out j
filled_as_far done e = rw (← e) done

-- all places are filled
pub fill_end : (room : ℕ) (xs lent out : List ℕ) (i : ℕ) → length xs ≡ room → room ≤ length lent → FilledTo xs lent out i → length lent ≤ i
    → out ≡ filled room xs lent
fill_end room xs lent out i size fits done all =
    ext_get_or 0 out (filled room xs lent) (done.same ∙ sym (filled_length room xs lent size fits))
    (λ k l. done.holds k (omega (arith, done.same, l, all)) ∙ sym (filled_at room xs lent size k (omega (arith, done.same, l))))

-- the numbers of 3 bytes
pub threes_length : (n at : ℕ) (w : List ℕ) → length (threes n at w) ≡ n
unfolding threes
threes_length zero at w = refl
threes_length (suc n) at w = ap suc (threes_length n (at + 3) w)

pub threes_at : (n at i : ℕ) (w : List ℕ) → i < n → get_or (threes n at w) i 0 ≡ word_in w (at + 3 * i)
unfolding threes
threes_at zero at i w h = absurd (not-suc-le-zero h)
threes_at (suc n) at zero w h = ap (word_in w) (omega arith)
threes_at (suc n) at (suc i) w h = threes_at n (at + 3) i w (le_of_suc-le-suc h) ∙ ap (word_in w) (omega arith)
