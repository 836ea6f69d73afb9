-- What an operator adds to the columns is small, and those of the cost together grow by its cost; with the sums that this wants. Assumes nothing.
use Prim.Native.Nat.{ℕ, zero, suc, ◌+◌, ◌-◌, ◌≤◌, ◌<◌}
use mathlib.Core.Path.{◌≡◌, refl, ap, ◌∙◌}
use native.Mathlib.Numerals.{add-one}
use native.Mathlib.Omega.{arith}
use lib.Dec.{eqb}
use borrow.Author.Tests.{lt-ltb, le-ltb, eq-eqb, ne_eqb, eqb-true}
use Rattle.meaning.specs.Limits.{most_cost}
use Rattle.meaning.specs.Split.{Task, Valid, sum}
use Rattle.meaning.specs.Columns.{unshared, cost_columns, stored_tests, rest, gain}
use Rattle.meaning.proofs.Facts.{by_cases, by_order}

-- ---- sums, as a counting loop asks for them

pub sum_more : (f : ℕ → ℕ) (k x y : ℕ) → x ≡ sum f k → y ≡ f k → x + y ≡ sum f (k + 1)
sum_more f k x y p q = rw (add-one, p, q) refl

pub sum_end : (f : ℕ → ℕ) (n k x : ℕ) → x ≡ sum f k → k ≤ n → n ≤ k → x ≡ sum f n
sum_end f n k x p h g =
    let q : k ≡ n = omega arith in
    p ∙ ap (sum f) q

-- a part of a sum is no more than the whole
pub sum_part : (f : ℕ → ℕ) (n k : ℕ) → k < n → sum f k + f k ≤ sum f n
sum_part f zero k h = omega arith
sum_part f (suc n) k h =
    by_order k n (λ l. omega (arith, sum_part f n k l))
    (λ g.
    let q : k ≡ n = omega arith in
    rw q (omega arith))

pub sum_same : (f g : ℕ → ℕ) (k : ℕ) → ((c : ℕ) → c < k → f c ≡ g c) → sum f k ≡ sum g k
sum_same f g zero h = refl
sum_same f g (suc k) h = omega (arith, sum_same f g k (λ c l. h c (omega arith)), h k (omega arith))

-- from k on nothing is added
sum_still : (f : ℕ → ℕ) (k n : ℕ) → k ≤ n → ((c : ℕ) → k ≤ c → c < n → f c ≡ 0) → sum f n ≡ sum f k
sum_still f k zero h z =
    let q : 0 ≡ k = omega arith in
    ap (sum f) q
sum_still f k (suc n) h z =
    by_order n k
    (λ l.
    let q : suc n ≡ k = omega arith in
    ap (sum f) q)
    (λ g. omega (arith, sum_still f k n g (λ c a b. z c a (omega arith)), z n g (omega arith)))

-- ---- what a step adds

module _ (T : Task) where
  pub gain_map : (c o : ℕ) → c < T.maps → gain T c o ≡ T.share c o
  unfolding gain
  gain_map c o h = rw (lt-ltb c T.maps h) refl

  pub gain_rest : (c o : ℕ) → T.maps ≤ c → c ≡ unshared → gain T c o ≡ rest T o
  unfolding gain
  gain_rest c o h e = rw (le-ltb c T.maps h, eq-eqb c unshared e) refl

  pub gain_unused : (c o : ℕ) → T.maps ≤ c → c < unshared → gain T c o ≡ 0
  unfolding gain
  gain_unused c o h l =
      let n : c ≡ unshared → ⊥ = λ e. omega arith in
      let m : c ≡ stored_tests → ⊥ = λ e. omega arith in
      rw (le-ltb c T.maps h, ne_eqb c unshared n, ne_eqb c stored_tests m) refl

  -- a count is no payment: to the stored tests a step adds its mark, and nothing of its cost
  pub gain_stored : (c o : ℕ) → T.maps ≤ c → c ≡ stored_tests → gain T c o ≡ T.mark o
  unfolding gain
  gain_stored c o h e =
      let n : c ≡ unshared → ⊥ = λ d. omega arith in
      rw (le-ltb c T.maps h, ne_eqb c unshared n, eq-eqb c stored_tests e) refl

  pub rest_is : (o x y : ℕ) → x ≡ T.sas.cost o → y ≡ sum (λ m. T.share m o) T.maps → x - y ≡ rest T o
  unfolding rest
  rest_is o x y p q = rw (p, q) refl

  module _ (valid : Valid T) (o : ℕ) (exists : o < T.sas.ops) where
    rest_small : rest T o ≤ most_cost
    unfolding rest
    rest_small = omega (arith, valid.costs o exists)

    pub shares_fit : (m : ℕ) → m < T.maps → sum (λ m. T.share m o) m + T.share m o ≤ T.sas.cost o
    shares_fit m h = omega (arith, sum_part (λ m. T.share m o) T.maps m h, valid.split o exists)

    pub gain_small : (c : ℕ) → gain T c o ≤ most_cost
    unfolding gain
    gain_small c =
        by_order c T.maps (λ l. omega (arith, gain_map c o l, valid.shares c o l exists))
        (λ g.
        by_cases (eqb c unshared) (λ d. omega (arith, gain_rest c o g (eqb-true c unshared d), rest_small))
        (λ d.
        by_cases (eqb c stored_tests) (λ e. omega (arith, gain_stored c o g (eqb-true c stored_tests e), valid.marks o exists))
        (λ e. rw (le-ltb c T.maps g, d, e) (omega arith))))

    -- the columns of the cost together grow by the cost: the maps' by the shares, those of no map by nothing, the unshared one by the rest
    pub gain_all : sum (λ c. gain T c o) cost_columns ≡ T.sas.cost o
    unfolding rest
    gain_all =
        omega (
          arith,
          sum_still (λ c. gain T c o) T.maps unshared valid.maps.1 (λ c a b. gain_unused c o a b),
          sum_same (λ c. gain T c o) (λ m. T.share m o) T.maps (λ m l. gain_map m o l),
          gain_rest unshared o valid.maps.1 refl,
          valid.split o exists,
        )
