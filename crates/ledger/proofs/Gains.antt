-- Laws of the columns: what a step adds is small, the columns grow by it, and those of the cost together grow by the cost. Assumes nothing.
use Prim.Native.Nat.{ℕ, zero, suc, ◌+◌, ◌≤◌, ◌<◌}
use mathlib.Core.Path.{◌≡◌, refl, ap, ap₂, sym, ◌∙◌}
use mathlib.Core.List.{List}
use native.Mathlib.Omega.{arith}
use lib.ListN.{length, get_or, set, replicate, length-replicate, get_or-replicate, get_or-eq_default}
use lib.Seq.{set-get_or}
use Rattle.meaning.specs.Limits.{most_steps}
use Rattle.meaning.specs.Split.{Task}
use Rattle.meaning.proofs.Facts.{by_order}
use Rattle.meaning.proofs.Columns.{gain_unused, gain_rest, gain_stored}
use Rattle.tables.specs.Steps.{overwritten}
use Rattle.tables.proofs.Laws.{filled_next, filled_still, filled_later, filled_at, length_filled}
use Rattle.ledger.specs.Ledger.{all_columns, booked_at, booked, at_start}
use Rattle.meaning.specs.Columns.{unshared, stored_tests, rest, gain}
use Rattle.ledger.specs.Inside.Bounded.{Bounded, HasRoom}

pub zeros_at : (n v : ℕ) → ◌≡◌ {A = ℕ} (get_or (replicate n 0) v 0) 0
zeros_at n v =
    by_order v n (get_or-replicate {A = ℕ} n v 0 0)
    (λ g. get_or-eq_default (replicate n 0) 0 (omega (arith, length-replicate {A = ℕ} n 0)))

-- from k on nothing changes
overwritten_still : (f : ℕ → ℕ) (l : List ℕ) (k n : ℕ) → k ≤ n → ((c : ℕ) → k ≤ c → c < n → f c ≡ get_or l c 0)
    → overwritten f l n ≡ overwritten f l k
unfolding overwritten
overwritten_still f l k zero h z =
    let q : 0 ≡ k = omega arith in
    ap (overwritten f l) q
overwritten_still f l k (suc n) h z =
    by_order n k
    (λ g.
    let q : suc n ≡ k = omega arith in
    ap (overwritten f l) q)
    (λ g.
    ap (set (overwritten f l n) n) (z n g (omega arith) ∙ sym (filled_still f l (overwritten f l n) n refl))
    ∙ set-get_or (overwritten f l n) n 0
    ∙ overwritten_still f l k n g (λ c a b. z c a (omega arith)))

module _ (T : Task) where
  -- ---- the columns after a step

  pub booked_length : (columns : List ℕ) (o : ℕ) → length (booked T columns o) ≡ length columns
  unfolding booked
  booked_length columns o = length_filled (booked_at T columns o) columns all_columns

  -- THE LAW OF A COLUMN, any column: a step adds its gain
  pub booked_at_lem : (columns : List ℕ) (o c : ℕ) → length columns ≡ all_columns → c < all_columns
      → get_or (booked T columns o) c 0 ≡ get_or columns c 0 + gain T c o
  unfolding booked
  booked_at_lem columns o c l h = filled_at (booked_at T columns o) columns all_columns c h (omega arith)

  -- the columns place by place: a turn at a column; those of no map passed by and the unshared one; and the end, the stored tests
  pub booked_turn : (columns t : List ℕ) (o c x : ℕ) → t ≡ overwritten (booked_at T columns o) columns c → x ≡ gain T c o
      → set t c (get_or t c 0 + x) ≡ overwritten (booked_at T columns o) columns (c + 1)
  booked_turn columns t o c x p q =
      filled_next (booked_at T columns o) columns t c (get_or t c 0 + x) p
      (ap₂ ◌+◌ (filled_still (booked_at T columns o) columns t c p) q)

  pub booked_rest : (columns t : List ℕ) (o x : ℕ) → T.maps ≤ unshared → t ≡ overwritten (booked_at T columns o) columns T.maps
      → x ≡ rest T o
      → set t unshared (get_or t unshared 0 + x) ≡ overwritten (booked_at T columns o) columns stored_tests
  booked_rest columns t o x h p q =
      booked_turn columns t o unshared x
      (p
      ∙ sym
      (overwritten_still (booked_at T columns o) columns T.maps unshared h
      (λ c a b. omega (arith, gain_unused T c o a b))))
      (q ∙ sym (gain_rest T unshared o h refl))

  pub booked_end : (columns t : List ℕ) (o x : ℕ) → T.maps ≤ unshared → t ≡ overwritten (booked_at T columns o) columns stored_tests
      → x ≡ T.mark o
      → set t stored_tests (get_or t stored_tests 0 + x) ≡ booked T columns o
  unfolding booked
  booked_end columns t o x h p q = booked_turn columns t o stored_tests x p (q ∙ sym (gain_stored T stored_tests o (omega arith) refl))

  -- a column that isn't reached yet
  pub column_still : (columns t : List ℕ) (o m c : ℕ) → m ≤ c → t ≡ overwritten (booked_at T columns o) columns m → get_or t c 0 ≡ get_or columns c 0
  column_still columns t o m c h p = ap (λ (l : List ℕ). get_or l c 0) p ∙ filled_later (booked_at T columns o) columns m c h

  -- never more than that, whatever the list
  pub booked_most : (columns : List ℕ) (o c : ℕ) → c < all_columns → get_or (booked T columns o) c 0 ≤ get_or columns c 0 + gain T c o
  unfolding booked
  booked_most columns o c h =
      by_order c (length columns) (λ l. omega (arith, filled_at (booked_at T columns o) columns all_columns c h l))
      (λ g.
      let l : length (booked T columns o) ≤ c = omega (arith, booked_length columns o) in
      omega (arith, get_or-eq_default (booked T columns o) 0 l))

-- ---- no column has more than the steps can have paid

pub start_bounded : (s : List ℕ) → Bounded 0 (at_start s).columns
unfolding at_start
start_bounded s c h = omega (arith, zeros_at all_columns c)

-- columns with room in the log have room for a gain
pub column_room : (steps : ℕ) (columns : List ℕ) → steps < most_steps → Bounded steps columns → HasRoom columns
unfolding most_steps
column_room steps columns l b c h = omega (arith, b c h)
