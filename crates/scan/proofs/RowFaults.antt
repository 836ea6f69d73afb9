-- The fault of a class row, as the scan tells it, from what the mask of the row says. Assumes nothing.
use Prim.Native.Nat.{ℕ, zero, suc, ◌+◌, ◌*◌, ◌^◌, ◌≤◌, ◌<◌, zero-le}
use native.Mathlib.Nat.{pow-suc, mul-le-mul, pow-le-pow_right, le_trans}
use native.Mathlib.Numerals.{add-one}
use mathlib.Core.Path.{◌≡◌, refl, sym, ap, ap₂, ◌∙◌}
use mathlib.Core.Bool.{Bool, true, false}
use mathlib.Core.List.{List}
use native.Mathlib.Omega.{arith}
use lib.Dec.{ltb, lit<}
use Rattle.std.specs.Prelude.{Result, Ok, Err}
use Rattle.scan.specs.Found.{Found, clean}
use Rattle.refusals.specs.declared.Refusal.TheVariants.{OutOfRange, ClassMissing}
use Rattle.meaning.specs.Split.{count_of}
use Rattle.tables.proofs.ClassRows.{all_below_lem}
use Rattle.tables.specs.declared.classes.ClassFault.{ClassFault}
use Rattle.tables.specs.declared.classes.ClassFault.TheVariants.{Missing, Outside}
use Rattle.tables.specs.Layout.{row_at}
use Rattle.scan.specs.Scan.{unless, ◌then◌, each}
use Rattle.tables.specs.Classes.{none_missing}
use Rattle.tables.specs.Inside.Masks.{all_below, classes_if, classes_of}
use Rattle.scan.proofs.Walks.{one_rule}
use Rattle.tables.proofs.Laws.{never}

-- ---- the fault of a class row

-- what the classes of a row are found to be, on a line
abbrev pub fault_in : Result ℕ ClassFault → ℕ → Found
fault_in (Ok k) line = clean
fault_in (Err Missing) line = Err (ClassMissing line)
fault_in (Err Outside) line = Err (OutOfRange line)

-- a variable's rule, as the scan has it
abbrev pub row_fault : (ℕ → ℕ) → ℕ → ℕ → Found
row_fault class n line =
    each (λ x. unless (ltb (class x) n) (OutOfRange line)) n 0 then unless (none_missing class n) (ClassMissing line)

judged_fault : (a b : Bool) (k line : ℕ) → unless a (OutOfRange line) then unless b (ClassMissing line) ≡ fault_in (classes_if a b k) line
judged_fault true true k line = refl
judged_fault true false k line = refl
judged_fault false b k line = refl

judged_count : (a b : Bool) (j k : ℕ) → classes_if a b j ≡ Ok k → (a ≡ true) × (k ≡ j)
judged_count true true j k p = (refl, cc)
judged_count true false j k p = never (cc)
judged_count false b j k p = never (cc)

count_le : (class : ℕ → ℕ) (n d : ℕ) → ((x : ℕ) → x < d → class x < n) → count_of class d ≤ n
count_le class n zero h = zero-le
count_le class n (suc d) h = omega (arith, count_le class n d (λ x l. h x (omega arith)), h d (omega arith))

module _ (class : ℕ → ℕ) (n : ℕ) where
  row_fault_lem : (line : ℕ) → row_fault class n line ≡ fault_in (classes_of class n) line
  unfolding classes_of
  row_fault_lem line =
      rw (one_rule (λ x. ltb (class x) n) (OutOfRange line) n)
      (judged_fault (all_below class n) (none_missing class n) (count_of class n) line)

  row_count : (k : ℕ) → classes_of class n ≡ Ok k → (k ≡ count_of class n) × (k ≤ n)
  unfolding classes_of
  row_count k p =
      let q = judged_count (all_below class n) (none_missing class n) (count_of class n) k p in
      (q.1, omega (arith, count_le class n n (all_below_lem class n q.0)))

-- what is found in the row of variable v, whose number of values and row were read
module _ (facts : List ℕ) {row row' n n' : ℕ} {r : Result ℕ ClassFault} (found : r ≡ classes_of (row_at facts row) n) (at : row ≡ row') (values : n ≡ n') where
  row_of : r ≡ classes_of (row_at facts row') n'
  row_of = found ∙ ap₂ (λ (row n : ℕ). classes_of (row_at facts row) n) at values

  pub found_fault : (line : ℕ) {k : Result ℕ ClassFault} → r ≡ k → row_fault (row_at facts row') n' line ≡ fault_in k line
  found_fault line p = row_fault_lem (row_at facts row') n' line ∙ ap (λ (k : Result ℕ ClassFault). fault_in k line) (sym row_of ∙ p)

  pub found_count : (k : ℕ) → r ≡ Ok k → (k ≡ count_of (row_at facts row') n') × (k ≤ n')
  found_count k p = row_count (row_at facts row') n' k (sym row_of ∙ p)

-- the product of up to 8 counts of at most 8 fits a word
pub product_more : (p k v : ℕ) → p ≤ 8 ^ v → k ≤ 8 → p * k ≤ 8 ^ (v + 1)
product_more p k v h l = rw (add-one v, pow-suc 8 v) (mul-le-mul h l)

pub product_fits : (p k v : ℕ) → p ≤ 8 ^ v → k ≤ 8 → v < 8 → p * k ≤ 16777216
product_fits p k v h l g = le_trans (product_more p k v h l) (pow-le-pow_right (lit< tt) {i = v + 1} {j = 8} (omega arith))
