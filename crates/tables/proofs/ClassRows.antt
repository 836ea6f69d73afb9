-- What the mask of a class row says of the classes: how many there are, that one is missing, that one is outside; at any width that holds the values.
-- Assumes nothing.
use Prim.Native.Nat.{ℕ, ◌-◌, ◌≤◌, ◌<◌}
use mathlib.Core.Path.{◌≡◌, refl, sym, ap, ◌∙◌}
use mathlib.Core.Bool.{Bool, true, false}
use lib.Count.{ones, count_leading_zeros}
use lib.Dec.{ltb}
use borrow.Author.Tests.{ltb-true, lt-ltb, eq-eqb, ne_eqb}
use Rattle.meaning.specs.Split.{count_of}
use Rattle.meaning.proofs.Facts.{every_true, true_every}
use Rattle.std.specs.Prelude.{Some, None, Ok, Err}
use Rattle.tables.specs.declared.classes.ClassFault.TheVariants.{Missing, Outside}
use Rattle.tables.specs.Classes.{none_missing}
use Rattle.tables.specs.Inside.Masks.{mask_of, all_below, masked, mask_found, classes_of}
use Rattle.tables.proofs.Masks.{mask_width, mask_whole}
use Rattle.tables.proofs.Laws.{never}

masked_beyond : (b : Bool) (m : ℕ) → masked b m ≡ None → b ≡ false
masked_beyond true m p = never (cc)
masked_beyond false m p = refl

masked_bits : (b : Bool) (m k : ℕ) → masked b m ≡ Some k → (b ≡ true) × (k ≡ m)
masked_bits true m k p = (refl, cc)
masked_bits false m k p = never (cc)

module _ (class : ℕ → ℕ) (n : ℕ) where
  pub beyond_outside : mask_found class n ≡ None → Err Outside ≡ classes_of class n
  unfolding mask_found classes_of
  beyond_outside p = rw (masked_beyond (all_below class n) (mask_of class n) p)

  pub all_below_lem : all_below class n ≡ true → (x : ℕ) → x < n → class x < n
  all_below_lem p x l = ltb-true (class x) n (every_true (λ x. ltb (class x) n) n p x l)

  -- where each class is below n, there is a mask
  pub some_mask : ((x : ℕ) → x < n → class x < n) → mask_found class n ≡ Some (mask_of class n)
  unfolding mask_found
  some_mask h = let q : all_below class n ≡ true = true_every (λ x. ltb (class x) n) n (λ x l. lt-ltb (class x) n (h x l)) in rw q refl

  module _ (w m : ℕ) (fits : n ≤ w) (found : mask_found class n ≡ Some m) where
    found_bits : (all_below class n ≡ true) × (m ≡ mask_of class n)
    unfolding mask_found
    found_bits = masked_bits (all_below class n) (mask_of class n) m found

    pub width_count : w - count_leading_zeros w m ≡ count_of class n
    width_count = rw found_bits.1 (mask_width class w n fits (all_below_lem found_bits.0))

    pub width_counts : w - count_leading_zeros w m ≡ ones m → Ok (w - count_leading_zeros w m) ≡ classes_of class n
    unfolding classes_of
    width_counts e =
        let q : none_missing class n ≡ true = sym (mask_whole class w n fits (all_below_lem found_bits.0)) ∙ eq-eqb _ _ (rw found_bits.1 at e) in
        rw (found_bits.0, q) (ap (λ (k : ℕ). Ok k) width_count)

    pub width_misses : (w - count_leading_zeros w m ≡ ones m → ⊥) → Err Missing ≡ classes_of class n
    unfolding classes_of
    width_misses e =
        let q : none_missing class n ≡ false = sym (mask_whole class w n fits (all_below_lem found_bits.0)) ∙ ne_eqb _ _ (rw found_bits.1 at e) in
        rw (found_bits.0, q)
