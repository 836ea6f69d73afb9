-- A variable's classes as the program keeps them: a mask, with a bit for each class.
use Rattle.std.specs.Prelude.{Bool, true, false, ℕ, zero, suc, ◌^◌, ltb, Option, Some, None, Result, Ok, Err}
use Rattle.std.specs.Int.Bits.{bit_or}
use Rattle.meaning.specs.Views.{every}
use Rattle.meaning.specs.Split.{count_of}
use Rattle.tables.specs.declared.classes.ClassFault.{ClassFault}
use Rattle.tables.specs.declared.classes.ClassFault.TheVariants.{Missing, Outside}
use Rattle.tables.specs.Classes.{none_missing}

-- the number with a bit for each class of the first n values
abbrev pub mask_of : (ℕ → ℕ) → ℕ → ℕ
mask_of class zero = 0
mask_of class (suc n) = bit_or (mask_of class n) (2 ^ class n)

-- each class of n values is below n
abbrev pub all_below : (ℕ → ℕ) → ℕ → Bool
all_below class n = every (λ x. ltb (class x) n) n

abbrev pub masked : Bool → ℕ → Option ℕ
masked true m = Some m
masked false m = None

-- the mask of n values, where each class is below n
unfoldable pub mask_found : (ℕ → ℕ) → ℕ → Option ℕ
mask_found class n = masked (all_below class n) (mask_of class n)

abbrev pub classes_if : Bool → Bool → ℕ → Result ℕ ClassFault
classes_if true true k = Ok k
classes_if true false k = Err Missing
classes_if false whole k = Err Outside

-- how many classes n values have; or that a class is not below n, or else that one is missing
unfoldable pub classes_of : (ℕ → ℕ) → ℕ → Result ℕ ClassFault
classes_of class n = classes_if (all_below class n) (none_missing class n) (count_of class n)
