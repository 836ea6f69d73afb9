-- The class rule: the classes of a variable's values are 0 to k - 1 with none missing.
use Rattle.std.specs.Prelude.{Bool, false, ◌||◌, ℕ, zero, suc, eqb}
use Rattle.meaning.specs.Views.{every}
use Rattle.meaning.specs.Split.{count_of}

-- some of the first n values has the class c
abbrev pub some_has : (ℕ → ℕ) → ℕ → ℕ → Bool
some_has class zero c = false
some_has class (suc n) c = some_has class n c || eqb (class n) c

-- the classes of the first n values are 0 to k - 1 with none missing
abbrev pub none_missing : (ℕ → ℕ) → ℕ → Bool
none_missing class n = every (some_has class n) (count_of class n)
