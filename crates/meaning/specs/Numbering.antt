-- Numbers by their digits, with a radix for each position; position 0 changes fastest.
use Rattle.std.specs.Prelude.{ℕ, zero, suc, ◌+◌, ◌*◌, ◌/◌, ◌%◌, ◌<◌}

-- how many numbers have k digits: the product of the first k radices
abbrev pub size : (ℕ → ℕ) → ℕ → ℕ
size r zero = 1
size r (suc k) = size r k * r k

-- the number whose k digits are d
abbrev pub number : (ℕ → ℕ) → (ℕ → ℕ) → ℕ → ℕ
number r d zero = 0
number r d (suc k) = number r d k + d k * size r k

-- the digit of a at position v
abbrev pub digit : (ℕ → ℕ) → ℕ → ℕ → ℕ
digit r a v = a / size r v % r v

-- no radix is 0; each digit is below its radix
abbrev pub Positive : (ℕ → ℕ) → ℕ → Type 0
Positive r k = (v : ℕ) → v < k → 0 < r v

abbrev pub Digits : (ℕ → ℕ) → (ℕ → ℕ) → ℕ → Type 0
Digits r d k = (v : ℕ) → v < k → d v < r v
