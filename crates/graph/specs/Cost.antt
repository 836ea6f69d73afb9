-- A least cost: none, or a number.
use Rattle.std.specs.Prelude.{ℕ, ◌+◌, ◌≤◌, min}

infix 50 ◌⊑◌
pub data Cost : Type 0 where
  none : Cost
  fin : ℕ → Cost

-- v is a number, and at most c: so v ⊑ c is false for every c exactly if v is none
abbrev pub ◌⊑◌ : Cost → ℕ → Type 0
none ⊑ c = ⊥
fin d ⊑ c = d ≤ c

-- k more
abbrev pub plus : ℕ → Cost → Cost
plus k none = none
plus k (fin d) = fin (k + d)

-- the lower of two, with none above every number
abbrev pub lower : Cost → Cost → Cost
lower none w = w
lower (fin a) none = fin a
lower (fin a) (fin b) = fin (min a b)
