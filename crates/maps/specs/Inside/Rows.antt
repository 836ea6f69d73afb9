-- Rows of numbers, one for each state of a numbered space: what the functions that lay them ask and give.
use Rattle.std.specs.Prelude.{◌≡◌, List, ℕ, ◌+◌, ◌*◌, ◌≤◌, ◌<◌, length, get_or}
use Rattle.meaning.specs.Numbering.{number, Digits}
use Rattle.meaning.specs.Split.{sum}

-- the lanes of a row: one for each operator that there may be, and the last for the goal
abbrev pub lanes : ℕ
lanes = 65

abbrev pub goal_lane : ℕ
goal_lane = 64

-- what stands in lane o of the row of state a
abbrev pub lane_at : List ℕ → ℕ → ℕ → ℕ
lane_at t a o = get_or t (a * lanes + o) 0

-- what the value x of variable v puts into lane o
abbrev pub part_at : List ℕ → ℕ → ℕ → ℕ → ℕ
part_at parts v x o = get_or parts ((v * 8 + x) * lanes + o) 0

-- a part is so small that 8 of them fit in a place
abbrev pub most_part : ℕ
most_part = 8191

abbrev pub most_laid : ℕ
most_laid = 65528

pub record Parts (parts : List ℕ) : Type 0 where
  pub room : length parts ≡ 4160
  pub small : (i : ℕ) → get_or parts i 0 ≤ most_part

-- the row of b is that of a with the parts from place at on, and the other rows stay
pub record RowLaid (a b : ℕ) (parts : List ℕ) (at : ℕ) (t t' : List ℕ) : Type 0 where
  pub size : length t' ≡ length t
  pub row : (o : ℕ) → o < lanes → lane_at t' b o ≡ lane_at t a o + get_or parts (at + o) 0
  pub others : (x o : ℕ) → (x ≡ b → ⊥) → o < lanes → lane_at t' x o ≡ lane_at t x o

-- so are the first k of the len rows from base on made of the first len rows
pub record ValueLaid (len base : ℕ) (parts : List ℕ) (at k : ℕ) (t t' : List ℕ) : Type 0 where
  pub size : length t' ≡ length t
  pub rows : (i o : ℕ) → i < k → o < lanes → lane_at t' (base + i) o ≡ lane_at t i o + get_or parts (at + o) 0
  pub below : (x o : ℕ) → x < base → o < lanes → lane_at t' x o ≡ lane_at t x o
  pub beyond : (x o : ℕ) → base + k ≤ x → o < lanes → lane_at t' x o ≡ lane_at t x o

-- and so are those of variable v's values from x on
pub record VariableLaid (len k : ℕ) (parts : List ℕ) (v x : ℕ) (t t' : List ℕ) : Type 0 where
  pub size : length t' ≡ length t
  pub rows : (y i o : ℕ) → x ≤ y → y < k → i < len → o < lanes → lane_at t' (i + y * len) o ≡ lane_at t i o + part_at parts v y o
  pub below : (a o : ℕ) → a < x * len → o < lanes → lane_at t' a o ≡ lane_at t a o

-- by the first k variables of the radices K: the row of the state with the digits D has in each lane the sum of the parts that the digits put there
abbrev pub Laid : (ℕ → ℕ) → List ℕ → ℕ → List ℕ → Type 0
Laid K parts k t = (D : ℕ → ℕ) → Digits K D k → (o : ℕ) → o < lanes → lane_at t (number K D k) o ≡ sum (λ v. part_at parts v (D v) o) k
