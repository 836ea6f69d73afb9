-- How much the columns can have, so that no addition goes past 32 bits.
use Rattle.std.specs.Prelude.{ℕ, ◌*◌, ◌-◌, ◌≤◌, ◌<◌, List, get_or}
use Rattle.meaning.specs.Limits.{most_cost}
use Rattle.ledger.specs.Ledger.{all_columns}

-- no column has more than so many steps can have paid
abbrev pub Bounded : ℕ → List ℕ → Type 0
Bounded steps columns = (c : ℕ) → c < all_columns → get_or columns c 0 ≤ steps * most_cost

-- each column has room for what one step more can pay
abbrev pub HasRoom : List ℕ → Type 0
HasRoom columns = (k : ℕ) → k < all_columns → get_or columns k 0 < 4294967296 - most_cost
