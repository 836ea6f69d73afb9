-- What a number of a distance table says, and what one of a table of best steps.
use Rattle.std.specs.Prelude.{Bool, true, false, List, ℕ, eqb, get_or}
use Rattle.graph.specs.Cost.{Cost, none, fin}
use Rattle.graph.specs.Best.{Advice, halt, take}

-- in a distance table 4,294,967,295 stands for none
abbrev pub NONE : ℕ
NONE = 4294967295

abbrev pub cost_if : Bool → ℕ → Cost
cost_if true x = none
cost_if false x = fin x

-- any other number is itself
unfoldable pub said : ℕ → Cost
said x = cost_if (eqb x NONE) x

-- what a table says of an abstract state
abbrev pub said_at : List ℕ → ℕ → Cost
said_at t a = said (get_or t a 0)

-- in a table of best steps 255 stands for none: to halt
abbrev pub HALT : ℕ
HALT = 255

abbrev pub advice_if : Bool → ℕ → Advice
advice_if true x = halt
advice_if false x = take x

-- any other number is the operator to take
unfoldable pub advised : ℕ → Advice
advised x = advice_if (eqb x HALT) x

-- what a table advises at an abstract state
abbrev pub advised_at : List ℕ → ℕ → Advice
advised_at t a = advised (get_or t a 0)
