-- The least cost over at most i steps, round by round, and the count of rounds.
use Rattle.std.specs.Prelude.{◌≡◌, Bool, true, false, ℕ, zero, suc, ◌-◌, ◌≤◌, ◌<◌}
use Rattle.graph.specs.Cost.{Cost, none, fin, plus, lower}
use Rattle.graph.specs.Graph.{Next, stop, to, Graph}

-- with no step at all: 0 at a goal, else none
abbrev pub at_goal : Bool → Cost
at_goal true = fin 0
at_goal false = none

-- what the table T says of where a step leads
abbrev pub after_step : (ℕ → Cost) → Next → Cost
after_step T stop = none
after_step T (to b) = T b

-- the cost from a by operator o first, and then what T says
abbrev pub via : Graph → (ℕ → Cost) → ℕ → ℕ → Cost
via G T a o = plus (G.cost o) (after_step T (G.succ o a))

-- the least by stopping at a goal, or by one of the first k operators and then what T says
abbrev pub best : Graph → (ℕ → Cost) → ℕ → ℕ → Cost
best G T a zero = at_goal (G.goal a)
best G T a (suc k) = lower (best G T a k) (via G T a k)

-- the least cost from a to a goal over at most i steps
unfoldable pub least : Graph → ℕ → ℕ → Cost
least G zero a = at_goal (G.goal a)
least G (suc i) a = best G (least G i) a G.ops

-- at all states the least cost over at most i steps equals that over at most i - 1
abbrev pub Unchanged : Graph → ℕ → Type 0
Unchanged G i = (a : ℕ) → a < G.states → least G i a ≡ least G (i - 1) a

-- the count of rounds: the smallest i of at least 1 that is unchanged
pub record Rounds (G : Graph) (r : ℕ) : Type 0 where
  pub positive : 1 ≤ r
  pub unchanged : Unchanged G r
  pub smallest : (i : ℕ) → 1 ≤ i → i < r → Unchanged G i → ⊥
