-- The summed bound of a state: the sum of 000, none if any term is.
use Rattle.std.specs.Prelude.{ℕ, zero, suc, ◌+◌}
use Rattle.graph.specs.Cost.{Cost, none, fin}
use Rattle.graph.specs.Least.{least}
use Rattle.meaning.specs.Sas.{State, Sas}
use Rattle.meaning.specs.Views.{View, α, abstract_states, view_graph}
use Rattle.meaning.specs.Split.{Task, view}

-- the distance of the abstract state a in a view: the least price over at most as many steps as there are abstract states.
-- `distance_is` shows that it is the least over sequences of any length in the induced abstraction
abbrev pub distance : Sas → View → ℕ → Cost
distance S W a = least (view_graph S W) (abstract_states S W) a

-- the distance of a state's image in map m
abbrev pub away : Task → State → ℕ → Cost
away T s m = distance T.sas (view T m) (α T.sas (view T m) s)

-- one term more: none settles it, two numbers are added
abbrev pub join : Cost → Cost → Cost
join none w = none
join (fin a) none = none
join (fin a) (fin b) = fin (a + b)

-- the sum of what the first k maps say: none exactly if one of them says none, and else the sum of their numbers
abbrev pub summed : (ℕ → Cost) → ℕ → Cost
summed d zero = fin 0
summed d (suc k) = join (summed d k) (d k)

-- the summed bound of a state
abbrev pub bound : Task → State → Cost
bound T s = summed (away T s) T.maps
