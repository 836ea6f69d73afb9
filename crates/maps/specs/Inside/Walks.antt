-- The numbered state space of facts in the lent tables' layout, at any row of prices. The facts may be those of a task or of the task of its classes, whose
-- values are classes.
use Rattle.std.specs.Prelude.{List, [], ℕ, ◌≤◌, ◌<◌, get_or}
use Rattle.graph.specs.Graph.{Graph}
use Rattle.meaning.specs.Limits.{most_vars, most_values, most_ops, most_cost, most_states}
use Rattle.meaning.specs.Numbering.{size}
use Rattle.meaning.specs.Views.{space}
use Rattle.tables.specs.declared.Counts.{Counts}
use Rattle.tables.specs.Layout.{dom_at, pre_at, eff_at}
use Rattle.tables.specs.Task.{sas_of, tables}

-- the numbered state space of the task that the facts spell, each operator at its price
abbrev pub space_of : Counts → List ℕ → List ℕ → Graph
space_of c facts prices = space (sas_of (tables c facts prices []))

-- how many states it has
abbrev pub states_of : Counts → List ℕ → ℕ
states_of c facts = size (dom_at facts) c.vars

-- every variable has values, and not many; every precondition and effect names one; and the states are few
pub record Walkable (c : Counts) (facts : List ℕ) : Type 0 where
  pub vars : c.vars ≤ most_vars
  pub ops : c.ops ≤ most_ops
  pub values : (v : ℕ) → v < c.vars → 1 ≤ dom_at facts v
  pub small : (v : ℕ) → v < c.vars → dom_at facts v ≤ most_values
  pub pres : (o v : ℕ) → o < c.ops → v < c.vars → pre_at facts o v ≤ dom_at facts v
  pub effects : (o v : ℕ) → o < c.ops → v < c.vars → eff_at facts o v ≤ dom_at facts v
  pub few : states_of c facts ≤ most_states

-- every price is one that an operator may have
abbrev pub PricesSmall : Counts → List ℕ → Type 0
PricesSmall c prices = (o : ℕ) → o < c.ops → get_or prices o 0 ≤ most_cost
