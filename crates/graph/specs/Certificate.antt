-- When a table found in any way holds the distances; and costs that count steps too.
use Rattle.std.specs.Prelude.{◌≡◌, true, List, ℕ, ◌+◌, ◌*◌, ◌≤◌, ◌<◌}
use Rattle.graph.specs.Cost.{Cost, fin, ◌⊑◌}
use Rattle.graph.specs.Graph.{Graph, Leads, total}
use Rattle.graph.specs.Least.{via}

-- each number is reached, each goal has 0, and no step undercuts the table
pub record Certificate (G : Graph) (T : ℕ → Cost) : Type 0 where
  pub reached : (a d : ℕ) → a < G.states → T a ≡ fin d → (os : List ℕ) × Leads G os a × (total G os ≤ d)
  pub goals : (a : ℕ) → a < G.states → G.goal a ≡ true → T a ⊑ 0
  pub steps : (a o c : ℕ) → a < G.states → o < G.ops → via G T a o ⊑ c → T a ⊑ c

-- the same graph, with each operator at cost × N + 1
abbrev pub scaled : Graph → ℕ → Graph
scaled G N = record { states = G.states; ops = G.ops; succ = G.succ; cost = λ o. G.cost o * N + 1; goal = G.goal }
