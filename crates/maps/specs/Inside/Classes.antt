-- The views of a task in the lent tables at any row of prices, and the task of a map's classes in the same layout.
use Rattle.std.specs.Prelude.{◌≡◌, List, [], ℕ, ◌-◌, ◌%◌, ◌≤◌, ◌<◌, get_or}
use Rattle.graph.specs.Graph.{Graph}
use Rattle.meaning.specs.Limits.{most_vars, most_cost}
use Rattle.meaning.specs.Sas.{State}
use Rattle.meaning.specs.Views.{View, α, seen, view_graph}
use Rattle.meaning.specs.Split.{Task, count_of}
use Rattle.tables.specs.declared.Counts.{Counts}
use Rattle.tables.specs.Layout.{row_at, dom_at, class_at, cost_at, share_at}
use Rattle.tables.specs.Task.{sas_of, task_of, tables}

-- the task of the tables, whatever it costs
abbrev pub unpriced : Counts → List ℕ → Task
unpriced c facts = task_of (tables c facts [] [])

-- the view of map m at a row of prices
abbrev pub view_of : List ℕ → ℕ → List ℕ → View
view_of facts m prices =
    record { classes = λ v. count_of (class_at facts m v) (dom_at facts v); class = class_at facts m; price = cost_at prices }

abbrev pub view_graph_of : Counts → List ℕ → ℕ → List ℕ → Graph
view_graph_of c facts m prices = view_graph (sas_of (tables c facts [] [])) (view_of facts m prices)

-- map m's shares are such as an operator may cost
abbrev pub SharesSmall : Counts → List ℕ → ℕ → Type 0
SharesSmall c shares m = (o : ℕ) → o < c.ops → share_at shares m o ≤ most_cost

-- the number of a state's image in map m
abbrev pub image_of : Counts → List ℕ → ℕ → State → ℕ
image_of c facts m s = α (sas_of (tables c facts [] [])) (view_of facts m []) s

-- the rows before those of the classes: the numbers of values, the initial state, the goal, and 64 rows of preconditions and of effects
abbrev pub seen_rows : ℕ
seen_rows = 131

-- and their places, 8 a row
abbrev pub seen_places : ℕ
seen_places = 1048

-- x is what stands at place i of the rows of facts, seen by the classes of map m
abbrev pub SeenAt : List ℕ → ℕ → ℕ → ℕ → Type 0
SeenAt facts m i x = class_at facts m (i % 8) (get_or facts i 0 - 1) < 255 → x ≡ seen (class_at facts m (i % 8)) (get_or facts i 0)

-- r spells the task of the classes of map m: the numbers of classes for those of values, and the rows of facts seen by classes
pub record Classed (c : Counts) (facts : List ℕ) (m : ℕ) (r : List ℕ) : Type 0 where
  pub counts : (v : ℕ) → v < c.vars → dom_at r v ≡ count_of (class_at facts m v) (dom_at facts v)
  pub rows : (row v : ℕ) → 1 ≤ row → row < seen_rows → v < most_vars → class_at facts m v (row_at facts row v - 1) < 255
      → row_at r row v ≡ seen (class_at facts m v) (row_at facts row v)
