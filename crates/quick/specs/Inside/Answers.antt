-- What the quick way gives: the distances, and at each state the best step.
use Rattle.std.specs.Prelude.{◌≡◌, Bool, true, false, List, ℕ, ◌/◌, ltb}
use Rattle.graph.specs.Graph.{Graph, IsDistance}
use Rattle.graph.specs.Best.{IsBestStep}
use Rattle.meaning.specs.Sas.{State}
use Rattle.meaning.specs.Views.{α, view_graph}
use Rattle.meaning.specs.Split.{Task, view}
use Rattle.meaning.specs.Bound.{away}
use Rattle.maps.specs.declared.Pick.{Pick}
use Rattle.maps.specs.Said.{NONE, said, advised}
use Rattle.maps.specs.Inside.Made.{Made}
use Rattle.waiting.specs.Offers.{NOLABEL}

-- the places of the states say the distances, and advise the best steps; the others stay
abbrev pub Distances : Graph → List ℕ → List ℕ → Type 0
Distances G t₀ t = Made (λ a x. IsDistance G a (said x)) G.states t₀ t

abbrev pub BestSteps : Graph → List ℕ → List ℕ → Type 0
BestSteps G b₀ b = Made (λ a x. IsBestStep G a (advised x)) G.states b₀ b

-- a label as a distance table has it
abbrev pub shownIf : Bool → ℕ → ℕ
shownIf true l = l / 4096
shownIf false l = NONE

unfoldable pub shown : ℕ → ℕ
shown l = shownIf (ltb l NOLABEL) l

-- what map m has at a state's image: its distance, and its best step
pub record AtImage (T : Task) (s : State) (m : ℕ) (r : Pick) : Type 0 where
  pub cost : said r.cost ≡ away T s m
  pub op : IsBestStep (view_graph T.sas (view T m)) (α T.sas (view T m) s) (advised r.op)
