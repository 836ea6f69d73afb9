-- A run: labels, the tree of the states that wait, and the steps found so far. A label is a cost × 4096 + the count of steps, so that the lowest is cheapest first
-- and then shortest; none is a number above all of them.
use Rattle.std.specs.Prelude.{◌≡◌, Bool, true, false, List, ℕ, ◌+◌, ◌*◌, ◌≤◌, ◌<◌, ltb, length, get_or}
use Rattle.graph.specs.Graph.{to, Graph, Leads, total}
use Rattle.graph.specs.Certificate.{scaled}
use Rattle.tables.specs.declared.Counts.{Counts}
use Rattle.maps.specs.Inside.Walks.{space_of}
use Rattle.maps.specs.Said.{HALT}
use Rattle.waiting.specs.Trees.{NOKEY, leaf, Tree}
use Rattle.waiting.specs.Offers.{NOLABEL, Shaped}

-- the state space with each operator at its price × 4096 + 1
abbrev pub scaled_of : Counts → List ℕ → List ℕ → Graph
scaled_of c facts prices = scaled (space_of c facts prices) 4096

-- no better way by operator o from a to b; and where it is as good, the step found is no later operator
abbrev pub Tight : Graph → List ℕ → List ℕ → ℕ → ℕ → ℕ → Type 0
Tight G L β o a b = (get_or L a 0 ≤ G.cost o + get_or L b 0) × (get_or L a 0 ≡ G.cost o + get_or L b 0 → get_or β a 0 ≤ o)

-- goals are set below k; of the steps into b₀ those that are Pending have yet to be looked at, and no others but those into states that wait
pub record Run (G : Graph) (k b₀ : ℕ) (Pending : ℕ → ℕ → Type 0) (L t β : List ℕ) : Type 0 where
  pub size_L : G.states ≤ length L
  pub size_t : length t ≡ 4368
  pub size_β : G.states ≤ length β
  pub high : (a : ℕ) → a < G.states → get_or L a 0 ≤ NOLABEL
  pub reached : (a : ℕ) → a < G.states → get_or L a 0 < NOLABEL → (os : List ℕ) × Leads G os a × (total G os ≤ get_or L a 0)
  pub goals : (a : ℕ) → a < k → G.goal a ≡ true → get_or L a 0 ≡ 0
  pub tree : Tree t
  pub waits : (a : ℕ) → a < 4096 → leaf t a < NOKEY → a < G.states
  pub shaped : (a : ℕ) → a < G.states → Shaped L t a
  pub tight : (o a b : ℕ) → o < G.ops → a < G.states → G.succ o a ≡ to b → NOKEY ≤ leaf t b → (b ≡ b₀ → Pending o a → ⊥) → Tight G L β o a b
  pub bytes : (a : ℕ) → a < G.states → get_or β a 0 ≤ HALT
  pub steps : (a : ℕ) → a < G.states → get_or β a 0 < HALT
      → (get_or β a 0 < G.ops) × ((b : ℕ) × (G.succ (get_or β a 0) a ≡ to b) × (G.cost (get_or β a 0) + get_or L b 0 ≤ get_or L a 0))
  pub none : (a : ℕ) → a < G.states → get_or β a 0 ≡ HALT → get_or L a 0 < NOLABEL → G.goal a ≡ true

-- every step into b₀; none; those of the operators from o on
abbrev pub Every : ℕ → ℕ → Type 0
Every o a = Unit {0}

abbrev pub Nothing : ℕ → ℕ → Type 0
Nothing o a = ⊥

abbrev pub From : ℕ → ℕ → ℕ → Type 0
From k o a = k ≤ o

-- twice the label, and one more for a state that waits: what falls with every state that is taken
abbrev pub bit_if : Bool → ℕ
bit_if true = 1
bit_if false = 0

unfoldable pub weight : List ℕ → List ℕ → ℕ → ℕ
weight L t a = 2 * get_or L a 0 + bit_if (ltb (leaf t a) NOKEY)

-- no weight rose
abbrev pub Fell : List ℕ → List ℕ → List ℕ → List ℕ → Type 0
Fell L t L' t' = (a : ℕ) → weight L' t' a ≤ weight L t a
