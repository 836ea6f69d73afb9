-- What the functions of the worklist ask and give.
use Rattle.std.specs.Prelude.{◌≡◌, true, List, ℕ, ◌*◌, ◌≤◌, ◌<◌, length, get_or}
use Rattle.graph.specs.Graph.{Graph}
use Rattle.tables.specs.declared.Counts.{Counts}
use Rattle.maps.specs.Inside.Walks.{Walkable, states_of, PricesSmall}
use Rattle.maps.specs.Inside.Rows.{lanes}
use Rattle.turned.specs.declared.back.Turned.{Turned}
use Rattle.turned.specs.Inside.Wants.{wanted, Fits}
use Rattle.turned.specs.Inside.Backs.{back_at, Backs}
use Rattle.waiting.specs.Trees.{NOKEY, leaf}
use Rattle.waiting.specs.Offers.{NOLABEL}
use Rattle.quick.specs.declared.run.Backwards.{Backwards}
use Rattle.quick.specs.Inside.Runs.{scaled_of, Run, Fell}

-- the task and its n states, its prices, its rows, and its operators backwards
pub record Ready (c : Counts) (facts prices : List ℕ) (n : ℕ) (fits : List ℕ) (turns : List Turned) (back : List ℕ) : Type 0 where
  pub walk : Walkable c facts
  pub priced : PricesSmall c prices
  pub states : n ≡ states_of c facts
  pub fit : Fits c facts fits
  pub rows : n * lanes ≤ length fits
  pub backs : Backs c facts n turns back
  pub room : length turns ≡ 64
  pub lists : c.ops * n ≤ length back

-- so is the map of these tables
abbrev pub ReadyMap : Backwards → Type 0
ReadyMap m = Ready m.c m.facts.now m.prices.now m.n m.fits.now m.turns.now m.back.now

-- its states and operators, each operator at its price × 4096 + 1
abbrev pub graph_of : Backwards → Graph
graph_of m = scaled_of m.c m.facts.now m.prices.now

-- b waits no more, and its label is known
pub record Held (b label : ℕ) (L t : List ℕ) : Type 0 where
  pub is : label ≡ get_or L b 0
  pub finite : label < NOLABEL
  pub done : NOKEY ≤ leaf t b

-- operator o leads to b from the states that are listed
pub record Into (c : Counts) (facts : List ℕ) (o b : ℕ) : Type 0 where
  pub op : o < c.ops
  pub state : b < states_of c facts
  pub match : wanted c facts o b ≡ true

-- of the steps into b those of the operators after o, and those of o from states that aren't among the first i
abbrev pub Left : ℕ → List Turned → List ℕ → ℕ → ℕ → ℕ → ℕ → ℕ → Type 0
Left n turns back b o i = λ p a. (o ≤ p) × (p ≡ o → (j : ℕ) → j < i → a ≡ back_at n turns back o b j → ⊥)

-- the run after some of the steps into b were looked at
pub record Relaxed (G : Graph) (b label : ℕ) (P : ℕ → ℕ → Type 0) (L t β L' t' β' : List ℕ) : Type 0 where
  pub run : Run G G.states b P L' t' β'
  pub held : Held b label L' t'
  pub fell : Fell L t L' t'
