-- A finite graph whose operators are deterministic and partial, the sequences of operators that lead to a goal, and their cost.
use Rattle.std.specs.Prelude.{◌≡◌, Bool, true, List, [], ◌∷◌, ℕ, zero, suc, ◌+◌, ◌≤◌, ◌<◌, max, length}
use Rattle.graph.specs.Cost.{Cost, fin, ◌⊑◌}

-- what an operator does at a state: no step, or a step to a state
pub data Next : Type 0 where
  stop : Next
  to : ℕ → Next

-- states 0 .. states - 1 and operators 0 .. ops - 1; a cost is any number, 0 too
pub record Graph : Type 0 where
  pub states : ℕ
  pub ops : ℕ
  pub succ : ℕ → ℕ → Next
  pub cost : ℕ → ℕ
  pub goal : ℕ → Bool

-- a step from a state leads to a state
abbrev pub Closed : Graph → Type 0
Closed G = (o a b : ℕ) → o < G.ops → a < G.states → G.succ o a ≡ to b → b < G.states

-- there is a step, and P holds where it leads
abbrev pub Onward : (ℕ → Type 0) → Next → Type 0
Onward P stop = ⊥
Onward P (to b) = P b

-- the operators of the sequence, one after the other from a, lead to a goal
unfoldable pub Leads : Graph → List ℕ → ℕ → Type 0
Leads G [] a = G.goal a ≡ true
Leads G (o ∷ os) a = (o < G.ops) × Onward (Leads G os) (G.succ o a)

-- what the sequence costs
abbrev pub total : Graph → List ℕ → ℕ
total G [] = 0
total G (o ∷ os) = G.cost o + total G os

-- v is the least cost of the sequences that satisfy P and lead from a to a goal
pub record IsLeast (G : Graph) (P : List ℕ → Type 0) (a : ℕ) (v : Cost) : Type 0 where
  pub attained : (d : ℕ) → v ≡ fin d → (os : List ℕ) × P os × Leads G os a × (total G os ≡ d)
  pub below : (os : List ℕ) → P os → Leads G os a → v ⊑ total G os

-- of at most i steps; of any length
abbrev pub AtMost : ℕ → List ℕ → Type 0
AtMost i os = length os ≤ i

abbrev pub AnyLength : List ℕ → Type 0
AnyLength os = Unit {0}

-- the goal distance: the least cost over sequences of any length
abbrev pub IsDistance : Graph → ℕ → Cost → Type 0
IsDistance G a v = IsLeast G AnyLength a v

-- the greatest of the first k costs
abbrev pub greatest : (ℕ → ℕ) → ℕ → ℕ
greatest c zero = 0
greatest c (suc k) = max (greatest c k) (c k)
