-- Which operator to take at a state: of the cheapest sequences to a goal those with fewest steps, and of their first operators the lowest number. And what it
-- is to follow such advice.
use Rattle.std.specs.Prelude.{◌≡◌, ◌⊎◌, true, List, [], ◌∷◌, ℕ, ◌≤◌, ◌<◌, length}
use Rattle.graph.specs.Graph.{Graph, Onward, Leads, total}

-- what is advised at a state: to take an operator, or to halt
pub data Advice : Type 0 where
  halt : Advice
  take : ℕ → Advice

-- a cheapest sequence from a to a goal, and of those one with fewest steps
pub record Cheapest (G : Graph) (a : ℕ) (os : List ℕ) : Type 0 where
  pub leads : Leads G os a
  pub cheapest : (vs : List ℕ) → Leads G vs a → total G os ≤ total G vs
  pub fewest : (vs : List ℕ) → Leads G vs a → total G vs ≡ total G os → length os ≤ length vs

-- o is the first operator of such a sequence
abbrev pub Begins : Graph → ℕ → ℕ → Type 0
Begins G a o = (os : List ℕ) × Cheapest G a (o ∷ os)

-- o is the lowest number of which P holds
abbrev pub IsLowest : (ℕ → Type 0) → ℕ → Type 0
IsLowest P o = P o × ((p : ℕ) → P p → o ≤ p)

-- halt at a goal and where no sequence leads to one; else the lowest of the first operators
abbrev pub IsBestStep : Graph → ℕ → Advice → Type 0
IsBestStep G a halt = (G.goal a ≡ true) ⊎ ((os : List ℕ) → Leads G os a → ⊥)
IsBestStep G a (take o) = IsLowest (Begins G a) o

-- following the advice B from a takes the operators os, one after the other, and then halts
unfoldable pub Follows : Graph → (ℕ → Advice) → List ℕ → ℕ → Type 0
Follows G B [] a = B a ≡ halt
Follows G B (o ∷ os) a = (B a ≡ take o) × Onward (Follows G B os) (G.succ o a)

-- os is vs or goes on to it, or has the lower number at the first step where they differ
abbrev pub NotAbove : List ℕ → List ℕ → Type 0
NotAbove [] vs = Unit {0}
NotAbove (o ∷ os) [] = ⊥
NotAbove (o ∷ os) (p ∷ vs) = (o < p) ⊎ ((o ≡ p) × NotAbove os vs)

-- the foremost sequence: cheapest, then with fewest steps, then with the lowest operator numbers step by step
pub record Foremost (G : Graph) (a : ℕ) (os : List ℕ) : Type 0 where
  pub cheapest : Cheapest G a os
  pub lowest : (vs : List ℕ) → Cheapest G a vs → NotAbove os vs
