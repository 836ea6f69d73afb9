-- The best step in a view, in the abstraction that the view induces: of the cheapest sequences to a goal those with fewest steps, and of their first operators
-- the lowest number.
use Rattle.std.specs.Prelude.{◌≡◌, ◌⊎◌, List, [], ◌∷◌, ℕ, ◌≤◌, length}
use Rattle.graph.specs.Best.{Advice, halt, take, IsLowest, NotAbove}
use Rattle.meaning.specs.Sas.{Sas, paid}
use Rattle.meaning.specs.Views.{View, AbstractStep, AbstractGoal, AbstractlyLeads}

-- a cheapest sequence of the view from a to a goal, and of those one with fewest steps
pub record CheapestAt (S : Sas) (W : View) (a : ℕ) (os : List ℕ) : Type 0 where
  pub leads : AbstractlyLeads S W os a
  pub cheapest : (vs : List ℕ) → AbstractlyLeads S W vs a → paid W.price os ≤ paid W.price vs
  pub fewest : (vs : List ℕ) → AbstractlyLeads S W vs a → paid W.price vs ≡ paid W.price os → length os ≤ length vs

-- o is the first operator of such a sequence
abbrev pub BeginsAt : Sas → View → ℕ → ℕ → Type 0
BeginsAt S W a o = (os : List ℕ) × CheapestAt S W a (o ∷ os)

-- halt at a goal of the view and where no sequence leads to one; else the lowest of the first operators
abbrev pub IsBestStepAt : Sas → View → ℕ → Advice → Type 0
IsBestStepAt S W a halt = AbstractGoal S W a ⊎ ((os : List ℕ) → AbstractlyLeads S W os a → ⊥)
IsBestStepAt S W a (take o) = IsLowest (BeginsAt S W a) o

-- following the advice B from a takes the operators os, one after the other by abstract steps, and then halts
abbrev pub FollowsAt : Sas → View → (ℕ → Advice) → List ℕ → ℕ → Type 0
FollowsAt S W B [] a = B a ≡ halt
FollowsAt S W B (o ∷ os) a = (B a ≡ take o) × ((b : ℕ) × AbstractStep S W o a b × FollowsAt S W B os b)

-- the foremost sequence of the view: cheapest, then with fewest steps, then with the lowest operator numbers step by step
pub record ForemostAt (S : Sas) (W : View) (a : ℕ) (os : List ℕ) : Type 0 where
  pub cheapest : CheapestAt S W a os
  pub lowest : (vs : List ℕ) → CheapestAt S W a vs → NotAbove os vs
