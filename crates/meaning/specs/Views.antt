-- Simplified views: the abstraction that 001 has a view induce, straight from its definition; and beside it the task of classes, from which it can be computed.
use Rattle.std.specs.Prelude.{◌≡◌, Bool, true, false, ◌&&◌, ◌||◌, List, [], ◌∷◌, ℕ, zero, suc, ◌-◌, ◌≤◌, ◌<◌, eqb}
use Rattle.graph.specs.Cost.{Cost, fin, ◌⊑◌}
use Rattle.graph.specs.Graph.{Next, stop, to, Graph, AtMost, AnyLength}
use Rattle.meaning.specs.Numbering.{size, number, digit}
use Rattle.meaning.specs.Sas.{State, Facts, Sas, IsState, IsGoal, Transition, after, paid}

-- a view: how many classes each variable has, the class of each value, and what an operator costs in the view
pub record View : Type 0 where
  pub classes : ℕ → ℕ
  pub class : ℕ → ℕ → ℕ
  pub price : ℕ → ℕ

-- the classes of a state's values, and the number of the abstract state that they give: the function α of 001
abbrev pub image : View → State → State
image W s = λ v. W.class v (s v)

abbrev pub α : Sas → View → State → ℕ
α S W s = number W.classes (image W s) S.vars

-- how many abstract states there are
abbrev pub abstract_states : Sas → View → ℕ
abstract_states S W = size W.classes S.vars

-- a variable's classes are 0 to k - 1 with none missing, so that α is onto
pub record Onto (S : Sas) (W : View) : Type 0 where
  pub inside : (v x : ℕ) → v < S.vars → x < S.dom v → W.class v x < W.classes v
  pub none_missing : (v c : ℕ) → v < S.vars → c < W.classes v → (x : ℕ) × (x < S.dom v) × (W.class v x ≡ c)

-- THE INDUCED ABSTRACTION. P holds of some concrete state in the class product a
abbrev pub SomeIn : Sas → View → ℕ → (State → Type 0) → Type 0
SomeIn S W a P = (s : State) × IsState S s × (α S W s ≡ a) × P s

-- an abstract step exists exactly if some concrete state in the first class product is taken into the second by that operator
abbrev pub AbstractStep : Sas → View → ℕ → ℕ → ℕ → Type 0
AbstractStep S W o a b = SomeIn S W a (λ s. SomeIn S W b (λ t. Transition S s o t))

-- an abstract state is a goal if it holds some concrete goal
abbrev pub AbstractGoal : Sas → View → ℕ → Type 0
AbstractGoal S W a = SomeIn S W a (λ s. IsGoal S s)

-- the sequence leads from a to a goal by abstract steps
abbrev pub AbstractlyLeads : Sas → View → List ℕ → ℕ → Type 0
AbstractlyLeads S W [] a = AbstractGoal S W a
AbstractlyLeads S W (o ∷ os) a = (b : ℕ) × AbstractStep S W o a b × AbstractlyLeads S W os b

-- v is the least price of the sequences that satisfy P and lead from a to a goal: the price of some such sequence, and none is cheaper; none exactly if
-- there is none
pub record IsLeastAt (S : Sas) (W : View) (P : List ℕ → Type 0) (a : ℕ) (v : Cost) : Type 0 where
  pub attained : (d : ℕ) → v ≡ fin d → (os : List ℕ) × P os × AbstractlyLeads S W os a × (paid W.price os ≡ d)
  pub below : (os : List ℕ) → P os → AbstractlyLeads S W os a → v ⊑ paid W.price os

-- the view's distance at a: the least over sequences of any length
abbrev pub IsDistanceAt : Sas → View → ℕ → Cost → Type 0
IsDistanceAt S W a v = IsLeastAt S W AnyLength a v

-- at all abstract states the least price over at most i steps equals that over at most i - 1 steps
abbrev pub UnchangedAt : Sas → View → ℕ → Type 0
UnchangedAt S W i = (a : ℕ) → a < abstract_states S W → (v : Cost) × IsLeastAt S W (AtMost i) a v × IsLeastAt S W (AtMost (i - 1)) a v

-- the view's rounds: the smallest i of at least 1 for which that is so
pub record IsRounds (S : Sas) (W : View) (r : ℕ) : Type 0 where
  pub positive : 1 ≤ r
  pub unchanged : UnchangedAt S W r
  pub smallest : (i : ℕ) → 1 ≤ i → i < r → UnchangedAt S W i → ⊥

-- THE TASK OF CLASSES. What is said of a variable, seen by classes
abbrev pub seen : (ℕ → ℕ) → ℕ → ℕ
seen c zero = zero
seen c (suc k) = suc (c k)

-- the task whose values are the classes, whose facts are seen by classes, and whose costs are the view's prices
abbrev pub class_task : Sas → View → Sas
class_task S W =
    record {
      vars = S.vars;
      dom = W.classes;
      init = image W S.init;
      goal = λ v. seen (W.class v) (S.goal v);
      ops = S.ops;
      cost = W.price;
      pre = λ o v. seen (W.class v) (S.pre o v);
      eff = λ o v. seen (W.class v) (S.eff o v);
    }

-- tests that compute: what is said holds of x; at every number below k; a partial assignment complies; an effect is none or stands among the preconditions,
-- and an operator is idle
abbrev pub holds : ℕ → ℕ → Bool
holds zero x = true
holds (suc k) x = eqb x k

abbrev pub every : (ℕ → Bool) → ℕ → Bool
every f zero = true
every f (suc k) = every f k && f k

abbrev pub complies : Sas → Facts → State → Bool
complies S F s = every (λ v. holds (F v) (s v)) S.vars

abbrev pub asked : ℕ → ℕ → Bool
asked pre eff = eqb eff 0 || eqb eff pre

abbrev pub idle : Sas → ℕ → Bool
idle S o = every (λ v. asked (S.pre o v) (S.eff o v)) S.vars

abbrev pub to_if : Bool → ℕ → Next
to_if true b = to b
to_if false b = stop

-- the state space of a task, its states numbered
abbrev pub space : Sas → Graph
space S =
    record {
      states = size S.dom S.vars;
      ops = S.ops;
      succ = λ o a. to_if (complies S (S.pre o) (digit S.dom a)) (number S.dom (after S o (digit S.dom a)) S.vars);
      cost = S.cost;
      goal = λ a. complies S S.goal (digit S.dom a);
    }

-- the view as a graph: the successor as it can be computed from classes
abbrev pub view_graph : Sas → View → Graph
view_graph S W = space (class_task S W)
