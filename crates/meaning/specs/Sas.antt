-- SAS+ planning tasks, their states and the state space that they induce, as source document 001 has them; and sequences of operators.
use Rattle.std.specs.Prelude.{◌≡◌, List, [], ◌∷◌, ◌⊎◌, ℕ, zero, suc, ◌+◌, ◌≤◌, ◌<◌}

-- a total assignment: the value of each variable
abbrev pub State : Type 0
State = ℕ → ℕ

-- a partial assignment: of each variable 0 (nothing is said of it) or k + 1 (it has the value k)
abbrev pub Facts : Type 0
Facts = ℕ → ℕ

-- the task ⟨V, dom, I, G, A⟩: variables 0 .. vars - 1, values 0 .. dom v - 1, operators 0 .. ops - 1
pub record Sas : Type 0 where
  pub vars : ℕ
  pub dom : ℕ → ℕ
  pub init : State
  pub goal : Facts
  pub ops : ℕ
  pub cost : ℕ → ℕ
  pub pre : ℕ → Facts
  pub eff : ℕ → Facts

-- a state is a total assignment according to dom
abbrev pub IsState : Sas → State → Type 0
IsState S s = (v : ℕ) → v < S.vars → s v < S.dom v

-- what is said of a variable holds of the value x
abbrev pub Holds : ℕ → ℕ → Type 0
Holds zero x = Unit {0}
Holds (suc k) x = x ≡ k

-- a partial assignment complies with a state
abbrev pub Complies : Sas → Facts → State → Type 0
Complies S F s = (v : ℕ) → v < S.vars → Holds (F v) (s v)

-- the operator may run: each precondition holds
abbrev pub MayRun : Sas → ℕ → State → Type 0
MayRun S o s = Complies S (S.pre o) s

-- a goal state; an empty goal holds everywhere
abbrev pub IsGoal : Sas → State → Type 0
IsGoal S s = Complies S S.goal s

-- the transitions s -o→ t of 001: the preconditions comply with s; t complies with the effects, and with s at all other variables
pub record Transition (S : Sas) (s : State) (o : ℕ) (t : State) : Type 0 where
  pub from : IsState S s
  pub into : IsState S t
  pub operator : o < S.ops
  pub runs : MayRun S o s
  pub effects : Complies S (S.eff o) t
  pub others : (v : ℕ) → v < S.vars → S.eff o v ≡ 0 → t v ≡ s v

-- afterwards each effect holds and all else stays
abbrev pub put : ℕ → ℕ → ℕ
put zero x = x
put (suc k) x = k

abbrev pub after : Sas → ℕ → State → State
after S o s = λ v. put (S.eff o v) (s v)

-- an operator is idle if it has no effects, or if each of them stands among its preconditions
abbrev pub Idle : Sas → ℕ → Type 0
Idle S o = (v : ℕ) → v < S.vars → (S.eff o v ≡ 0) ⊎ (S.eff o v ≡ S.pre o v)

-- some state is taken into another one by the operator
abbrev pub Alters : Sas → ℕ → Type 0
Alters S o = (s : State) × (t : State) × Transition S s o t × ((v : ℕ) × (v < S.vars) × (t v ≡ s v → ⊥))

-- the operators of the sequence exist, and may run one after the other from s
abbrev pub Runs : Sas → List ℕ → State → Type 0
Runs S [] s = Unit {0}
Runs S (o ∷ os) s = (o < S.ops) × MayRun S o s × Runs S os (after S o s)

-- the state after them
abbrev pub end : Sas → List ℕ → State → State
end S [] s = s
end S (o ∷ os) s = end S os (after S o s)

-- the sequence passes: every step may run and the end meets the goal
abbrev pub Passes : Sas → List ℕ → State → Type 0
Passes S os s = Runs S os s × IsGoal S (end S os s)

-- what a sequence costs at the prices p
abbrev pub paid : (ℕ → ℕ) → List ℕ → ℕ
paid p [] = 0
paid p (o ∷ os) = p o + paid p os

-- every variable has a value, the initial state is a state, and every fact names a value of its variable
pub record Proper (S : Sas) : Type 0 where
  pub values : (v : ℕ) → v < S.vars → 1 ≤ S.dom v
  pub init : IsState S S.init
  pub goal : (v : ℕ) → v < S.vars → S.goal v ≤ S.dom v
  pub pre : (o v : ℕ) → o < S.ops → v < S.vars → S.pre o v ≤ S.dom v
  pub eff : (o v : ℕ) → o < S.ops → v < S.vars → S.eff o v ≤ S.dom v
