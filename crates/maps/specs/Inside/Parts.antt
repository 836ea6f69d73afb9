-- What the values put into the lanes of a row, and what a row that is laid of it says: where each operator leads, and whether the goal is met.
use Rattle.std.specs.Prelude.{◌≡◌, Bool, true, false, List, ℕ, ◌+◌, ◌*◌, ◌≤◌, ◌<◌, ltb, get_or}
use Rattle.graph.specs.Graph.{Next}
use Rattle.meaning.specs.Limits.{most_states}
use Rattle.meaning.specs.Numbering.{size, number, digit}
use Rattle.meaning.specs.Sas.{put}
use Rattle.meaning.specs.Views.{holds, to_if}
use Rattle.meaning.specs.Split.{sum}
use Rattle.tables.specs.declared.Counts.{Counts}
use Rattle.tables.specs.Layout.{dom_at, goal_at, pre_at, eff_at}
use Rattle.maps.specs.Inside.Walks.{states_of}
use Rattle.maps.specs.Inside.Rows.{lanes, goal_lane, lane_at, part_at, Parts}

-- 4,096, more than any state's number, stands for a fact that fails
abbrev pub fails_if : Bool → ℕ
fails_if true = 0
fails_if false = 4096

-- what the value x of a variable puts into a lane: its number after an effect, and what stands for a precondition that fails
abbrev pub part_of : ℕ → ℕ → ℕ → ℕ → ℕ
part_of pre eff x stride = put eff x * stride + fails_if (holds pre x)

-- the parts of the first k operators at the value x of variable v stand from place at on, and the other places stay
pub record OpParts (k : ℕ) (facts : List ℕ) (v x stride at : ℕ) (p p' : List ℕ) : Type 0 where
  pub all : Parts p'
  pub ops : (o : ℕ) → o < k → get_or p' (at + o) 0 ≡ part_of (pre_at facts o v) (eff_at facts o v) x stride
  pub below : (i : ℕ) → i < at → get_or p' i 0 ≡ get_or p i 0
  pub beyond : (i : ℕ) → at + lanes ≤ i → get_or p' i 0 ≡ get_or p i 0

-- all parts of the value x of variable v; the other values' stay
pub record ValueParts (c : Counts) (facts : List ℕ) (v x stride : ℕ) (p p' : List ℕ) : Type 0 where
  pub all : Parts p'
  pub ops : (o : ℕ) → o < c.ops → part_at p' v x o ≡ part_of (pre_at facts o v) (eff_at facts o v) x stride
  pub goal : part_at p' v x goal_lane ≡ part_of (goal_at facts v) 0 x 0
  pub others : (i : ℕ) → (i ≡ v * 8 + x → ⊥) → (o : ℕ) → o < lanes → get_or p' (i * lanes + o) 0 ≡ get_or p (i * lanes + o) 0

-- those of the first k values of variable v; the other variables' stay
pub record VariableParts (c : Counts) (facts : List ℕ) (v k stride : ℕ) (p p' : List ℕ) : Type 0 where
  pub all : Parts p'
  pub ops : (x o : ℕ) → x < k → o < c.ops → part_at p' v x o ≡ part_of (pre_at facts o v) (eff_at facts o v) x stride
  pub goal : (x : ℕ) → x < k → part_at p' v x goal_lane ≡ part_of (goal_at facts v) 0 x 0
  pub others : (w x o : ℕ) → w < v → x < 8 → o < lanes → part_at p' w x o ≡ part_at p w x o

-- those of the first n variables, the values of the first of them unit apart
pub record Parted (c : Counts) (facts : List ℕ) (unit n : ℕ) (p : List ℕ) : Type 0 where
  pub all : Parts p
  pub ops : (v x o : ℕ) → v < n → x < dom_at facts v → o < c.ops
      → part_at p v x o ≡ part_of (pre_at facts o v) (eff_at facts o v) x (unit * size (dom_at facts) v)
  pub goal : (v x : ℕ) → v < n → x < dom_at facts v → part_at p v x goal_lane ≡ part_of (goal_at facts v) 0 x 0

-- how much stands for the facts F that fail in the state a
abbrev pub failing : Counts → List ℕ → (ℕ → ℕ) → ℕ → ℕ
failing c facts F a = sum (λ v. fails_if (holds (F v) (digit (dom_at facts) a v))) c.vars

-- the rows of all states: in an operator's lane the number of the state after it, unit times, and what stands for preconditions that fail; in the goal's what
-- stands for its facts that fail
pub record Stepped (c : Counts) (facts : List ℕ) (unit : ℕ) (t : List ℕ) : Type 0 where
  pub ops : (o a : ℕ) → o < c.ops → a < states_of c facts
      → lane_at t a o ≡ unit * number (dom_at facts) (λ v. put (eff_at facts o v) (digit (dom_at facts) a v)) c.vars + failing c facts (pre_at facts o) a
  pub goal : (a : ℕ) → a < states_of c facts → lane_at t a goal_lane ≡ failing c facts (goal_at facts) a

-- where a lane leads: to the state of that number, or nowhere if it is above every state's
abbrev pub next_at : ℕ → Next
next_at x = to_if (ltb x most_states) x
