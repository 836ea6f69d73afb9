-- What is wanted of the state after an operator, and the rows that tell which operators may have led to a state.
use Rattle.std.specs.Prelude.{◌≡◌, Bool, true, false, List, [], ℕ, zero, suc, ◌+◌, ◌*◌, ◌≤◌, ◌<◌, eqb, leb, get_or}
use Rattle.meaning.specs.Numbering.{digit}
use Rattle.meaning.specs.Views.{holds, every}
use Rattle.tables.specs.declared.Counts.{Counts}
use Rattle.tables.specs.Layout.{dom_at, pre_at, eff_at}
use Rattle.maps.specs.Inside.Walks.{space_of, states_of}
use Rattle.maps.specs.Inside.Rows.{goal_lane, lane_at}

-- what is wanted of a variable after a step: its effect, or else its precondition
abbrev pub want_of : ℕ → ℕ → ℕ
want_of pre zero = pre
want_of pre (suc e) = suc e

-- what is wanted of the state after operator o holds in the state b
unfoldable pub wanted : Counts → List ℕ → ℕ → ℕ → Bool
wanted c facts o b = every (λ v. holds (want_of (pre_at facts o v) (eff_at facts o v)) (digit (dom_at facts) b v)) c.vars

-- the facts with what is wanted in the place of the preconditions, which stand from 24 on, 512 places before the effects
abbrev pub want_if : Bool → List ℕ → ℕ → ℕ
want_if true facts i = want_of (get_or facts i 0) (get_or facts (i + 512) 0)
want_if false facts i = get_or facts i 0

unfoldable pub want_at : List ℕ → ℕ → ℕ
want_at facts i = want_if (leb 24 i) facts i

-- of the first k operators, and no effects
pub record Wants (k : ℕ) (facts r : List ℕ) : Type 0 where
  pub places : (i : ℕ) → i < 24 + k * 8 → get_or r i 0 ≡ want_at facts i
  pub rest : (i : ℕ) → 24 + k * 8 ≤ i → get_or r i 0 ≡ 0

-- a row for each state: 0 in the lane of each operator that may have led there, and in that of the goal where it is met, and in no other
pub record Fits (c : Counts) (facts t : List ℕ) : Type 0 where
  pub ops : (o a : ℕ) → o < c.ops → a < states_of c facts → eqb (lane_at t a o) 0 ≡ wanted c facts o a
  pub goal : (a : ℕ) → a < states_of c facts → eqb (lane_at t a goal_lane) 0 ≡ (space_of c facts []).goal a
