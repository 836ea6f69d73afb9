-- Numbers read ahead: what has to stand in a piece for that, and that the machine goes on after them as it would have gone on before them.
use Rattle.std.specs.Prelude.{ℕ, ◌+◌, ◌-◌, ◌≤◌, ◌<◌, ◌≡◌, List, cond, length, get_or, drop, eqb}
use Rattle.meaning.specs.Limits.{most_cost}
use Rattle.tables.specs.Layout.{goal_place, pre_place, eff_place}
use Rattle.grammar.specs.Fields.{is_digit, comma, colon}
use Rattle.text.specs.declared.Halt.TheVariants.{Going}
use Rattle.text.specs.declared.Ctrl.{Ctrl}
use Rattle.text.specs.Inside.Area.{dom_in}
use Rattle.text.specs.Inside.Control.{
  St,
  mk,
  up,
  turn_of,
  seen_of,
  none_seen,
  due,
  with_digit,
  part_number,
  run_none,
  run_zero,
  run_on,
  field_goal_var,
  field_pre_var,
  field_eff_var,
  field_class,
  field_share,
}
use Rattle.text.specs.Inside.Steps.{feed}

-- the machine that stands in y before place j of s goes on as that which stands in x before place i; j is not the end
pub record Onward (s : List ℕ) (x : St) (i : ℕ) (y : St) (j : ℕ) : Type 0 where
  pub on : i ≤ j
  pub within : j < length s
  pub same : feed y (drop j s) ≡ feed x (drop i s)

-- a number is due, and nothing of it is read
pub record Due (c : Ctrl) : Type 0 where
  pub halt : c.halt ≡ Going
  pub part : c.spot.part ≡ part_number
  pub key : c.spot.key ≡ 0
  pub run : c.digits.run ≡ run_none
  pub val : c.digits.val ≡ 0

-- no variable's classes are read
pub record NoneSeen (c : Ctrl) : Type 0 where
  pub var : c.turn.var ≡ 0
  pub mask : c.seen.mask ≡ 0
  pub prod : c.seen.prod ≡ 1

-- the digit at a place, 10 where none stands
unfoldable pub digit_at : List ℕ → ℕ → ℕ
digit_at s i = cond (is_digit (get_or s i 0)) (get_or s i 0 - 48) 10

-- ---- facts: a variable of the list is due, m or a later one; where its facts begin in the area, 0 for other fields
abbrev pub due_var : Ctrl → ℕ → Ctrl
due_var c m = due c c.spot.field (turn_of 0 m 0) none_seen

unfoldable pub facts_place : ℕ → ℕ → ℕ
facts_place f o =
    cond (eqb f field_goal_var) (goal_place 0) (cond (eqb f field_pre_var) (pre_place o 0) (cond (eqb f field_eff_var) (eff_place o 0) 0))

-- facts were read from i to j, whatever the control of the list: of a variable from `least` on first, from `next` on then
abbrev pub FactsRead : List ℕ → ℕ → ℕ → ℕ → ℕ → List ℕ → ℕ → ℕ → List ℕ → Type 0
FactsRead s place vars i least w j next u =
    (c : Ctrl) → (facts_place c.spot.field c.spot.row ≡ 0 → ⊥) → place ≡ facts_place c.spot.field c.spot.row → c.counts.vars ≡ vars
    → Onward s (mk (due_var c least) w) i (mk (due_var c next) u) j

-- a fact of one digit each, in range and order, its comma, and a byte more
pub record FactHere (s : List ℕ) (i : ℕ) (w : List ℕ) (vars least : ℕ) : Type 0 where
  pub room : i + 5 ≤ length s
  pub var : digit_at s i < 10
  pub colon : get_or s (i + 1) 0 ≡ colon
  pub value : digit_at s (i + 2) < 10
  pub comma : get_or s (i + 3) 0 ≡ comma
  pub known : digit_at s i < vars
  pub rising : least ≤ digit_at s i
  pub fits : digit_at s (i + 2) < dom_in w (digit_at s i)

-- ---- classes: that of the variable's value i is due, with the mask m
abbrev pub due_class : Ctrl → ℕ → ℕ → Ctrl
due_class c i m = due c field_class (turn_of c.turn.var 0 i) (seen_of m c.seen.prod)

-- classes were read from i to j, whatever the control of the variable in that row
abbrev pub ClassesRead : List ℕ → ℕ → ℕ → ℕ → ℕ → ℕ → List ℕ → ℕ → ℕ → ℕ → List ℕ → Type 0
ClassesRead s row var i item seen w j next mask u =
    (c : Ctrl) → c.spot.row ≡ row → c.turn.var ≡ var → Onward s (mk (due_class c item seen) w) i (mk (due_class c next mask) u) j

-- a class of one digit, in range and not the variable's last, its comma, and a byte more
pub record ClassHere (s : List ℕ) (i values item : ℕ) : Type 0 where
  pub room : i + 3 ≤ length s
  pub class : digit_at s i < 10
  pub comma : get_or s (i + 1) 0 ≡ comma
  pub fits : digit_at s i < values
  pub more : up item < values

-- ---- shares: that of operator i is due
abbrev pub due_share : Ctrl → ℕ → Ctrl
due_share c i = due c field_share (turn_of 0 0 i) none_seen

-- shares were read from i to j, whatever the control of that row
abbrev pub SharesRead : List ℕ → ℕ → ℕ → ℕ → ℕ → List ℕ → ℕ → ℕ → List ℕ → Type 0
SharesRead s row ops i item w j next u = (c : Ctrl) → c.spot.row ≡ row → c.counts.ops ≡ ops → Onward s (mk (due_share c item) w) i (mk (due_share c next) u) j

-- a digit stands at i, and a value u leaves room for it
pub record DigitHere (s : List ℕ) (i u : ℕ) : Type 0 where
  pub room : i < length s
  pub low : u ≤ most_cost
  pub digit : digit_at s i < 10

-- the digits from i to j make v of u, where no leading zero was read
pub record Longer (s : List ℕ) (i u j v : ℕ) : Type 0 where
  pub on : i ≤ j
  pub within : j ≤ length s
  pub grows : u ≤ v
  pub same : (c : Ctrl) (w : List ℕ) → feed (mk (with_digit c run_on v) w) (drop j s) ≡ feed (mk (with_digit c run_on u) w) (drop i s)

-- a number from i to j, if j is not i, whose value is v
abbrev pub run_of : ℕ → ℕ
run_of v = cond (eqb v 0) run_zero run_on

pub record Numbered (s : List ℕ) (i j v : ℕ) : Type 0 where
  pub on : i ≤ j
  pub within : j ≤ length s
  pub same : i < j → (c : Ctrl) (w : List ℕ) → feed (mk (with_digit c (run_of v) v) w) (drop j s) ≡ feed (mk (with_digit c 0 0) w) (drop i s)

-- it is a share and not the row's last, with its comma and a byte more
pub record ShareHere (s : List ℕ) (i j v item ops : ℕ) : Type 0 where
  pub some : i < j
  pub room : j + 2 ≤ length s
  pub comma : get_or s j 0 ≡ comma
  pub fits : v ≤ most_cost
  pub more : up item < ops
