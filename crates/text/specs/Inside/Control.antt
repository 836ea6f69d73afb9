-- The control that goes from byte to byte beside the work area: its names, and the controls that the machine goes on with.
use Rattle.std.specs.Prelude.{ℕ, ◌+◌, ◌/◌, min, List, Bool, true, false, cond, ltb, eqb}
use Rattle.tables.specs.Editions.{has_quota}
use Rattle.text.specs.declared.Ctrl.{Ctrl}
use Rattle.text.specs.declared.Spot.{Spot}
use Rattle.text.specs.declared.Digits.{Digits}
use Rattle.text.specs.declared.Turn.{Turn}
use Rattle.text.specs.declared.Seen.{Seen}
use Rattle.text.specs.declared.Halt.{Halt}
use Rattle.text.specs.declared.Halt.TheVariants.{Going, Form, Range, Order, Missing, States, Idle}

-- the control beside the work area
pub record St : Type 0 where
  pub ctrl : Ctrl
  pub area : List ℕ

abbrev pub mk : Ctrl → List ℕ → St
mk c w = record { ctrl = c; area = w }

-- ---- NAMES

-- the parts of a line
abbrev pub part_key : ℕ
part_key = 0

abbrev pub part_number : ℕ
part_number = 1

abbrev pub part_after_dash : ℕ
part_after_dash = 2

abbrev pub part_dash_due : ℕ
part_dash_due = 3

-- the fields, by the number that is read there; of a fact, its variable and its value
abbrev pub field_edition : ℕ
field_edition = 0

abbrev pub field_vars : ℕ
field_vars = 1

abbrev pub field_dom : ℕ
field_dom = 2

abbrev pub field_init : ℕ
field_init = 3

abbrev pub field_goal_var : ℕ
field_goal_var = 4

abbrev pub field_goal_val : ℕ
field_goal_val = 5

abbrev pub field_ops : ℕ
field_ops = 6

abbrev pub field_cost : ℕ
field_cost = 7

abbrev pub field_pre_var : ℕ
field_pre_var = 8

abbrev pub field_pre_val : ℕ
field_pre_val = 9

abbrev pub field_eff_var : ℕ
field_eff_var = 10

abbrev pub field_eff_val : ℕ
field_eff_val = 11

abbrev pub field_maps : ℕ
field_maps = 12

abbrev pub field_class : ℕ
field_class = 13

abbrev pub field_share : ℕ
field_share = 14

abbrev pub field_quota : ℕ
field_quota = 15

abbrev pub field_mark : ℕ
field_mark = 16

abbrev pub field_end : ℕ
field_end = 17

-- two fields a list of facts
abbrev pub list_no : ℕ → ℕ
list_no f = f / 2

abbrev pub goal_list : ℕ
goal_list = 2

abbrev pub pre_list : ℕ
pre_list = 4

abbrev pub eff_list : ℕ
eff_list = 5

-- the fields that an operator's line can end with: its effects, and in edition 2 its mark
abbrev pub ends_operator : ℕ → Bool
ends_operator f = cond (eqb (list_no f) eff_list) true (eqb f field_mark)

-- the digit run: before the first digit, after a single 0, after any other digits
abbrev pub run_none : ℕ
run_none = 0

abbrev pub run_zero : ℕ
run_zero = 1

abbrev pub run_on : ℕ
run_on = 2

-- the reading goes on
abbrev pub going : Halt → Bool
going Going = true
going Form = false
going Range = false
going Order = false
going Missing = false
going States = false
going Idle = false

-- one more, for counts that stay far below a cap
abbrev pub count_cap : ℕ
count_cap = 1000000

abbrev pub up : ℕ → ℕ
up x = min (x + 1) count_cap

-- ---- THE PARTS OF A CONTROL
abbrev pub spot_at : ℕ → ℕ → ℕ → ℕ → Spot
spot_at p f k r = record { part = p; field = f; key = k; row = r }

abbrev pub digits_of : ℕ → ℕ → Digits
digits_of r v = record { run = r; val = v }

abbrev pub no_digits : Digits
no_digits = digits_of run_none 0

abbrev pub turn_of : ℕ → ℕ → ℕ → Turn
turn_of v n i = record { var = v; least = n; item = i }

abbrev pub first_turn : Turn
first_turn = turn_of 0 0 0

abbrev pub seen_of : ℕ → ℕ → Seen
seen_of m p = record { mask = m; prod = p }

abbrev pub none_seen : Seen
none_seen = seen_of 0 1

-- ---- THE NEXT CONTROL

-- before the first byte
unfoldable pub start : Ctrl
start =
    record {
      halt = Going;
      line = 1;
      spot = spot_at part_key field_edition 0 0;
      digits = no_digits;
      turn = first_turn;
      seen = none_seen;
      counts = record { vars = 0; ops = 0; maps = 0; edition = 0; quota = 0 };
    }

-- the reading stops
unfoldable pub stopped : Ctrl → Halt → Ctrl
stopped c k =
    record { halt = k; line = c.line; spot = c.spot; digits = c.digits; turn = c.turn; seen = c.seen; counts = c.counts }

-- a part of a line begins: part p of field f, in row r of line l
unfoldable pub part_begun : Ctrl → ℕ → ℕ → ℕ → ℕ → Ctrl
part_begun c l p f r =
    record { halt = Going; line = l; spot = spot_at p f 0 r; digits = no_digits; turn = first_turn; seen = none_seen; counts = c.counts }

-- a number of field f is due: whose, and with the classes seen and the abstract states so far
unfoldable pub due : Ctrl → ℕ → Turn → Seen → Ctrl
due c f t s =
    record {
      halt = Going;
      line = c.line;
      spot = spot_at part_number f 0 c.spot.row;
      digits = no_digits;
      turn = t;
      seen = s;
      counts = c.counts;
    }

-- inside a keyword each byte is the keyword's own; after its '=' a number is due, or the dash of a share line without operators
unfoldable pub next_key : Ctrl → Ctrl
next_key c =
    record {
      halt = Going;
      line = c.line;
      spot = spot_at part_key c.spot.field (up c.spot.key) c.spot.row;
      digits = no_digits;
      turn = first_turn;
      seen = none_seen;
      counts = c.counts;
    }

abbrev pub first_part : Ctrl → ℕ
first_part c = cond (eqb c.spot.field field_share) (cond (eqb c.counts.ops 0) part_dash_due part_number) part_number

unfoldable pub opened : Ctrl → Ctrl
opened c = part_begun c c.line (first_part c) c.spot.field c.spot.row

-- one digit more: another run
unfoldable pub with_digit : Ctrl → ℕ → ℕ → Ctrl
with_digit c r v =
    record {
      halt = Going;
      line = c.line;
      spot = spot_at part_number c.spot.field 0 c.spot.row;
      digits = digits_of r v;
      turn = c.turn;
      seen = c.seen;
      counts = c.counts;
    }

-- after the dash of an empty list
unfoldable pub dashed : Ctrl → Ctrl
dashed c = part_begun c c.line part_after_dash c.spot.field c.spot.row

-- the line after this one: another row of the same kind while rows are left
unfoldable pub to_line : Ctrl → ℕ → ℕ → Ctrl
to_line c f r = part_begun c (up c.line) part_key f r

unfoldable pub row_or : Ctrl → ℕ → ℕ → ℕ → Ctrl
row_or c n f g = cond (ltb (up c.spot.row) n) (to_line c f (up c.spot.row)) (to_line c g 0)

unfoldable pub next_line : Ctrl → Ctrl
next_line c =
    cond (eqb c.spot.field field_ops)
    (to_line c (cond (eqb c.counts.ops 0) field_maps field_cost) 0)
    (cond (eqb c.spot.field field_class)
    (row_or c c.counts.maps field_class field_share)
    (cond (eqb c.spot.field field_share)
    (row_or c c.counts.maps field_share field_end)
    (cond (eqb (list_no c.spot.field) goal_list)
    (to_line c (cond (has_quota c.counts.edition) field_quota field_ops) 0)
    (cond (eqb c.spot.field field_quota)
    (to_line c field_ops 0)
    (cond (ends_operator c.spot.field) (row_or c c.counts.ops field_cost field_maps) (to_line c (up c.spot.field) 0))))))
