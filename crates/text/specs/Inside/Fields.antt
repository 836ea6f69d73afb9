-- The fields of the text: their keywords and ranges, a finished number's fault, what the number is to the control, and where it is kept.
use Rattle.std.specs.Prelude.{ℕ, ◌+◌, ◌-◌, ◌*◌, ◌^◌, min, List, [], ◌∷◌, Bool, false, cond, get_or, ltb, leb, eqb}
use Rattle.std.specs.Int.Bits.{bit_or}
use Rattle.std.specs.Int.Count.{ones, count_leading_zeros}
use Rattle.meaning.specs.Limits.{most_vars, most_values, most_ops, most_cost, most_maps, most_states, most_edition, most_quota, most_mark}
use Rattle.tables.specs.declared.Counts.{Counts}
use Rattle.tables.specs.Layout.{init_place, goal_place, pre_place, eff_place, class_place, mark_place}
use Rattle.grammar.specs.Fields.{bytes_of}
use Rattle.text.specs.declared.Ctrl.{Ctrl}
use Rattle.text.specs.declared.Seen.{Seen}
use Rattle.text.specs.declared.Halt.{Halt}
use Rattle.text.specs.declared.Halt.TheVariants.{Going, Form, Range, Order, Missing, States}
use Rattle.text.specs.declared.fields.Kind.{Kind}
use Rattle.text.specs.declared.fields.Kind.TheVariants.{Line, Row, Var, Val, Cost, Class, Share, Mark}
use Rattle.text.specs.Inside.Area.{put_byte, put_word, cost_byte, share_byte, dom_in}
use Rattle.text.specs.Inside.Control.{
  going,
  up,
  seen_of,
  run_none,
  field_edition,
  field_vars,
  field_dom,
  field_init,
  field_goal_val,
  field_ops,
  field_cost,
  field_pre_val,
  field_eff_val,
  field_maps,
  field_class,
  field_share,
  field_quota,
  field_mark,
}

-- the keyword of each field that begins a line, 8 bytes a field; past the last field no byte fits
abbrev pub keys : List ℕ
keys = bytes_of "edition=vars=   dom=    init=   goal=           ops=    op=                                     maps=   map=    share=  quota=          "

unfoldable pub key_byte : ℕ → ℕ → ℕ
key_byte f k = get_or keys (f * 8 + k) 256

-- the least number of each field, and the first number beyond its range, where two numbers stand for what the text itself has said
abbrev pub leasts : List ℕ
leasts = 1 ∷ 1 ∷ 1 ∷ 0 ∷ 0 ∷ 0 ∷ 0 ∷ 0 ∷ 0 ∷ 0 ∷ 0 ∷ 0 ∷ 1 ∷ 0 ∷ 0 ∷ 0 ∷ 0 ∷ 0 ∷ []

-- the variable's number of values; the number of variables
abbrev pub by_values : ℕ
by_values = 0

abbrev pub by_vars : ℕ
by_vars = 1

abbrev pub limits : List ℕ
limits =
    (most_edition + 1)
    ∷ (most_vars + 1)
    ∷ (most_values + 1)
    ∷ by_values
    ∷ by_vars
    ∷ by_values
    ∷ (most_ops + 1)
    ∷ (most_cost + 1)
    ∷ by_vars
    ∷ by_values
    ∷ by_vars
    ∷ by_values
    ∷ (most_maps + 1)
    ∷ by_values
    ∷ (most_cost + 1)
    ∷ (most_quota + 1)
    ∷ (most_mark + 1)
    ∷ by_values
    ∷ []

unfoldable pub limit : Ctrl → List ℕ → ℕ
limit c w =
    cond (eqb (get_or limits c.spot.field 0) by_values)
    (dom_in w c.turn.var)
    (cond (eqb (get_or limits c.spot.field 0) by_vars) c.counts.vars (get_or limits c.spot.field 0))

unfoldable pub in_range : Ctrl → List ℕ → Bool
in_range c w = cond (leb (get_or leasts c.spot.field 0) c.digits.val) (ltb c.digits.val (limit c w)) false

-- a finished number's own fault: range, then order
unfoldable pub number_fault : Ctrl → List ℕ → Halt
number_fault c w = cond (in_range c w) (cond (leb c.turn.least c.digits.val) Going Order) Range

-- the classes seen as a mask, its width, and whether none is missing: as many ones as it is wide
unfoldable pub with_class : ℕ → ℕ → ℕ
with_class m x = cond (ltb x 32) (bit_or m (2 ^ x)) m

unfoldable pub width : ℕ → ℕ
width m = 32 - count_leading_zeros 32 m

unfoldable pub gapless : ℕ → Bool
gapless m = eqb (width m) (ones m)

-- the abstract states so far, counted up to one too many
abbrev pub states_over : ℕ
states_over = most_states + 1

unfoldable pub times : ℕ → ℕ → ℕ
times p n = cond (ltb most_states p) states_over (min (p * n) states_over)

-- what a finished number is to the control: a count, if its field f has one; a class seen
abbrev pub with_count : ℕ → ℕ → Counts → Counts
with_count f v n =
    record {
      vars = cond (eqb f field_vars) v n.vars;
      ops = cond (eqb f field_ops) v n.ops;
      maps = cond (eqb f field_maps) v n.maps;
      edition = cond (eqb f field_edition) v n.edition;
      quota = cond (eqb f field_quota) v n.quota;
    }

unfoldable pub counts_with : Ctrl → Counts
counts_with c = with_count c.spot.field c.digits.val c.counts

unfoldable pub seen_with : Ctrl → Seen
seen_with c = seen_of (cond (eqb c.spot.field field_class) (with_class c.seen.mask c.digits.val) c.seen.mask) c.seen.prod

unfoldable pub noted : Ctrl → Ctrl
noted c =
    record { halt = c.halt; line = c.line; spot = c.spot; digits = c.digits; turn = c.turn; seen = seen_with c; counts = counts_with c }

-- the class just noted was its variable's last, and that variable the map's last
unfoldable pub last_class : Ctrl → List ℕ → Bool
last_class c w = cond (eqb c.spot.field field_class) (eqb (up c.turn.item) (dom_in w c.turn.var)) false

unfoldable pub last_var : Ctrl → Bool
last_var c = eqb (up c.turn.var) c.counts.vars

-- the faults told at the end of a list of classes, before the next byte is read
unfoldable pub class_fault : Ctrl → Halt
class_fault c =
    cond (gapless c.seen.mask)
    (cond (last_var c) (cond (ltb most_states (times c.seen.prod (width c.seen.mask))) States Going) Going)
    Missing

unfoldable pub before : Ctrl → List ℕ → Halt
before c w = cond (last_class c w) (class_fault c) Going

-- the fault of the digit run that ends here
unfoldable pub fault : Ctrl → List ℕ → Halt
fault c w =
    cond (eqb c.digits.run run_none) Form (cond (going (number_fault c w)) (before (noted c) w) (number_fault c w))

-- where a number is kept in the area: a fact as value and one, costs and shares in 3 bytes, counts not at all
unfoldable pub stored : Ctrl → List ℕ → List ℕ
stored c w =
    cond (eqb c.spot.field field_dom)
    (put_byte w c.turn.var c.digits.val)
    (cond (eqb c.spot.field field_init)
    (put_byte w (init_place c.turn.var) c.digits.val)
    (cond (eqb c.spot.field field_goal_val)
    (put_byte w (goal_place c.turn.var) (up c.digits.val))
    (cond (eqb c.spot.field field_cost)
    (put_word w (cost_byte c.spot.row) c.digits.val)
    (cond (eqb c.spot.field field_pre_val)
    (put_byte w (pre_place c.spot.row c.turn.var) (up c.digits.val))
    (cond (eqb c.spot.field field_eff_val)
    (put_byte w (eff_place c.spot.row c.turn.var) (up c.digits.val))
    (cond (eqb c.spot.field field_class)
    (put_byte w (class_place c.spot.row c.turn.var c.turn.item) c.digits.val)
    (cond (eqb c.spot.field field_share)
    (put_word w (share_byte c.spot.row c.turn.item) c.digits.val)
    (cond (eqb c.spot.field field_mark) (put_byte w (mark_place c.spot.row) c.digits.val) w))))))))

-- what follows a number of each field: its line's end, the next of a row over the variables, a fact's colon, more facts or their end,
-- the preconditions, the next class, the next share, the operator's end
abbrev pub kind_line : ℕ
kind_line = 0

abbrev pub kind_row : ℕ
kind_row = 1

abbrev pub kind_var : ℕ
kind_var = 2

abbrev pub kind_val : ℕ
kind_val = 3

abbrev pub kind_cost : ℕ
kind_cost = 4

abbrev pub kind_class : ℕ
kind_class = 5

abbrev pub kind_share : ℕ
kind_share = 6

abbrev pub kind_mark : ℕ
kind_mark = 7

abbrev pub kinds : List ℕ
kinds =
    kind_line
    ∷ kind_line
    ∷ kind_row
    ∷ kind_row
    ∷ kind_var
    ∷ kind_val
    ∷ kind_line
    ∷ kind_cost
    ∷ kind_var
    ∷ kind_val
    ∷ kind_var
    ∷ kind_val
    ∷ kind_line
    ∷ kind_class
    ∷ kind_share
    ∷ kind_line
    ∷ kind_mark
    ∷ kind_line
    ∷ []

unfoldable pub kind : ℕ → ℕ
kind f = get_or kinds f 0

-- the same of the reader's own kinds
abbrev pub kind_no : Kind → ℕ
kind_no Line = kind_line
kind_no Row = kind_row
kind_no Var = kind_var
kind_no Val = kind_val
kind_no Cost = kind_cost
kind_no Class = kind_class
kind_no Share = kind_share
kind_no Mark = kind_mark
