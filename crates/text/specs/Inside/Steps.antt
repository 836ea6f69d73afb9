-- One byte of the text.
use Rattle.std.specs.Prelude.{ℕ, ◌+◌, ◌-◌, ◌*◌, min, List, [], ◌∷◌, Bool, true, false, cond, not, eqb}
use Prim.Native.Char.{code}
use Rattle.grammar.specs.Fields.{is_digit, line_end, comma, dash, slash, colon, semicolon}
use Rattle.text.specs.declared.Ctrl.{Ctrl}
use Rattle.tables.specs.Editions.{has_quota}
use Rattle.tables.specs.Steps.{is_idle}
use Rattle.text.specs.declared.Halt.{Halt}
use Rattle.text.specs.declared.Halt.TheVariants.{Going, Form, Idle}
use Rattle.text.specs.Inside.Control.{
  St,
  mk,
  going,
  up,
  turn_of,
  first_turn,
  seen_of,
  none_seen,
  stopped,
  due,
  next_key,
  opened,
  with_digit,
  dashed,
  next_line,
  list_no,
  pre_list,
  eff_list,
  ends_operator,
  run_none,
  run_zero,
  run_on,
  part_key,
  part_number,
  part_after_dash,
  field_pre_var,
  field_eff_var,
  field_class,
  field_share,
  field_mark,
  field_end,
}
use Rattle.text.specs.Inside.Fields.{
  key_byte,
  width,
  times,
  noted,
  last_class,
  last_var,
  fault,
  stored,
  kind,
  kind_row,
  kind_var,
  kind_val,
  kind_cost,
  kind_class,
  kind_share,
  kind_mark,
}

-- a keyword's last byte
abbrev pub equals : ℕ
equals = code "="

unfoldable pub in_key : Ctrl → ℕ → Ctrl
in_key c b =
    cond (eqb b (key_byte c.spot.field c.spot.key)) (cond (eqb b equals) (opened c) (next_key c)) (stopped c Form)

-- a digit run's value, however long, capped above every range
abbrev pub value_cap : ℕ
value_cap = 4294967295

unfoldable pub more : ℕ → ℕ → ℕ
more v d = min (10 * v + d) value_cap

-- the run with one digit more: after a single 0 none may come
abbrev pub run_with : ℕ → ℕ → ℕ
run_with r d = cond (eqb (r + d) 0) run_zero run_on

unfoldable pub digit_read : Ctrl → ℕ → Ctrl
digit_read c d =
    cond (eqb c.digits.run run_zero) (stopped c Form) (with_digit c (run_with c.digits.run d) (more c.digits.val d))

-- the sign x must stand here, and then n is the control
unfoldable pub sign : Ctrl → ℕ → ℕ → Ctrl → Ctrl
sign c b x n = cond (eqb b x) n (stopped c Form)

-- an operator's effects are over, and its mark is due
unfoldable pub mark_due : Ctrl → Bool
mark_due c = cond (eqb (list_no c.spot.field) eff_list) (has_quota c.counts.edition) false

-- an operator's last field is over, and it is idle
unfoldable pub idle_here : Ctrl → List ℕ → Bool
idle_here c w = cond (ends_operator c.spot.field) (is_idle c.counts.vars w c.spot.row) false

-- the end of a list of facts, of the dash that stands for an empty list, or of a mark: an idle operator is told before the byte is judged
unfoldable pub list_end : Ctrl → List ℕ → ℕ → Ctrl
list_end c w b =
    cond (eqb (list_no c.spot.field) pre_list)
    (sign c b semicolon (due c field_eff_var first_turn none_seen))
    (cond (mark_due c)
    (sign c b semicolon (due c field_mark first_turn none_seen))
    (cond (idle_here c w) (stopped c Idle) (sign c b line_end (next_line c))))

-- the byte after a class
unfoldable pub after_class : Ctrl → List ℕ → ℕ → Ctrl
after_class c w b =
    cond (last_class c w)
    (cond (last_var c)
    (sign c b line_end (next_line c))
    (sign c b slash (due c field_class (turn_of (up c.turn.var) 0 0) (seen_of 0 (times c.seen.prod (width c.seen.mask))))))
    (sign c b comma (due c field_class (turn_of c.turn.var 0 (up c.turn.item)) c.seen))

unfoldable pub after_var : Ctrl → ℕ → Ctrl
after_var c b =
    cond (last_var c)
    (sign c b line_end (next_line c))
    (sign c b comma (due c c.spot.field (turn_of (up c.turn.var) 0 0) none_seen))

-- the byte after a fact's value: a comma means one more fact, with a later variable
abbrev pub next_fact : Ctrl → Ctrl
next_fact c = due c (c.spot.field - 1) (turn_of 0 (up c.turn.var) 0) none_seen

unfoldable pub after_value : Ctrl → List ℕ → ℕ → Ctrl
after_value c w b = cond (eqb b comma) (next_fact c) (list_end c w b)

unfoldable pub after_share : Ctrl → ℕ → Ctrl
after_share c b =
    cond (eqb (up c.turn.item) c.counts.ops)
    (sign c b line_end (next_line c))
    (sign c b comma (due c field_share (turn_of 0 0 (up c.turn.item)) none_seen))

-- the byte after a number, which is kept in the area
unfoldable pub after_number : Ctrl → List ℕ → ℕ → Ctrl
after_number c w b =
    cond (eqb (kind c.spot.field) kind_row)
    (after_var c b)
    (cond (eqb (kind c.spot.field) kind_var)
    (sign c b colon (due c (up c.spot.field) (turn_of c.digits.val 0 0) none_seen))
    (cond (eqb (kind c.spot.field) kind_val)
    (after_value c w b)
    (cond (eqb (kind c.spot.field) kind_cost)
    (sign c b semicolon (due c field_pre_var first_turn none_seen))
    (cond (eqb (kind c.spot.field) kind_class)
    (after_class c w b)
    (cond (eqb (kind c.spot.field) kind_share)
    (after_share c b)
    (cond (eqb (kind c.spot.field) kind_mark) (list_end c w b) (sign c b line_end (next_line c))))))))

-- a byte that is no digit ends the run: its fault stops the reading, else the number is kept and the byte judged
unfoldable pub closed : Ctrl → List ℕ → ℕ → St
closed c w b =
    cond (going (fault c w)) (mk (after_number (noted c) (stored c w) b) (stored c w)) (mk (stopped c (fault c w)) w)

-- a dash where a list of facts may begin: neither a digit of the number nor a fact of the list stands before
abbrev pub nothing_read : Ctrl → Bool
nothing_read c = cond (eqb c.digits.run run_none) (eqb c.turn.least 0) false

unfoldable pub dash_here : Ctrl → ℕ → Bool
dash_here c b = cond (eqb b dash) (cond (eqb (kind c.spot.field) kind_var) (nothing_read c) false) false

unfoldable pub at_number : Ctrl → List ℕ → ℕ → St
at_number c w b =
    cond (is_digit b) (mk (digit_read c (b - 48)) w) (cond (dash_here c b) (mk (dashed c) w) (closed c w b))

-- the same by what stands before the byte, in the order in which the code asks: whether a list of facts or an operator's mark is over, what is kept of a run, the byte after it
unfoldable pub list_over : Ctrl → ℕ → Bool
list_over c b =
    cond (eqb c.spot.part part_after_dash) true
    (cond (eqb (kind c.spot.field) kind_val) (not (eqb b comma)) (eqb (kind c.spot.field) kind_mark))

unfoldable pub after_part : Ctrl → List ℕ → ℕ → Ctrl
after_part c w b = cond (eqb c.spot.part part_after_dash) (list_end c w b) (after_number c w b)

unfoldable pub run_fault : Ctrl → List ℕ → Halt
run_fault c w = cond (eqb c.spot.part part_number) (fault c w) Going

unfoldable pub run_kept : Ctrl → List ℕ → St
run_kept c w = cond (eqb c.spot.part part_number) (mk (noted c) (stored c w)) (mk c w)

unfoldable pub part_closed : Ctrl → List ℕ → ℕ → St
part_closed c w b = cond (eqb c.spot.part part_number) (closed c w b) (mk (after_part c w b) w)

unfoldable pub in_value : Ctrl → List ℕ → ℕ → St
in_value c w b = cond (eqb c.spot.part part_number) (at_number c w b) (mk (after_part c w b) w)

unfoldable pub live : Ctrl → List ℕ → ℕ → St
live c w b =
    cond (eqb c.spot.part part_key)
    (mk (in_key c b) w)
    (cond (eqb c.spot.part part_number)
    (at_number c w b)
    (cond (eqb c.spot.part part_after_dash) (mk (list_end c w b) w) (mk (sign c b dash (dashed c)) w)))

-- ONE BYTE; a reading that has stopped stays as it is
unfoldable pub byte_read : St → ℕ → St
byte_read s b = cond (going s.ctrl.halt) (live s.ctrl s.area b) s

-- the bytes of a piece, one after the other
unfoldable pub feed : St → List ℕ → St
feed s [] = s
feed s (b ∷ t) = feed (byte_read s b) t

-- THE END OF THE TEXT: where not all lines were read it is as a byte that fits nowhere
abbrev pub no_byte : ℕ
no_byte = 255

unfoldable pub ended : St → St
ended s = cond (eqb s.ctrl.spot.field field_end) s (byte_read s no_byte)
