-- `writer::write` meets its contract: 8, the tables' fault, or the text, for which there is room. Assumes nothing.
use Rattle.scan.specs.Found.{clean}
use Rattle.std.proofs.Common.{ℕ, ◌≡◌, ◌≤◌, sym, ap, ap₂, ◌∙◌, List, length, rules, arith, Ok}
use Rattle.tables.specs.Layout.{Tables}
use Rattle.scan.specs.Scan.{tables_fault}
use Rattle.std.proofs.lemmas.Result.{err_from_is_err_and}
use Rattle.grammar.specs.Spelling.{text_of}
use Rattle.grammar.specs.Writing.{text_room, page, over}
use Rattle.grammar.proofs.Writing.{tables_small, text_short_lem, short_buffer, fault_told, tables_written}
use Rattle.writer.specs.declared.pen.Pen.{Pen}
use Rattle.writer.specs.Inside.Pen as inside
use Rattle.writer.specs.Inside.Pen.{pen, held, Puts}
use Rattle.writer.proofs.Pens.{pen_over}
use Rattle.writer.proofs.write.Goals as goal

-- a clean task's text, once the pen q has put it into the buffer b: the place after it, and what stands in the buffer
laid : (t : Tables) {p q : Pen} {b : List ℕ} → held p ≡ pen 0 b → Puts p (text_of t) q → text_room ≤ length b → tables_fault t ≡ clean
    → (q.at ≡ length (text_of t)) × (q.out.now ≡ over (text_of t) b)
laid t {b = b} d e h p =
    let l = rw d at e.writes.leaves ∙ pen_over b (text_of t) (omega (arith, text_short_lem t p)) in
    (ap (λ (q : inside.Pen). q.at) l, ap (λ (q : inside.Pen). q.bytes) l)

pub returns-then-out-lt-BYTES_MOST : goal.returns-then-out-lt-BYTES_MOST
returns-then-out-lt-BYTES_MOST c = sym (short_buffer _ _ c.if-out-lt-BYTES_MOST.true)

pub returns-in_err-tables_fault : goal.returns-in_err-tables_fault
returns-in_err-tables_fault c =
    let fault = err_from_is_err_and c.from_residual.result c.from_residual.ensures.1 in
    let told = fault_told _ _ c.if-out-lt-BYTES_MOST.false _ (sym c.tables_fault.ensures ∙ c.in_err-tables_fault.was) in
    rw (fault.1, fault.2) (sym told)

pub put_task-requires : goal.put_task-requires
put_task-requires c =
    let s = tables_small _ (sym c.tables_fault.ensures ∙ c.in_ok-tables_fault.was) in
    (s.vars, s.ops, s.maps)

pub overflow_cast-result : goal.overflow_cast-result
overflow_cast-result c =
    let none = sym c.tables_fault.ensures ∙ c.in_ok-tables_fault.was in
    let e = (laid _ c.new-pen.ensures.held c.put_task.ensures c.if-out-lt-BYTES_MOST.false none).0 in
    record { fits = omega (arith, text_short_lem _ none, e, c.place.ensures) }

pub returns : goal.returns
returns c =
    let none = sym c.tables_fault.ensures ∙ c.in_ok-tables_fault.was in
    let e = laid _ c.new-pen.ensures.held c.put_task.ensures c.if-out-lt-BYTES_MOST.false none in
    ap₂ (λ (n : ℕ) (o : List ℕ). page (Ok n) o) (c.place.ensures ∙ e.0) (search rules ∙ e.1) ∙ sym (tables_written _ _ c.if-out-lt-BYTES_MOST.false none)
