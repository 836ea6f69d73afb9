-- The number is kept and then the byte judged, or there is a fault.
use Rattle.std.proofs.Common.{◌∙◌, sym, ap}
use Rattle.text.proofs.Parts.{closed_goes, closed_stops}
use Rattle.text.specs.Inside.Control.{going}
use Rattle.text.proofs.step.close_part.Goals as goal

pub returns-then-goes_on : goal.returns-then-goes_on
returns-then-goes_on c =
    let goes = ap going (sym c.run_fault-fault.ensures) ∙ sym c.goes_on.ensures ∙ c.if-goes_on.true in
    simp c.after_part.ensures (closed_goes _ _ _ _ _ goes c.keep_run.ensures)

pub returns-else-goes_on : goal.returns-else-goes_on
returns-else-goes_on c =
    let stops = ap going (sym c.run_fault-fault.ensures) ∙ sym c.goes_on.ensures ∙ c.if-goes_on.false in
    simp (c.stop.ensures, c.run_fault-fault.ensures) (closed_stops _ _ _ stops)
