-- `writer::pen::Pen::put_said` meets its contract: nothing, or the comma and the fact. Assumes nothing.
use Rattle.writer.proofs.Pens.{nothing, after, so}
use Rattle.writer.proofs.Parts.{said_none, said_some}
use Rattle.writer.proofs.pen.Pen.put_said.Goals as goal

pub returns-in-Some : goal.returns-in-Some
returns-in-Some c = so (after c.put_comma.ensures c.put_fact.ensures) (said_some _ _ _ _ c.in-Some.ensures.0 c.in-Some.ensures.1)

pub returns-in_default : goal.returns-in_default
returns-in_default c = so (nothing _) (said_none _ _ _ c.in_default.ensures)
