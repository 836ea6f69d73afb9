-- `writer::pen::Pen::put_comma` meets its contract. Assumes nothing.
use Rattle.writer.specs.Inside.Pen.{comma_if}
use Rattle.writer.proofs.Pens.{nothing}
use Rattle.writer.proofs.pen.Pen.put_comma.Goals as goal

pub returns-then-some : goal.returns-then-some
unfolding comma_if
returns-then-some c = rw c.if-some.true c.put.ensures

pub returns-else-some : goal.returns-else-some
unfolding comma_if
returns-else-some c = rw c.if-some.false (nothing _)
