-- `writer::pen::Pen::put_ops` meets its contract: a line a turn. Assumes nothing.
use Rattle.writer.proofs.Parts.{lines_begin, lines_go_on, lines_end}
use Rattle.writer.proofs.pen.Pen.put_ops.Goals as goal

pub loop-o-init : goal.loop-o-init
loop-o-init c = lines_begin _ _ _

pub loop-o-preserved : goal.loop-o-preserved
loop-o-preserved c = lines_go_on _ _ _ c.loop-o.invariant c.loop-o-test.true c.put_op.ensures

pub returns : goal.returns
returns c = lines_end _ _ _ c.loop-o.invariant c.loop-o-test.false
