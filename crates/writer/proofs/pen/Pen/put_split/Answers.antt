-- `writer::pen::Pen::put_split` meets its contract: a line a turn. Assumes nothing.
use Rattle.writer.proofs.Parts.{lines_begin, lines_go_on, lines_end}
use Rattle.writer.proofs.pen.Pen.put_split.Goals as goal

pub loop-m-init : goal.loop-m-init
loop-m-init c = lines_begin _ _ _

pub loop-m-preserved : goal.loop-m-preserved
loop-m-preserved c = lines_go_on _ _ _ c.loop-m.invariant c.loop-m-test.true c.put_share.ensures

pub returns : goal.returns
returns c = lines_end _ _ _ c.loop-m.invariant c.loop-m-test.false
