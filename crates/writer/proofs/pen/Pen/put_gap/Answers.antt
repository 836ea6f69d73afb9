-- `writer::pen::Pen::put_gap` meets its contract: by whether something is left. Assumes nothing.
use borrow.Author.Rules.{rules}
use Rattle.writer.proofs.Pens.{nothing, so}
use Rattle.writer.proofs.Parts.{gap_none, gap_some}
use Rattle.writer.proofs.pen.Pen.put_gap.Goals as goal

pub returns-then-more : goal.returns-then-more
returns-then-more c = so c.put.ensures (gap_some _ _ (search rules))

pub returns-else-more : goal.returns-else-more
returns-else-more c = so (nothing _) (gap_none _ _ (search rules))
