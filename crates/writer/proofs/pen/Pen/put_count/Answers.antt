-- `writer::pen::Pen::put_count` meets its contract: its parts one after another. Assumes nothing.
use Rattle.writer.proofs.Pens.{after}
use Rattle.writer.proofs.pen.Pen.put_count.Goals as goal

pub returns : goal.returns
returns c = after (after c.put_word.ensures c.put_number.ensures) c.put.ensures
