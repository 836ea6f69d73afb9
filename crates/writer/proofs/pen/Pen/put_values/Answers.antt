-- `writer::pen::Pen::put_values` meets its contract: its parts one after another. Assumes nothing.
use Rattle.writer.proofs.Pens.{after}
use Rattle.writer.proofs.pen.Pen.put_values.Goals as goal

pub returns : goal.returns
returns c = after (after c.put_word.ensures c.put_row.ensures) c.put.ensures
