-- `writer::pen::Pen::put_share` meets its contract: its parts one after another. Assumes nothing.
use Rattle.grammar.specs.Spelling.{keyed}
use Rattle.writer.proofs.Pens.{after}
use Rattle.writer.proofs.pen.Pen.put_share.Goals as goal

pub returns : goal.returns
unfolding keyed
returns c = after (after c.put_word.ensures c.put_charges.ensures) c.put.ensures
