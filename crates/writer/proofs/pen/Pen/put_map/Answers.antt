-- `writer::pen::Pen::put_map` meets its contract: its parts one after another. Assumes nothing.
use Rattle.grammar.specs.Spelling.{keyed}
use Rattle.writer.proofs.Pens.{after}
use Rattle.writer.proofs.pen.Pen.put_map.Goals as goal

pub returns : goal.returns
unfolding keyed
returns c = after (after c.put_word.ensures c.put_classes.ensures) c.put.ensures
