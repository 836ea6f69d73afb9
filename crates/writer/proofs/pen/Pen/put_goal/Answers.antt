-- `writer::pen::Pen::put_goal` meets its contract: its parts one after another. Assumes nothing.
use Rattle.grammar.specs.Spelling.{keyed}
use Rattle.writer.proofs.Pens.{after}
use Rattle.writer.proofs.pen.Pen.put_goal.Goals as goal

pub returns : goal.returns
unfolding keyed
returns c = after (after c.put_word.ensures c.put_facts.ensures) c.put.ensures
