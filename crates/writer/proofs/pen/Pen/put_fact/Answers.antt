-- `writer::pen::Pen::put_fact` meets its contract: a number, a colon, a number. Assumes nothing.
use Rattle.grammar.specs.Spelling.{fact}
use Rattle.writer.proofs.Pens.{after}
use Rattle.writer.proofs.pen.Pen.put_fact.Goals as goal

pub returns : goal.returns
unfolding fact
returns c = after c.put_number.ensures (after c.put.ensures c.put_number-2.ensures)
