-- `writer::pen::Pen::put_row` meets its contract: the numbers are those of the table. Assumes nothing.
use Rattle.std.proofs.Common.{rules}
use Rattle.tables.specs.Layout.{row_at}
use Rattle.writer.proofs.pen.Pen.put_row.Goals as goal

pub returns : goal.returns
returns c = c.put_numbers.ensures (row_at c.args.facts.now c.args.row) (λ i x h p. search rules)
