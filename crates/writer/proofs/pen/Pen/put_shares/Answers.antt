-- `writer::pen::Pen::put_shares` meets its contract: the numbers are those of the table. Assumes nothing.
use Rattle.std.proofs.Common.{rules}
use Rattle.tables.specs.Layout.{share_at}
use Rattle.writer.proofs.pen.Pen.put_shares.Goals as goal

pub returns : goal.returns
returns c = c.put_numbers.ensures (share_at c.args.shares.now c.args.m) (λ i x h p. search rules)
