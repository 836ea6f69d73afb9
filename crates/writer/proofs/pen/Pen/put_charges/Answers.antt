-- `writer::pen::Pen::put_charges` meets its contract: by whether there are operators. Assumes nothing.
use Rattle.writer.proofs.Pens.{so}
use Rattle.writer.proofs.Parts.{shares_none, shares_some}
use Rattle.writer.proofs.pen.Pen.put_charges.Goals as goal

pub returns-then-t-eq0 : goal.returns-then-t-eq0
returns-then-t-eq0 c = so c.put.ensures (shares_none _ _ c.if-t-eq0.true)

pub returns-else-t-eq0 : goal.returns-else-t-eq0
returns-else-t-eq0 c = so c.put_shares.ensures (shares_some _ _ c.if-t-eq0.false)
