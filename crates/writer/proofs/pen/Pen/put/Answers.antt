-- `writer::pen::Pen::put` meets its contract. Assumes nothing.
use Rattle.std.proofs.Common.{refl}
use Rattle.writer.proofs.Pens.{byte_put, full}
use Rattle.writer.proofs.pen.Pen.put.Goals as goal

pub returns-then-at-self : goal.returns-then-at-self
returns-then-at-self c = record { writes = byte_put _ _ _ c.if-at-self.true; same_buffer = refl }

pub returns-else-at-self : goal.returns-else-at-self
returns-else-at-self c = record { writes = full _ _ _ c.if-at-self.false; same_buffer = refl }
