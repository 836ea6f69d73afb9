-- `writer::pen::Pen::put_mark` meets its contract: by whether the edition has marks. Assumes nothing.
use Rattle.std.proofs.Common.{ℕ, ◌∷◌, ap}
use Rattle.grammar.specs.Fields.{semicolon}
use Rattle.grammar.specs.Spelling.{digits}
use Rattle.writer.proofs.Pens.{nothing, after, so}
use Rattle.writer.proofs.Parts.{second_spelled, first_spelled}
use Rattle.writer.proofs.pen.Pen.put_mark.Goals as goal

pub returns-then-t-eq-QUOTA_EDITION : goal.returns-then-t-eq-QUOTA_EDITION
returns-then-t-eq-QUOTA_EDITION c =
    so (after c.put.ensures c.put_number.ensures)
    (second_spelled _ _ _ c.if-t-eq-QUOTA_EDITION.true (ap (λ (x : ℕ). semicolon ∷ digits x) c.mark_of.ensures))

pub returns-else-t-eq-QUOTA_EDITION : goal.returns-else-t-eq-QUOTA_EDITION
returns-else-t-eq-QUOTA_EDITION c = so (nothing _) (first_spelled _ _ c.if-t-eq-QUOTA_EDITION.false)
