-- `writer::pen::Pen::put_quota` meets its contract: by whether the edition has a quota. Assumes nothing.
use Rattle.std.proofs.Common.{ℕ, ap}
use Rattle.grammar.specs.Spelling.{digits, keyed}
use Rattle.writer.proofs.Pens.{nothing, so}
use Rattle.writer.proofs.Parts.{second_spelled, first_spelled}
use Rattle.writer.proofs.pen.Pen.put_quota.Goals as goal

pub returns-then-c-eq-QUOTA_EDITION : goal.returns-then-c-eq-QUOTA_EDITION
unfolding keyed
returns-then-c-eq-QUOTA_EDITION c =
    so c.put_count.ensures (second_spelled _ _ _ c.if-c-eq-QUOTA_EDITION.true (ap (λ (q : ℕ). keyed "quota=" (digits q)) c.quota_of.ensures))

pub returns-else-c-eq-QUOTA_EDITION : goal.returns-else-c-eq-QUOTA_EDITION
returns-else-c-eq-QUOTA_EDITION c = so (nothing _) (first_spelled _ _ c.if-c-eq-QUOTA_EDITION.false)
