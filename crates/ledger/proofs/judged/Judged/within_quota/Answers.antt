-- `Judged::within_quota` meets its contract: it is the test of a stored test, at their column. Assumes nothing.
use Rattle.std.proofs.Common.{sym, ◌∙◌}
use Rattle.ledger.proofs.Answers.{within_stored}
use Rattle.ledger.proofs.judged.Judged.within_quota.Goals as goal

pub returns : goal.returns
returns c = c.can_store.ensures ∙ sym (within_stored _ _ _ _)
