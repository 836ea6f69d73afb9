-- `Judged::can_follow` meets its contract: of what can run the quota decides. Assumes nothing.
use Rattle.std.proofs.Common.{sym, ◌∙◌}
use Rattle.ledger.proofs.Answers.{follow_stuck, follow_quota}
use Rattle.ledger.proofs.judged.Judged.can_follow.Goals as goal

pub returns-then-can_run : goal.returns-then-can_run
returns-then-can_run c = follow_quota _ _ _ _ _ (sym c.can_run.ensures ∙ c.if-can_run.true) c.within_quota.ensures

pub returns-else-can_run : goal.returns-else-can_run
returns-else-can_run c = c.if-can_run.false ∙ follow_stuck _ _ _ _ (sym c.can_run.ensures ∙ c.if-can_run.false)
