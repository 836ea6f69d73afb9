-- `Run::next_step` meets its contract: the tests in the order of the definition. Assumes nothing.
use Rattle.std.proofs.Common.{sym, ◌∙◌}
use Rattle.meaning.specs.Limits.{most_steps}
use Rattle.ledger.proofs.Answers.{next_full, next_not, next_beyond, next_go}
use Rattle.ledger.proofs.Run.next_step.Goals as goal

pub returns-then-self-ge-STEPS_MOST : goal.returns-then-self-ge-STEPS_MOST
unfolding most_steps
returns-then-self-ge-STEPS_MOST c = next_full _ _ _ _ _ c.if-self-ge-STEPS_MOST.true

pub returns-then-not-can_run : goal.returns-then-not-can_run
unfolding most_steps
returns-then-not-can_run c = next_not _ _ _ _ _ c.if-self-ge-STEPS_MOST.false (sym c.can_run.ensures ∙ c.if-not-can_run.true)

pub returns-then-not-within_quota : goal.returns-then-not-within_quota
unfolding most_steps
returns-then-not-within_quota c =
    next_beyond _ _ _ _ _ c.if-self-ge-STEPS_MOST.false (sym c.can_run.ensures ∙ c.if-not-can_run.false)
    (sym c.within_quota.ensures ∙ c.if-not-within_quota.true)

pub returns : goal.returns
unfolding most_steps
returns c =
    next_go _ _ _ _ _ c.if-self-ge-STEPS_MOST.false (sym c.can_run.ensures ∙ c.if-not-can_run.false)
    (sym c.within_quota.ensures ∙ c.if-not-within_quota.false)
