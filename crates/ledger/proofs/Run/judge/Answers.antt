-- `Run::judge` meets its contract: the tests in the order of the definition. Assumes nothing.
use Rattle.std.proofs.Common.{arith}
use Rattle.meaning.specs.Limits.{most_steps}
use Rattle.ledger.proofs.Answers.{judged_beyond, judged_next, judged_none, judged_old, judged_zero}
use Rattle.ledger.proofs.Run.judge.Goals as goal
use Rattle.ledger.proofs.Run.judge.Goals.{then-number-eq0-via-then-number-eq0, then-number-eq0-via-else-number-eq0+then-self-number}

pub returns-then-t-op : goal.returns-then-t-op
returns-then-t-op c = judged_none _ _ _ _ _ c.if-t-op.true

pub overflow_add-self : goal.overflow_add-self
unfolding most_steps
overflow_add-self c = omega (arith, c.requires)

pub returns-then-number-eq0 : goal.returns-then-number-eq0
returns-then-number-eq0 c =
    elim c.then-number-eq0.branch [
      | then-number-eq0-via-then-number-eq0 w ↦ judged_zero _ _ _ _ _ c.if-t-op.false w.if-number-eq0.true
      | then-number-eq0-via-else-number-eq0+then-self-number w ↦ judged_beyond _ _ _ _ _ c.if-t-op.false w.if-number-eq0.false w.if-self-number.true
    ]

pub returns-then-number-self : goal.returns-then-number-self
returns-then-number-self c = judged_old _ _ _ _ _ c.if-t-op.false c.if-number-eq0.false _ c.if-number-self.true c.old_step.ensures

pub returns : goal.returns
returns c = judged_next _ _ _ _ _ c.if-t-op.false c.if-number-eq0.false _ c.if-self-number.false c.if-number-self.false c.next_step.ensures
