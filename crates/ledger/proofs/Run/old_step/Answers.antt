-- `Run::old_step` meets its contract: the logged operator decides. Assumes nothing.
use Rattle.std.proofs.Common.{arith}
use Rattle.meaning.specs.Limits.{most_steps}
use Rattle.ledger.proofs.Answers.{old_other, old_same}
use Rattle.ledger.proofs.Run.old_step.Goals as goal

pub bounds-self-number : goal.bounds-self-number
unfolding most_steps
bounds-self-number c = omega (arith, c.requires.2)

pub returns-then-self-number : goal.returns-then-self-number
returns-then-self-number c = old_other _ _ _ c.if-self-number.true

pub returns : goal.returns
returns c = old_same _ _ _ c.if-self-number.false
