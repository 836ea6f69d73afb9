-- `show` meets its contract: one law for each way through it. Assumes nothing.
use Rattle.quick.proofs.Finishing.{show_low, show_none}
use Rattle.quick.proofs.show.Goals as goal

pub returns-then-label-lt-NO_LABEL : goal.returns-then-label-lt-NO_LABEL
returns-then-label-lt-NO_LABEL c = show_low c.args.label c.if-label-lt-NO_LABEL.true

pub returns-else-label-lt-NO_LABEL : goal.returns-else-label-lt-NO_LABEL
returns-else-label-lt-NO_LABEL c = show_none c.args.label c.if-label-lt-NO_LABEL.false
