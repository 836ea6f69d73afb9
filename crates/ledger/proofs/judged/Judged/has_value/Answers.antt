-- `Judged::has_value` meets its contract: by whether the variable is one of the task. Assumes nothing.
use Rattle.ledger.proofs.Answers.{start_beyond, start_within}
use Rattle.ledger.proofs.judged.Judged.has_value.Goals as goal

pub returns-then-v-self : goal.returns-then-v-self
returns-then-v-self c = start_within _ _ _ _ _ c.if-v-self.true c.row_at.ensures

pub returns-else-v-self : goal.returns-else-v-self
returns-else-v-self c = start_beyond _ _ _ _ c.if-v-self.false
