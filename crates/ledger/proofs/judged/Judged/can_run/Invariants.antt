-- What the operator asks of the variables passed so far holds.
use Rattle.std.proofs.Common.{◌≡◌, true}
use Rattle.meaning.specs.Views.{every}
use Rattle.tables.specs.Layout.{pre_row}
use Rattle.tables.specs.Steps.{says_of}
use Rattle.ledger.proofs.judged.Judged.can_run.Given as goal

abbrev pub invariant-loop-v : goal.invariant-loop-v
invariant-loop-v l = every (says_of l.self.tables.facts.now (pre_row l.fn.op.0) l.fn.state) l.v ≡ true
