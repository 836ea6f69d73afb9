-- What `steps::row_holds` keeps true: what the row says of the variables passed so far holds.
use Rattle.std.proofs.Common.{◌≡◌, true}
use Rattle.meaning.specs.Views.{every}
use Rattle.tables.specs.Steps.{says_of}
use Rattle.tables.proofs.steps.row_holds.Given as goal

abbrev pub invariant-loop-v : goal.invariant-loop-v
invariant-loop-v l = every (says_of l.facts l.fn.row l.s) l.v ≡ true
