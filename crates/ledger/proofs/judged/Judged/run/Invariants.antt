-- The variables passed so far have their values after the effects, the others as before.
use Rattle.std.proofs.Common.{◌≡◌, ◌++◌, drop}
use Rattle.tables.specs.Layout.{eff_row}
use Rattle.tables.specs.Steps.{overwritten, value_after}
use Rattle.ledger.proofs.judged.Judged.run.Given as goal

abbrev pub invariant-loop-v : goal.invariant-loop-v
invariant-loop-v l = (l.x-items ++ drop l.self.tables.counts.vars l.fn.state) ≡ overwritten (value_after l.self.tables.facts.now (eff_row l.fn.op.0) l.fn.state) l.fn.state l.v
