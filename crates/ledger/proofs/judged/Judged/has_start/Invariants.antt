-- Every place passed so far is one of a start.
use Rattle.std.proofs.Common.{◌≡◌, true}
use Rattle.meaning.specs.Views.{every}
use Rattle.ledger.specs.Ledger.{starts_at}
use Rattle.ledger.proofs.judged.Judged.has_start.Given as goal

abbrev pub invariant-loop-v : goal.invariant-loop-v
invariant-loop-v l = every (starts_at l.self.tables.counts l.self.tables.facts.now l.start) l.v ≡ true
