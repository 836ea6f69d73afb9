-- `rows::gather`: the records passed so far are laid.
use Rattle.std.proofs.Common.{◌≡◌}
use Rattle.records.specs.Records.{laid_of}
use Rattle.records.proofs.rows.gather.Given as goal

abbrev pub invariant-loop-o : goal.invariant-loop-o
invariant-loop-o l = l.laid ≡ laid_of l.rows l.o l.fn.t
