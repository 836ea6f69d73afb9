-- What was seen so far and what is left decide together.
use Rattle.std.proofs.Common.{◌≡◌, ◌&&◌, drop}
use Rattle.ledger.specs.Ledger.{zeros}
use Rattle.ledger.proofs.all_zero.Given as goal

abbrev pub invariant-loop-x : goal.invariant-loop-x
invariant-loop-x l = zeros l.words ≡ (l.zero && zeros (drop l.x-index l.words))
