-- The digits so far are as the contract says.
use Rattle.std.proofs.Common.{◌-◌, length}
use Rattle.text.specs.Inside.Ahead.{Longer}
use Rattle.text.proofs.numbers.longer_from.Given as goal

abbrev pub invariant-loop-d : goal.invariant-loop-d
invariant-loop-d l = Longer l.s l.initial.run.at l.initial.run.val l.run.at l.run.val

abbrev pub decreases-loop-d : goal.decreases-loop-d
decreases-loop-d l = length l.s - l.run.at
