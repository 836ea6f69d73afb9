-- What was read so far is as the contract says, and a byte is left.
use Rattle.std.proofs.Common.{◌≤◌, ◌<◌, ◌-◌, length}
use Rattle.text.specs.Inside.Ahead.{ClassesRead}
use Rattle.text.proofs.ahead.classes_ahead.Given as goal

abbrev pub invariant-loop-x : goal.invariant-loop-x
invariant-loop-x l =
    record {
      on : l.initial.at ≤ l.at;
      within : l.at < length l.s;
      read : ClassesRead l.s l.row l.var l.initial.at l.initial.next l.initial.mask l.initial.w l.at l.next l.mask l.w;
    }

abbrev pub decreases-loop-x : goal.decreases-loop-x
decreases-loop-x l = length l.s - l.at
