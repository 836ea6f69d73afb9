-- What was read so far is as the contract says, and a byte is left.
use Rattle.std.proofs.Common.{◌≤◌, ◌<◌, ◌-◌, length}
use Rattle.text.specs.Inside.Ahead.{SharesRead}
use Rattle.text.proofs.ahead.shares_ahead.Given as goal

abbrev pub invariant-loop-r : goal.invariant-loop-r
invariant-loop-r l =
    record {
      on : l.initial.at ≤ l.at;
      within : l.at < length l.s;
      read : SharesRead l.s l.row l.ops l.initial.at l.initial.next l.initial.w l.at l.next l.w;
    }

abbrev pub decreases-loop-r : goal.decreases-loop-r
decreases-loop-r l = length l.s - l.at
