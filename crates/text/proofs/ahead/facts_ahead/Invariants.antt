-- What was read so far is as the contract says, and a byte is left.
use Rattle.std.proofs.Common.{◌≤◌, ◌<◌, ◌-◌, length}
use Rattle.text.specs.Inside.Ahead.{FactsRead}
use Rattle.text.proofs.ahead.facts_ahead.Given as goal

abbrev pub invariant-loop-f : goal.invariant-loop-f
invariant-loop-f l =
    record {
      on : l.initial.at ≤ l.at;
      within : l.at < length l.s;
      read : FactsRead l.s l.place l.vars l.initial.at l.initial.next l.initial.w l.at l.next l.w;
    }

abbrev pub decreases-loop-f : goal.decreases-loop-f
decreases-loop-f l = length l.s - l.at
