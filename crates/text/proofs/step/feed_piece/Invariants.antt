-- What is left of the piece takes the machine where the whole piece takes it.
use Rattle.std.proofs.Common.{◌≡◌, ◌≤◌, ◌-◌, length, drop}
use Rattle.text.specs.Inside.Control.{mk}
use Rattle.text.specs.Inside.Steps.{feed}
use Rattle.text.proofs.step.feed_piece.Given as goal

abbrev pub invariant-loop-i : goal.invariant-loop-i
invariant-loop-i l = record { within : l.i ≤ length l.s; same : feed (mk l.k l.w) (drop l.i l.s) ≡ feed (mk l.initial.k l.initial.w) l.s }

abbrev pub decreases-loop-i : goal.decreases-loop-i
decreases-loop-i l = length l.s - l.i
