-- What stands in the places passed.
use Rattle.text.specs.Inside.Area.{threes}
use Rattle.text.specs.Inside.End.{FilledTo}
use Rattle.text.proofs.fill.fill_words.Given as goal

abbrev pub invariant-loop-i : goal.invariant-loop-i
invariant-loop-i l = FilledTo (threes l.n l.at l.w) l.initial.out l.out l.i
