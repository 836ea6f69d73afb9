-- What `walk::number_after` keeps true: the values of the places passed so far are in the number.
use Rattle.tables.specs.Layout.{dom_at}
use Rattle.tables.specs.Steps.{value_after}
use Rattle.sweep.proofs.Walking.{Numbered}
use Rattle.sweep.proofs.walk.number_after.Given as goal

abbrev pub invariant-loop-v : goal.invariant-loop-v
invariant-loop-v l = Numbered (dom_at l.facts) (value_after l.facts l.row l.s) l.vars l.v l.n.stride l.n.value
