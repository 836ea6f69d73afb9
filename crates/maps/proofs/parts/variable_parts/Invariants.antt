-- What `parts::variable_parts` keeps true: the parts of the values passed so far are set.
use Rattle.maps.specs.Inside.Parts.{VariableParts}
use Rattle.maps.proofs.parts.variable_parts.Given as goal

abbrev pub invariant-loop-x : goal.invariant-loop-x
invariant-loop-x l = VariableParts l.c l.facts l.v l.x l.stride l.initial.parts.places l.parts.places
