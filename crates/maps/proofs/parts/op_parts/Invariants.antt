-- What `parts::op_parts` keeps true: the parts of the operators passed so far are set.
use Rattle.maps.specs.Inside.Parts.{OpParts}
use Rattle.maps.proofs.parts.op_parts.Given as goal

abbrev pub invariant-loop-o : goal.invariant-loop-o
invariant-loop-o l = OpParts l.o l.facts l.v l.x l.stride l.at l.initial.parts.places l.parts.places
