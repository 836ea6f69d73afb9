-- What `rows::lay_variable` keeps true: the rows of the values from x on are made, and those below them are as they were.
use Rattle.maps.specs.Inside.Rows.{VariableLaid}
use Rattle.maps.proofs.rows.lay_variable.Given as goal

abbrev pub invariant-loop-x : goal.invariant-loop-x
invariant-loop-x l = VariableLaid l.len l.k l.parts l.v l.x l.initial.t l.t
