-- What `rows::lay_value` keeps true: the rows passed so far are made, and those still to be read are as they were.
use Rattle.maps.specs.Inside.Rows.{ValueLaid}
use Rattle.maps.proofs.rows.lay_value.Given as goal

abbrev pub invariant-loop-i : goal.invariant-loop-i
invariant-loop-i l = ValueLaid l.len l.base l.part 0 l.i l.initial.t l.t
