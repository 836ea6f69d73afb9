-- `rows::lay_variable` meets its contract: the rows of the values from x on are made, and those below them are as they were. Assumes nothing.
use Rattle.std.proofs.Common.{refl, arith}
use Rattle.maps.proofs.Laying.{variable_more, value_at}
use Rattle.maps.proofs.rows.lay_variable.Goals as goal

pub loop-x-preserved : goal.loop-x-preserved
loop-x-preserved c = variable_more c.loop-x.invariant (omega (arith, c.loop-x-test.true)) refl (value_at c.lay_value.ensures)
