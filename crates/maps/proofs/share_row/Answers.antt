-- `share_row` meets its contract: the shares of the operators passed so far are in the row. Assumes nothing.
use Rattle.std.proofs.Common.{arith}
use Rattle.maps.proofs.Makes.{made_none, made_more}
use Rattle.maps.proofs.share_row.Goals as goal

pub loop-o-init : goal.loop-o-init
loop-o-init c = made_none

pub loop-o-preserved : goal.loop-o-preserved
loop-o-preserved c = made_more c.loop-o.invariant (omega arith) c.share_at.ensures

pub returns : goal.returns
returns c = λ o h. c.loop-o.invariant.made o (omega (arith, c.loop-o-test.false))
