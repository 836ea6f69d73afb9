-- `write_distances` meets its contract: the places passed so far have what their labels show. Assumes nothing.
use Rattle.std.proofs.Common.{arith}
use Rattle.maps.proofs.Makes.{made_none, made_more, made_end}
use Rattle.quick.proofs.write_distances.Goals as goal

pub loop-a-init : goal.loop-a-init
loop-a-init c = made_none

pub loop-a-preserved : goal.loop-a-preserved
loop-a-preserved c = made_more c.loop-a.invariant (omega (arith, c.loop-a-test.true, c.loop-a.auto.out)) c.show.ensures

pub returns : goal.returns
returns c = made_end c.loop-a.invariant (omega (arith, c.requires.0, c.loop-a.auto.a-end, c.loop-a.auto.out)) (omega (arith, c.requires.0, c.loop-a-test.false, c.loop-a.auto.out))
