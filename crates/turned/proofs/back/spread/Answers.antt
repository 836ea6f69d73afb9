-- `back::spread` meets its contract: the places passed so far are spread. Assumes nothing.
use Rattle.std.proofs.Common.{ap, ◌+◌, arith}
use Rattle.turned.proofs.Turning.{spread_more}
use Rattle.turned.proofs.back.spread.Goals as goal

pub loop-j-preserved : goal.loop-j-preserved
loop-j-preserved c =
    let pre = c.requires.le_len in
    spread_more c.loop-j.invariant pre.0 c.loop-j.auto.j (omega (arith, c.loop-j-test.true, pre.4, c.loop-j.auto.list)) (ap (λ x. x + c.args.stride) c.from.ensures)
