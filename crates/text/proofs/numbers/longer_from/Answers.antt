-- One digit more.
use Rattle.std.proofs.Common.{◌∙◌, refl, arith, rules}
use Rattle.text.proofs.Onward.{digit_more}
use Rattle.text.proofs.numbers.longer_from.Goals as goal

pub loop-d-init : goal.loop-d-init
loop-d-init c = record { on = omega arith; within = search rules; grows = omega arith; same = λ k w. refl }

pub loop-d-preserved : goal.loop-d-preserved
loop-d-preserved c =
    let run = c.loop-d.run in
    let so = c.loop-d.invariant in
    let here = c.in-Some.ensures in
    let room = here.0.room in
    rw (← here.1)
    (record { on = omega (arith, so.on); within = omega arith; grows = omega (arith, so.grows); same = λ k w. digit_more _ run.at run.val here.0 k w ∙ so.same k w })
