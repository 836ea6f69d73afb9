-- `Space::fill` meets its contract: the places passed so far say the costs over no steps. Assumes nothing.
use Rattle.std.proofs.Common.{◌<◌, ap, ◌∙◌, [], length, arith}
use Rattle.graph.specs.Least.{at_goal}
use Rattle.sweep.proofs.Makes.{made_more}
use Rattle.sweep.proofs.Walking.{goal_is}
use Rattle.sweep.proofs.space.Space.fill.Goals as goal

pub loop-a-preserved : goal.loop-a-preserved
loop-a-preserved c =
    let x = c.args.self.now in
    let l = c.loop-a in
    let inside : l.a < length l.t = omega (arith, l.invariant.size, c.requires, c.loop-a-test.true) in
    let goal_here = c.meets_goal.ensures ∙ goal_is x.c x.facts.now [] l.a c.digits-s.result c.digits-s.ensures in
    made_more l.invariant inside (c.start.ensures ∙ ap at_goal goal_here)
