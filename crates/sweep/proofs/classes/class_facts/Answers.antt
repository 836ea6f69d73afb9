-- `classes::class_facts` meets its contract: the numbers of classes of the variables passed so far are in the first row. Assumes nothing.
use Rattle.std.proofs.Common.{◌<◌, length, arith}
use Rattle.sweep.proofs.Makes.{made_more, made_end}
use Rattle.sweep.proofs.Classing.{classed}
use Rattle.sweep.proofs.classes.class_facts.Goals as goal

pub loop-v-preserved : goal.loop-v-preserved
loop-v-preserved c =
    let l = c.loop-v in
    let inside : l.v < length l.t = omega (arith, l.invariant.size, c.seen_facts-t.ensures.0, c.loop-v-test.true, c.requires.0.vars.1) in
    made_more l.invariant inside c.class_count.ensures

pub returns : goal.returns
returns c =
    let x = c.args in
    let l = c.loop-v in
    classed x.c x.facts.now x.m c.seen_facts-t.result l.t c.requires.0.vars.1 c.seen_facts-t.ensures.1
    (made_end l.invariant (omega (arith, l.auto.v-end)) c.loop-v-test.false)
