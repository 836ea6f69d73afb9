-- `classes::class_facts` meets its contract: the numbers of classes of the variables passed so far are in the first row. Assumes nothing.
use Rattle.std.proofs.Common.{arith}
use Rattle.maps.proofs.Makes.{made_none, made_more, made_end}
use Rattle.maps.proofs.Classing.{classed}
use Rattle.maps.proofs.classes.class_facts.Goals as goal

pub loop-v-init : goal.loop-v-init
loop-v-init c = made_none

pub bounds-t-v : goal.bounds-t-v
bounds-t-v c = omega (arith, c.loop-v-test.true, c.requires.0.vars.1)

pub loop-v-preserved : goal.loop-v-preserved
loop-v-preserved c =
    let room = c.seen_facts-t.ensures.0 in
    made_more c.loop-v.invariant (omega (arith, room, c.loop-v.invariant.size, c.loop-v-test.true, c.requires.0.vars.1)) c.class_count.ensures

pub returns : goal.returns
returns c =
    let a = c.args in
    let l = c.loop-v in
    classed a.c a.facts.now a.m c.seen_facts-t.result l.t c.requires.0.vars.1 c.seen_facts-t.ensures.1 (made_end l.invariant l.auto.v-end c.loop-v-test.false)
