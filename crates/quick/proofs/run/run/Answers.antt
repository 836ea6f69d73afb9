-- `run::run` meets its contract: between two turns nothing is pending, and a turn takes a state that waits, so that the sum of weights falls. Assumes nothing.
use Rattle.std.proofs.Common.{arith}
use Rattle.quick.proofs.Running.{run_nothing}
use Rattle.quick.proofs.Taking.{none_waits, next_waits, next_held, next_run, next_less}
use Rattle.quick.proofs.run.run.Goals as goal

pub bounds-labels-b : goal.bounds-labels-b
bounds-labels-b c =
    let l = c.loop-key in
    omega (arith, (next_waits l.invariant.run c.requires.ready.walk.few l.invariant.least c.loop-key-test.true).0, l.invariant.run.size_L)

pub relax_into-requires-clause-ready : goal.relax_into-requires-clause-ready
relax_into-requires-clause-ready c =
    let l = c.loop-key in
    let ready = c.requires.ready in
    let few = ready.walk.few in
    let test = c.loop-key-test.true in
    let waits = (next_waits l.invariant.run few l.invariant.least test).0 in
    (ready, omega (arith, ready.states, waits), next_held l.invariant.run few l.invariant.least test c.take.ensures)

pub relax_into-requires-clause-run : goal.relax_into-requires-clause-run
relax_into-requires-clause-run c =
    let l = c.loop-key in
    next_run l.invariant.run c.requires.ready.walk.few l.invariant.least c.loop-key-test.true c.take.ensures

pub loop-key-smaller : goal.loop-key-smaller
loop-key-smaller c =
    let l = c.loop-key in
    next_less l.invariant.run c.requires.ready.walk.few l.invariant.least c.loop-key-test.true c.take.ensures _ _ c.relax_into.ensures.fell

pub loop-key-preserved : goal.loop-key-preserved
loop-key-preserved c = record { run = run_nothing c.relax_into.ensures.run; least = omega arith }

pub returns-clause-none_waits : goal.returns-clause-none_waits
returns-clause-none_waits c =
    let l = c.loop-key in
    none_waits l.invariant.run c.requires.ready.walk.few l.invariant.least c.loop-key-test.false
