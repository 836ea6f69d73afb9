-- `run::start` meets its contract: the goals among the states passed so far are set, whatever operators cost. Assumes nothing.
use Rattle.std.proofs.Common.{[], ◌<◌, refl, inl, inr, arith}
use Rattle.maps.specs.Inside.Walks.{states_of}
use Rattle.quick.proofs.Working.{may_offer, looked_run}
use Rattle.quick.proofs.Running.{run_upto}
use Rattle.quick.proofs.run.start.Goals as goal
use Rattle.quick.proofs.run.start.Goals.{then-met, else-met}

pub offer-requires : goal.offer-requires
offer-requires c =
    let l = c.loop-a in
    let inside : l.a < states_of c.args.map.now.c c.args.map.now.facts.now = omega (arith, c.loop-a-test.true, c.requires.walkable.1) in
    -- the task's graph, where nothing costs, is one of them
    let may = may_offer (l.invariant []) c.requires.walkable.0.few l.a inside in
    record { a_in_bounds = may.0; tree = may.1 }

pub loop-a-preserved : goal.loop-a-preserved
loop-a-preserved c prices =
    let l = c.loop-a in
    let x = c.args.map.now in
    let few = c.requires.walkable.0.few in
    let inside : l.a < states_of x.c x.facts.now = omega (arith, c.loop-a-test.true, c.requires.walkable.1) in
    let goal = c.requires.walkable.2.goal l.a inside in
    elim c.if-met.branch [
      | then-met w ↦ rw (w.labels-is, w.keys-is, w.best-is) (looked_run (inl (omega (arith, w.if-met.true), w.offer.ensures)) (l.invariant prices) few inside goal)
      | else-met w ↦ rw (w.labels-is, w.keys-is, w.best-is) (looked_run (inr (λ e. omega (arith, w.if-met.false), refl, refl, refl)) (l.invariant prices) few inside goal)
    ]

pub returns : goal.returns
returns c prices = run_upto (omega (arith, c.loop-a-test.false, c.loop-a.auto.a-end)) (c.loop-a.invariant prices)
