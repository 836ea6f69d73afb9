-- `walk::step_from` meets its contract: where the operator may run, the step leads to the number of the values after it. Assumes nothing.
use Rattle.sweep.proofs.Walking.{step_runs, step_stops}
use Rattle.sweep.proofs.walk.step_from.Goals as goal

pub returns-then-may_run : goal.returns-then-may_run
returns-then-may_run c =
    step_runs c.args.c c.args.facts.now c.args.s.now c.args.o.0 c.may_run.result c.may_run.ensures _ _ c.if-may_run.true c.eff_row.ensures c.number_after.ensures

pub returns-else-may_run : goal.returns-else-may_run
returns-else-may_run c =
    step_stops c.args.c c.args.facts.now c.args.s.now c.args.o.0 c.may_run.result c.may_run.ensures c.if-may_run.false
