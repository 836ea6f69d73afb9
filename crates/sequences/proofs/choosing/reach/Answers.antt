-- `choosing::reach` meets its contract: what is left of the list gives the rest of the answer. Assumes nothing.
use Rattle.std.proofs.Common.{◌∙◌, refl, arith}
use Rattle.tables.specs.Task.{held, task_of}
use Rattle.sequences.proofs.Walks.{goal_said, turn, some_ok, none_err, payable, storable, reached_first, reached_on, reached_refused, reached_end}
use Rattle.sequences.proofs.choosing.reach.Goals as goal

pub returns-then-meets_goal : goal.returns-then-meets_goal
returns-then-meets_goal c =
    let t = held c.args.t in
    reached_first (task_of t) c.loop-i.invariant (goal_said t c.loop-i.way.state c.meets_goal.ensures c.if-meets_goal.true)

pub returns-in_err-cost : goal.returns-in_err-cost
returns-in_err-cost c =
    let t = held c.args.t in
    c.from_residual.ensures
    ∙ reached_refused (task_of t) c.loop-i.invariant (goal_said t c.loop-i.way.state c.meets_goal.ensures c.if-meets_goal.false) c.loop-i-test.true
    c.step.ensures (none_err c.in_err-cost.ensures.value).1

pub go-requires-clause-op : goal.go-requires-clause-op
go-requires-clause-op c =
    let t = held c.args.t in
    (turn t c.requires.0 c.loop-i.invariant.size c.step.ensures (some_ok c.in_ok-cost.ensures.value)).op

pub go-requires-clause-stored : goal.go-requires-clause-stored
go-requires-clause-stored c =
    let t = held c.args.t in
    storable t c.requires.0 (turn t c.requires.0 c.loop-i.invariant.size c.step.ensures (some_ok c.in_ok-cost.ensures.value))

pub go-requires-clause-paid : goal.go-requires-clause-paid
go-requires-clause-paid c =
    let t = held c.args.t in
    payable c.loop-i.invariant (turn t c.requires.0 c.loop-i.invariant.size c.step.ensures (some_ok c.in_ok-cost.ensures.value)) c.loop-i-test.true
    c.requires.1

pub loop-i-preserved : goal.loop-i-preserved
loop-i-preserved c =
    let t = held c.args.t in
    let took = turn t c.requires.0 c.loop-i.invariant.size c.step.ensures (some_ok c.in_ok-cost.ensures.value) in
    rw (c.go.ensures.stored, c.go.ensures.paid, c.go.ensures.state)
    (reached_on (task_of t) c.loop-i.invariant (goal_said t c.loop-i.way.state c.meets_goal.ensures c.if-meets_goal.false) c.loop-i-test.true took)

pub returns : goal.returns
returns c =
    let t = held c.args.t in
    c.then_some.ensures ∙ reached_end (task_of t) c.loop-i.invariant (omega arith) (goal_said t c.loop-i.way.state c.meets_goal-2.ensures refl)
