-- `judging::walk` meets its contract: what is left of the list gives the rest of the answer. Assumes nothing.
use Rattle.std.proofs.Common.{◌≡◌, ◌+◌, ◌∙◌, arith, rules}
use Rattle.std.specs.Prelude.{Err}
use Rattle.sequences.specs.Stepping.{refusal_of}
use Rattle.tables.specs.Task.{held, task_of}
use Rattle.sequences.proofs.Walks.{few, goal_said, turn, payable, storable, walked_on, walked_refused, walked_end}
use Rattle.sequences.proofs.judging.walk.Goals as goal

pub overflow_cast-k : goal.overflow_cast-k
overflow_cast-k c = omega (arith, few c.requires.1)

pub overflow_add-k : goal.overflow_add-k
overflow_add-k c = omega (arith, few c.requires.1)

pub returns-in_default : goal.returns-in_default
returns-in_default c =
    let t = held c.args.t in
    let h = walked_refused (task_of t) c.loop-i.invariant c.loop-i-test.true c.step-stepped.ensures c.in_default.is in
    let e : c.map_err.result ≡ Err (refusal_of c.in_default.field-0 (c.loop-i.i + 1)) = search rules in
    e ∙ h

pub go-requires-clause-op : goal.go-requires-clause-op
go-requires-clause-op c =
    let t = held c.args.t in
    (turn t c.requires.0 c.loop-i.invariant.size c.step-stepped.ensures c.in-Ok.is).op

pub go-requires-clause-stored : goal.go-requires-clause-stored
go-requires-clause-stored c =
    let t = held c.args.t in
    storable t c.requires.0 (turn t c.requires.0 c.loop-i.invariant.size c.step-stepped.ensures c.in-Ok.is)

pub go-requires-clause-paid : goal.go-requires-clause-paid
go-requires-clause-paid c =
    let t = held c.args.t in
    payable c.loop-i.invariant (turn t c.requires.0 c.loop-i.invariant.size c.step-stepped.ensures c.in-Ok.is) c.loop-i-test.true c.requires.1

pub loop-i-preserved : goal.loop-i-preserved
loop-i-preserved c =
    let t = held c.args.t in
    rw (c.go.ensures.stored, c.go.ensures.paid, c.go.ensures.state)
    (walked_on (task_of t) c.loop-i.invariant c.loop-i-test.true (turn t c.requires.0 c.loop-i.invariant.size c.step-stepped.ensures c.in-Ok.is))

pub overflow_cast-result : goal.overflow_cast-result
overflow_cast-result c = omega (arith, few c.requires.1)

pub returns-then-meets_goal : goal.returns-then-meets_goal
returns-then-meets_goal c =
    let t = held c.args.t in
    walked_end (task_of t) c.loop-i.invariant (omega arith) (goal_said t c.loop-i.way.state c.meets_goal.ensures c.if-meets_goal.true)

pub returns-else-meets_goal : goal.returns-else-meets_goal
returns-else-meets_goal c =
    let t = held c.args.t in
    walked_end (task_of t) c.loop-i.invariant (omega arith) (goal_said t c.loop-i.way.state c.meets_goal.ensures c.if-meets_goal.false)
