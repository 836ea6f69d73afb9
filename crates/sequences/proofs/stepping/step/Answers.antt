-- `stepping::step` meets its contract: by what its three tests say of the lent tables. Assumes nothing.
use Rattle.std.proofs.Common.{ap, sym, ◌∙◌}
use Rattle.std.specs.Prelude.{Ok}
use Rattle.tables.specs.Task.{held, task_of, state_of}
use Rattle.sequences.proofs.Laws.{no_such_first, step_tested}
use borrow.Author.Tests.{lt-ltb}
use Rattle.sequences.proofs.stepping.step.Goals as goal

pub returns-then-t-o : goal.returns-then-t-o
returns-then-t-o c =
    sym (no_such_first (task_of (held c.args.t)) c.args.stored (state_of c.args.s.now) c.args.o.0 c.if-t-o.true)

pub returns-then-not-may_run : goal.returns-then-not-may_run
returns-then-not-may_run c =
    let t = held c.args.t in
    sym (step_tested t c.args.stored c.args.s.now c.args.o.0
    ∙ rw (lt-ltb c.args.o.0 c.args.t.counts.ops c.if-t-o.false, ← c.may_run.ensures, c.if-not-may_run.true))

pub returns-then-not-can_store : goal.returns-then-not-can_store
returns-then-not-can_store c =
    let t = held c.args.t in
    sym (step_tested t c.args.stored c.args.s.now c.args.o.0
    ∙ rw (lt-ltb c.args.o.0 c.args.t.counts.ops c.if-t-o.false, ← c.may_run.ensures, c.if-not-may_run.false, ← c.can_store.ensures, c.if-not-can_store.true))

pub returns : goal.returns
returns c =
    let t = held c.args.t in
    sym (step_tested t c.args.stored c.args.s.now c.args.o.0
    ∙ rw (lt-ltb c.args.o.0 c.args.t.counts.ops c.if-t-o.false, ← c.may_run.ensures, c.if-not-may_run.false, ← c.can_store.ensures, c.if-not-can_store.false)
    (ap Ok (sym c.cost_at.ensures)))
