-- What is left of the quota is at least the mark.
use Rattle.std.proofs.Common.{ℕ, ap₂, sym, ◌∙◌, ◌+◌, leb, arith}
use borrow.Author.Tests.{lt-leb}
use Rattle.tables.specs.Layout.{quota_of, mark_of}
use Rattle.tables.specs.Steps.{can_store}
use Rattle.tables.proofs.Laws.{left_enough}
use Rattle.tables.proofs.steps.can_store.Goals as goal

pub returns-then-stored-quota : goal.returns-then-stored-quota
unfolding can_store
returns-then-stored-quota c =
    left_enough c.args.stored c.mark_of.result c.quota_of-quota.result c.if-stored-quota.true
    ∙ ap₂ (λ (m q : ℕ). leb (c.args.stored + m) q) c.mark_of.ensures c.quota_of-quota.ensures

pub returns-else-stored-quota : goal.returns-else-stored-quota
unfolding can_store
returns-else-stored-quota c =
    lt-leb c.args.stored c.quota_of-quota.result (omega arith)
    ∙ sym (lt-leb (c.args.stored + mark_of c.args.c c.args.facts.now c.args.o.0) (quota_of c.args.c) (omega (arith, c.quota_of-quota.ensures)))
