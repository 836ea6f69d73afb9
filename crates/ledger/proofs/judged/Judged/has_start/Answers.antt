-- `Judged::has_start` meets its contract: every place passed so far is one of a start. Assumes nothing.
use Rattle.std.proofs.Common.{sym, ◌∙◌, arith}
use Rattle.meaning.specs.Limits.{most_vars}
use Rattle.tables.proofs.Laws.{every_end, every_false, every_more}
use Rattle.ledger.specs.Ledger.{start_in, starts_at}
use Rattle.ledger.proofs.judged.Judged.has_start.Goals as goal

pub returns-then-not-has_value : goal.returns-then-not-has_value
unfolding start_in
returns-then-not-has_value c =
    let t = c.args.self.now in
    sym
    (every_false (starts_at t.tables.counts t.tables.facts.now c.args.start.now) most_vars c.loop-v.v (omega arith) (sym c.has_value.ensures ∙ c.if-not-has_value.true))

pub loop-v-preserved : goal.loop-v-preserved
loop-v-preserved c =
    let t = c.args.self.now in
    every_more (starts_at t.tables.counts t.tables.facts.now c.args.start.now) c.loop-v.v c.loop-v.invariant (sym c.has_value.ensures ∙ c.if-not-has_value.false)

pub returns : goal.returns
unfolding start_in
returns c =
    let t = c.args.self.now in
    every_end (starts_at t.tables.counts t.tables.facts.now c.args.start.now) most_vars c.loop-v.v c.loop-v.invariant (omega arith) (omega arith)
