-- `Judged::can_run` meets its contract: the operator exists, and what it asks of the variables passed so far holds. Assumes nothing.
use Rattle.std.proofs.Common.{◌≡◌, ℕ, Bool, true, false, List, ◌<◌, ◌+◌, ◌*◌, get_or, take, sym, ap₂, ◌∙◌, arith}
use Rattle.std.proofs.lemmas.List.{length-take}
use lib.Seq.{get_or-take}
use Rattle.meaning.specs.Views.{holds}
use Rattle.tables.specs.Layout.{pre_row}
use Rattle.tables.specs.Steps.{says_of, row_holds, may_run}
use Rattle.tables.proofs.Laws.{every_more, every_end, every_false}
use Rattle.ledger.proofs.Answers.{can_may, can_no}
use Rattle.ledger.proofs.Fitting.{fitting}
use Rattle.ledger.proofs.judged.Judged.can_run.Goals as goal

pub returns-then-self-op : goal.returns-then-self-op
returns-then-self-op c = can_no _ _ _ _ c.if-self-op.true

pub pre_row-requires : goal.pre_row-requires
pre_row-requires c = let fits = fitting c.args.self.now in omega arith

pub shared_ref_as_front-x-items : goal.shared_ref_as_front-x-items
shared_ref_as_front-x-items c = let fits = fitting c.args.self.now in omega arith

pub bounds-self-row : goal.bounds-self-row
bounds-self-row c =
    let fits = fitting c.args.self.now in
    omega (arith, length-take c.args.self.now.tables.counts.vars c.args.state.now, c.pre_row.ensures)

-- what a turn is told of a variable
said : (facts state : List ℕ) (row o vars v : ℕ) (b : Bool) → row ≡ pre_row o → v < vars → b ≡ holds (get_or facts (row * 8 + v) 0) (get_or (take vars state) v 0)
    → says_of facts (pre_row o) state v ≡ b
said facts state row o vars v b r h e =
    sym (e ∙ ap₂ (λ (row x : ℕ). holds (get_or facts (row * 8 + v) 0) x) r (get_or-take vars state v 0 h))

pub returns-then-not-fact_holds : goal.returns-then-not-fact_holds
unfolding may_run row_holds
returns-then-not-fact_holds c =
    let t = c.args.self.now in
    let state = c.args.state.now in
    let turn : c.loop-v.v < t.tables.counts.vars = omega (arith, length-take t.tables.counts.vars state) in
    let told = said t.tables.facts.now state c.pre_row.result c.args.op.0 t.tables.counts.vars c.loop-v.v c.fact_holds.result c.pre_row.ensures turn c.fact_holds.ensures in
    can_may t.tables.counts t.tables.facts.now state c.args.op.0 false c.if-self-op.false
    (sym (every_false (says_of t.tables.facts.now (pre_row c.args.op.0) state) t.tables.counts.vars c.loop-v.v turn (told ∙ c.if-not-fact_holds.true)))

pub loop-v-preserved : goal.loop-v-preserved
loop-v-preserved c =
    let t = c.args.self.now in
    let state = c.args.state.now in
    let turn : c.loop-v.v < t.tables.counts.vars = omega (arith, length-take t.tables.counts.vars state) in
    let told = said t.tables.facts.now state c.pre_row.result c.args.op.0 t.tables.counts.vars c.loop-v.v c.fact_holds.result c.pre_row.ensures turn c.fact_holds.ensures in
    every_more (says_of t.tables.facts.now (pre_row c.args.op.0) state) c.loop-v.v c.loop-v.invariant (told ∙ c.if-not-fact_holds.false)

pub returns : goal.returns
unfolding may_run row_holds
returns c =
    let t = c.args.self.now in
    let state = c.args.state.now in
    let fits = fitting t in
    can_may t.tables.counts t.tables.facts.now state c.args.op.0 true c.if-self-op.false
    (every_end (says_of t.tables.facts.now (pre_row c.args.op.0) state) t.tables.counts.vars c.loop-v.v c.loop-v.invariant (omega (arith, length-take t.tables.counts.vars state))
    (omega (arith, length-take t.tables.counts.vars state)))
