-- One variable more of which it holds, the first of which it doesn't, and the end.
use Rattle.std.proofs.Common.{refl, sym, ap₂, ◌∙◌, arith}
use Rattle.meaning.specs.Views.{holds}
use Rattle.tables.specs.Steps.{says_of, row_holds}
use Rattle.tables.proofs.Laws.{every_more, every_false, every_end}
use Rattle.tables.proofs.steps.row_holds.Goals as goal

pub loop-v-init : goal.loop-v-init
loop-v-init c = refl

pub returns-then-not-fact_holds : goal.returns-then-not-fact_holds
unfolding row_holds
returns-then-not-fact_holds c =
    let said = sym (c.fact_holds.ensures ∙ ap₂ holds c.known_byte.ensures c.known_byte-in-loop-v.ensures) in
    sym (every_false (says_of c.args.facts.now c.args.row c.args.s.now) c.args.vars c.loop-v.v c.loop-v-test.true (said ∙ c.if-not-fact_holds.true))

pub loop-v-preserved : goal.loop-v-preserved
loop-v-preserved c =
    let said = sym (c.fact_holds.ensures ∙ ap₂ holds c.known_byte.ensures c.known_byte-in-loop-v.ensures) in
    every_more (says_of c.args.facts.now c.args.row c.args.s.now) c.loop-v.v c.loop-v.invariant (said ∙ c.if-not-fact_holds.false)

pub returns : goal.returns
unfolding row_holds
returns c = every_end (says_of c.args.facts.now c.args.row c.args.s.now) c.args.vars c.loop-v.v c.loop-v.invariant (omega arith) (omega arith)
