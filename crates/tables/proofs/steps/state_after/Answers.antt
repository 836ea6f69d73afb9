-- One variable more, whose place still holds the old value; and the end, where the row is the operator's.
use Rattle.std.proofs.Common.{ℕ, refl, ap, ap₂, ◌∙◌, arith}
use Rattle.meaning.specs.Sas.{put}
use Rattle.tables.specs.Steps.{overwritten, value_after, stepped}
use Rattle.tables.proofs.Laws.{filled_next, filled_end, filled_still}
use Rattle.tables.proofs.steps.state_after.Goals as goal

pub loop-v-init : goal.loop-v-init
unfolding overwritten
loop-v-init c = refl

pub loop-v-preserved : goal.loop-v-preserved
loop-v-preserved c =
    let effect = value_after c.args.facts.now c.eff_row.result c.args.s in
    let still = filled_still effect c.args.s c.loop-v.t c.loop-v.v c.loop-v.invariant in
    filled_next effect c.args.s c.loop-v.t c.loop-v.v c.value_after.result c.loop-v.invariant (c.value_after.ensures ∙ ap₂ put c.known_byte.ensures still)

pub returns : goal.returns
unfolding stepped
returns c =
    filled_end (value_after c.args.facts.now c.eff_row.result c.args.s) c.args.s c.loop-v.t c.args.c.vars c.loop-v.v c.loop-v.invariant (omega arith) (omega arith)
    ∙ ap (λ (r : ℕ). overwritten (value_after c.args.facts.now r c.args.s) c.args.s c.args.c.vars) c.eff_row.ensures
