-- `Judged::run` meets its contract: the variables passed so far have their values after the effects, the others as before. Assumes nothing.
use Rattle.std.proofs.Common.{◌≡◌, ℕ, ◌<◌, ◌*◌, ◌+◌, length, drop, get_or, arith, ap, ap₂, ◌∙◌}
use Rattle.std.proofs.lemmas.List.{take-append-drop, length-take}
use Rattle.meaning.specs.Sas.{put}
use Rattle.tables.specs.Layout.{eff_row}
use Rattle.tables.specs.Steps.{overwritten, value_after, stepped}
use Rattle.ledger.proofs.Fitting.{fitting, part_still, part_next}
use Rattle.ledger.proofs.judged.Judged.run.Goals as goal

pub eff_row-requires : goal.eff_row-requires
eff_row-requires c = let fits = fitting c.args.self.now in omega arith

pub slice_bounds-x-items-end : goal.slice_bounds-x-items-end
slice_bounds-x-items-end c = let fits = fitting c.args.self.now in omega arith

pub loop-v-init : goal.loop-v-init
unfolding overwritten
loop-v-init c = take-append-drop c.args.self.now.tables.counts.vars c.args.state.now

pub bounds-self-row : goal.bounds-self-row
bounds-self-row c =
    let fits = fitting c.args.self.now in
    omega (arith, length-take c.args.self.now.tables.counts.vars c.args.state.now, c.eff_row.ensures, c.requires)

pub loop-v-preserved : goal.loop-v-preserved
loop-v-preserved c =
    let facts = c.args.self.now.tables.facts.now in
    let state = c.args.state.now in
    let effect = value_after facts (eff_row c.args.op.0) state in
    let rest = drop c.args.self.now.tables.counts.vars state in
    let within : c.loop-v.v < length c.loop-v.x-items = omega arith in
    part_next effect state c.loop-v.x-items rest c.loop-v.v c.loop-v.invariant within c.value_after.result
    (c.value_after.ensures
    ∙ ap₂ (λ (row x : ℕ). put (get_or facts (row * 8 + c.loop-v.v) 0) x) c.eff_row.ensures
    (part_still effect state c.loop-v.x-items rest c.loop-v.v c.loop-v.invariant within))

pub returns : goal.returns
unfolding stepped
returns c =
    let fits = fitting c.args.self.now in
    let at_end : c.loop-v.v ≡ c.args.self.now.tables.counts.vars = omega (arith, length-take c.args.self.now.tables.counts.vars c.args.state.now) in
    c.loop-v.invariant ∙ ap (overwritten (value_after c.args.self.now.tables.facts.now (eff_row c.args.op.0) c.args.state.now) c.args.state.now) at_end
