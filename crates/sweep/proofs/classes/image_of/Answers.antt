-- `classes::image_of` meets its contract: each class that is read is the next digit, and the number stays small. Assumes nothing.
use Rattle.std.proofs.Common.{◌∙◌, ap₂}
use Rattle.tables.specs.Layout.{row_at}
use Rattle.sweep.proofs.Walking.{placed_small}
use Rattle.sweep.proofs.Classing.{image_digital}
use Rattle.sweep.proofs.classes.image_of.Goals as goal

pub with_place-n-requires-clause-value_fits : goal.with_place-n-requires-clause-value_fits
with_place-n-requires-clause-value_fits c =
    let x = c.args in
    let p = c.requires in
    let read = c.row_at-class.ensures ∙ ap₂ (row_at x.facts.now) c.class_row.ensures (c.from.ensures ∙ c.get_or.ensures) in
    (placed_small c.loop-v.invariant (image_digital x.c x.facts.now x.m p.0 p.1 x.s.now p.2) c.loop-v-test.true read c.class_count.ensures).0

pub with_place-n-requires-clause-stride_fits : goal.with_place-n-requires-clause-stride_fits
with_place-n-requires-clause-stride_fits c =
    let x = c.args in
    let p = c.requires in
    let read = c.row_at-class.ensures ∙ ap₂ (row_at x.facts.now) c.class_row.ensures (c.from.ensures ∙ c.get_or.ensures) in
    (placed_small c.loop-v.invariant (image_digital x.c x.facts.now x.m p.0 p.1 x.s.now p.2) c.loop-v-test.true read c.class_count.ensures).1
