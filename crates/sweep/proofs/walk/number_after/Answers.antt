-- `walk::number_after` meets its contract: each value that is read is the next digit, and the number stays small. Assumes nothing.
use Rattle.std.proofs.Common.{◌∙◌, ap₂}
use Rattle.meaning.specs.Sas.{put}
use Rattle.sweep.proofs.Walking.{placed_small}
use Rattle.sweep.proofs.walk.number_after.Goals as goal

pub with_place-n-requires-clause-value_fits : goal.with_place-n-requires-clause-value_fits
with_place-n-requires-clause-value_fits c =
    let x = c.args in
    let read = c.value_after-x.ensures ∙ ap₂ put c.row_at.ensures c.get_or.ensures in
    (placed_small c.loop-v.invariant (record { positive = c.requires.positive.0; below = c.requires.digits; few = c.requires.positive.1 }) c.loop-v-test.true
    read c.row_at-in-loop-v.ensures).0

pub with_place-n-requires-clause-stride_fits : goal.with_place-n-requires-clause-stride_fits
with_place-n-requires-clause-stride_fits c =
    let read = c.value_after-x.ensures ∙ ap₂ put c.row_at.ensures c.get_or.ensures in
    (placed_small c.loop-v.invariant (record { positive = c.requires.positive.0; below = c.requires.digits; few = c.requires.positive.1 }) c.loop-v-test.true
    read c.row_at-in-loop-v.ensures).1
