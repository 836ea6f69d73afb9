-- `classes::image_of` meets its contract: the classes of the variables passed so far are in the number. Assumes nothing.
use Rattle.std.proofs.Common.{refl, ap₂, ◌∙◌, arith}
use Rattle.tables.specs.Layout.{row_at}
use Rattle.maps.proofs.Walking.{numbered_more, numbered_small, numbered_all}
use Rattle.maps.proofs.Classing.{image_digital}
use Rattle.maps.proofs.classes.image_of.Goals as goal

-- the class that is read is the next digit, and the number stays small
pub overflow_mul-b : goal.overflow_mul-b
overflow_mul-b c =
    let a = c.args in
    let pre = c.requires in
    let digit = c.from.ensures ∙ c.row_at.ensures ∙ ap₂ (row_at a.facts.now) c.class_row.ensures (c.from-value.ensures ∙ c.get_or.ensures) in
    let more = numbered_more c.loop-v.invariant c.loop-v-test.true digit refl in
    omega (arith, (numbered_small more (image_digital a.c a.facts.now a.m pre.0 pre.1 a.s.now pre.2)).1)

pub overflow_add-b : goal.overflow_add-b
overflow_add-b c =
    let a = c.args in
    let pre = c.requires in
    let digit = c.from.ensures ∙ c.row_at.ensures ∙ ap₂ (row_at a.facts.now) c.class_row.ensures (c.from-value.ensures ∙ c.get_or.ensures) in
    let more = numbered_more c.loop-v.invariant c.loop-v-test.true digit refl in
    omega (arith, (numbered_small more (image_digital a.c a.facts.now a.m pre.0 pre.1 a.s.now pre.2)).1)

pub overflow_mul-stride : goal.overflow_mul-stride
overflow_mul-stride c =
    let a = c.args in
    let pre = c.requires in
    let digit = c.from.ensures ∙ c.row_at.ensures ∙ ap₂ (row_at a.facts.now) c.class_row.ensures (c.from-value.ensures ∙ c.get_or.ensures) in
    let more = numbered_more c.loop-v.invariant c.loop-v-test.true digit (c.from-stride.ensures ∙ c.class_count.ensures) in
    omega (arith, (numbered_small more (image_digital a.c a.facts.now a.m pre.0 pre.1 a.s.now pre.2)).0)

pub loop-v-preserved : goal.loop-v-preserved
loop-v-preserved c =
    let digit = c.from.ensures ∙ c.row_at.ensures ∙ ap₂ (row_at c.args.facts.now) c.class_row.ensures (c.from-value.ensures ∙ c.get_or.ensures) in
    numbered_more c.loop-v.invariant c.loop-v-test.true digit (c.from-stride.ensures ∙ c.class_count.ensures)

pub returns : goal.returns
returns c = numbered_all c.loop-v.invariant c.loop-v-test.false
