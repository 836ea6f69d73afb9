-- `classes::class_count` meets its contract: a row of classes and a number of values, both read from the tables, are counted. Assumes nothing.
use Rattle.std.proofs.Common.{◌∙◌, arith}
use Rattle.maps.proofs.Classing.{class_below, count_is, count_byte}
use Rattle.maps.proofs.classes.class_count.Goals as goal

pub count_of-requires : goal.count_of-requires
count_of-requires c =
    let pre = c.requires in
    let a = c.args in
    class_below a.c a.facts.now a.m pre.0 pre.1 a.v pre.2 _ _ (c.from.ensures ∙ c.row_at.ensures) c.class_row.ensures

pub overflow_cast-result : goal.overflow_cast-result
overflow_cast-result c =
    let pre = c.requires in
    let a = c.args in
    let counted = count_is a.c a.facts.now a.m pre.0 pre.1 a.v _ _ _ (c.from.ensures ∙ c.row_at.ensures) c.class_row.ensures c.count_of.ensures in
    omega (arith, count_byte a.c a.facts.now a.m pre.0 pre.1 a.v _ pre.2 counted)

pub returns : goal.returns
returns c =
    let pre = c.requires in
    let a = c.args in
    count_is a.c a.facts.now a.m pre.0 pre.1 a.v _ _ _ (c.from.ensures ∙ c.row_at.ensures) c.class_row.ensures c.count_of.ensures
