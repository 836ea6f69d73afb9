-- `classes::class_count` meets its contract: a variable has 8 classes at most. Assumes nothing.
use Rattle.std.proofs.Common.{◌∙◌, arith}
use Rattle.sweep.proofs.Classing.{count_is, count_byte}
use Rattle.sweep.proofs.classes.class_count.Goals as goal

pub overflow_cast-result : goal.overflow_cast-result
overflow_cast-result c =
    let x = c.args in
    let p = c.requires in
    let is = count_is x.c x.facts.now x.m p.0 p.1 x.v _ _ _ (c.from.ensures ∙ c.row_at.ensures) c.class_row.ensures c.count_of.ensures in
    omega (arith, count_byte x.c x.facts.now x.m p.0 p.1 x.v c.count_of.result p.2 is)
