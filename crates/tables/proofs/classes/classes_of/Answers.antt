-- What the mask says of the classes, by `width_counts` and `width_misses`.
use Rattle.std.proofs.Common.{ℕ, sym, ap, ◌∙◌, arith}
use Rattle.std.specs.Prelude.{Ok}
use Rattle.tables.specs.Layout.{row_at}
use Rattle.tables.proofs.ClassRows.{beyond_outside, width_counts, width_misses}
use Rattle.tables.proofs.classes.classes_of.Goals as goal

pub returns-in_default : goal.returns-in_default
returns-in_default c = beyond_outside (row_at c.args.facts.now c.args.row) c.args.dom (sym c.mask_of.ensures ∙ c.in_default.is)

pub returns-then-k-mask : goal.returns-then-k-mask
returns-then-k-mask c =
    let bits = sym c.mask_of.ensures ∙ c.in-Some.is in
    ap (λ (k : ℕ). Ok k) c.width-k.ensures
    ∙ width_counts (row_at c.args.facts.now c.args.row) c.args.dom 32 c.in-Some.mask (omega arith) bits (sym c.width-k.ensures ∙ c.if-k-mask.true)

pub returns-else-k-mask : goal.returns-else-k-mask
returns-else-k-mask c =
    let bits = sym c.mask_of.ensures ∙ c.in-Some.is in
    width_misses (row_at c.args.facts.now c.args.row) c.args.dom 32 c.in-Some.mask (omega arith) bits (λ e. c.if-k-mask.false (c.width-k.ensures ∙ e))
