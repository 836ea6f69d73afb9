-- There is a mask, and its width is the count.
use Rattle.std.proofs.Common.{refl, sym, ◌∙◌, arith}
use Rattle.tables.specs.Layout.{row_at}
use Rattle.tables.proofs.ClassRows.{some_mask, width_count}
use Rattle.tables.proofs.classes.count_of.Goals as goal

pub unwrap-requires : goal.unwrap-requires
unwrap-requires c = rw (c.mask_of.ensures ∙ some_mask (row_at c.args.facts.now c.args.row) c.args.dom c.requires.1) refl

pub returns : goal.returns
returns c =
    c.width.ensures
    ∙ width_count (row_at c.args.facts.now c.args.row) c.args.dom 32 c.unwrap.result (omega arith) (sym c.mask_of.ensures ∙ c.unwrap.ensures)
