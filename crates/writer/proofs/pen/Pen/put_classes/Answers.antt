-- `writer::pen::Pen::put_classes` meets its contract: a variable's classes a turn, and the mark if more come. Assumes nothing.
use Rattle.std.proofs.Common.{ℕ, ap₂}
use Rattle.tables.specs.Layout.{row_at}
use Rattle.grammar.specs.Spelling.{numbers, map_text}
use Rattle.writer.proofs.Pens.{so}
use Rattle.writer.proofs.Parts.{row_begins, row_goes_on, row_ends}
use Rattle.writer.proofs.pen.Pen.put_classes.Goals as goal

pub loop-v-init : goal.loop-v-init
loop-v-init c = row_begins _ _ _ _

pub loop-v-preserved : goal.loop-v-preserved
loop-v-preserved c =
    let row = ap₂ (λ (row n : ℕ). numbers (row_at c.args.t.facts.now row) n) c.class_row.ensures c.word_of.ensures in
    row_goes_on _ _ _ _ c.loop-v.invariant c.loop-v-test.true (so c.put_row.ensures row) c.put_gap.ensures

pub returns : goal.returns
unfolding map_text
returns c = row_ends _ _ _ _ c.loop-v.invariant c.loop-v-test.false
