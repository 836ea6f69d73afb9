-- `writer::pen::Pen::put_numbers` meets its contract: a number a turn, and the comma if more come. Assumes nothing.
use Rattle.std.proofs.Common.{ap}
use Rattle.grammar.specs.Spelling.{digits, numbers}
use Rattle.writer.proofs.Pens.{so}
use Rattle.writer.proofs.Parts.{row_begins, row_goes_on, row_ends}
use Rattle.writer.proofs.pen.Pen.put_numbers.Goals as goal

pub loop-i-init : goal.loop-i-init
loop-i-init g c = λ f gives. row_begins _ _ _ _

pub loop-i-preserved : goal.loop-i-preserved
loop-i-preserved g c = λ f gives.
    let given = ap digits (gives _ _ c.loop-i-test.true c.number_at.ensures) in
    row_goes_on _ _ _ _ (c.loop-i.invariant f gives) c.loop-i-test.true (so c.put_number.ensures given) c.put_gap.ensures

pub returns : goal.returns
unfolding numbers
returns g c = λ f gives. row_ends _ _ _ _ (c.loop-i.invariant f gives) c.loop-i-test.false
