-- `writer::pen::Pen::put_word` meets its contract: a byte of it a turn. Assumes nothing.
use Rattle.std.proofs.Common.{◌≤◌, length, arith}
use Rattle.std.proofs.Math.ListN.{drop_of_length-le}
use Rattle.writer.proofs.Pens.{goes_on, ends}
use Rattle.writer.proofs.Parts.{word_turn}
use Rattle.writer.proofs.pen.Pen.put_word.Goals as goal

pub loop-b-preserved : goal.loop-b-preserved
loop-b-preserved c = goes_on c.loop-b.invariant (word_turn _ c.loop-b.b-index c.loop-b-test.true) c.put.ensures

pub returns : goal.returns
returns c = let h : length c.args.word.now ≤ c.loop-b.b-index = omega arith in ends c.loop-b.invariant (drop_of_length-le _ h)
