-- What `writer::pen::Pen::put_word` keeps true: the word is under way, and what is left of it comes next.
use Rattle.std.proofs.Common.{drop}
use Rattle.writer.proofs.Pens.{Under}
use Rattle.writer.proofs.pen.Pen.put_word.Given as goal

abbrev pub invariant-loop-b : goal.invariant-loop-b
invariant-loop-b l = Under l.initial.self l.word (drop l.b-index l.word) l.self
