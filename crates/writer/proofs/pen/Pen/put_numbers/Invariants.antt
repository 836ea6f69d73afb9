-- What `writer::pen::Pen::put_numbers` keeps true: the row of the numbers that the closure gives is under way.
use Rattle.std.proofs.Common.{ℕ}
use Rattle.grammar.specs.Fields.{comma}
use Rattle.grammar.specs.Spelling.{digits}
use Rattle.writer.specs.Inside.Pen.{Gives}
use Rattle.writer.proofs.Parts.{RowUnder}
use Rattle.writer.proofs.pen.Pen.put_numbers.Given as goal

abbrev pub invariant-loop-i : goal.invariant-loop-i
invariant-loop-i g l =
    (f : ℕ → ℕ) → Gives (goal.F-post g l.number_at) l.n f → RowUnder comma (λ k. digits (f k)) l.n l.initial.self l.i l.self
