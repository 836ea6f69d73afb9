-- What `writer::pen::Pen::put_ops` keeps true: its lines are under way.
use Rattle.tables.specs.Task.{held, task_of}
use Rattle.grammar.specs.Spelling.{keyed, op_text}
use Rattle.writer.proofs.Parts.{LinesUnder}
use Rattle.writer.proofs.pen.Pen.put_ops.Given as goal

abbrev pub invariant-loop-o : goal.invariant-loop-o
invariant-loop-o l =
    LinesUnder (λ k. keyed "op=" (op_text (task_of (held l.t)) k)) l.t.counts.ops l.initial.self l.o l.self
