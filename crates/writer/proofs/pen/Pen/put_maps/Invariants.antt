-- What `writer::pen::Pen::put_maps` keeps true: its lines are under way.
use Rattle.tables.specs.Task.{held, task_of}
use Rattle.grammar.specs.Spelling.{keyed, map_text}
use Rattle.writer.proofs.Parts.{LinesUnder}
use Rattle.writer.proofs.pen.Pen.put_maps.Given as goal

abbrev pub invariant-loop-m : goal.invariant-loop-m
invariant-loop-m l =
    LinesUnder (λ k. keyed "map=" (map_text (task_of (held l.t)) k)) l.t.counts.maps l.initial.self l.m l.self
