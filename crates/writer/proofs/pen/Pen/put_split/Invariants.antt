-- What `writer::pen::Pen::put_split` keeps true: its lines are under way.
use Rattle.tables.specs.Layout.{share_at}
use Rattle.grammar.specs.Spelling.{keyed, share_text}
use Rattle.writer.proofs.Parts.{LinesUnder}
use Rattle.writer.proofs.pen.Pen.put_split.Given as goal

abbrev pub invariant-loop-m : goal.invariant-loop-m
invariant-loop-m l =
    LinesUnder (λ k. keyed "share=" (share_text (share_at l.t.shares.now k) l.t.counts.ops)) l.t.counts.maps l.initial.self l.m l.self
