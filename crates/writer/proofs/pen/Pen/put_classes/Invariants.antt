-- What `writer::pen::Pen::put_classes` keeps true: the classes are under way, a row a variable.
use Rattle.tables.specs.Layout.{class_at, dom_at}
use Rattle.grammar.specs.Fields.{slash}
use Rattle.grammar.specs.Spelling.{numbers}
use Rattle.writer.proofs.Parts.{RowUnder}
use Rattle.writer.proofs.pen.Pen.put_classes.Given as goal

abbrev pub invariant-loop-v : goal.invariant-loop-v
invariant-loop-v l =
    RowUnder slash (λ v. numbers (class_at l.t.facts.now l.m v) (dom_at l.t.facts.now v)) l.t.counts.vars l.initial.self l.v l.self
