-- What `writer::pen::Pen::put_facts` keeps true: the list is under way, and what is left of it begins with a comma once some facts are written.
use Rattle.std.proofs.Common.{◌-◌}
use Rattle.tables.specs.Layout.{row_at}
use Rattle.grammar.specs.Spelling.{some_facts}
use Rattle.writer.specs.Inside.Pen.{facts_left}
use Rattle.writer.proofs.Pens.{Under}
use Rattle.writer.proofs.pen.Pen.put_facts.Given as goal

abbrev pub invariant-loop-v : goal.invariant-loop-v
invariant-loop-v l = Under l.initial.self (some_facts (row_at l.facts l.row) l.n 0) (facts_left l.some (row_at l.facts l.row) (l.n - l.v) l.v) l.self
