-- `writer::pen::Pen::put_op` meets its contract: its parts one after another. Assumes nothing.
use Rattle.std.proofs.Common.{ℕ, List, ap}
use Rattle.tables.specs.Layout.{row_at}
use Rattle.grammar.specs.Spelling.{digits, some_facts, keyed, op_text}
use Rattle.writer.proofs.Pens.{after, so}
use Rattle.writer.proofs.pen.Pen.put_op.Goals as goal

pub returns : goal.returns
unfolding keyed op_text
returns c =
    let a = c.args in
    let lists : ℕ → List ℕ = λ row. some_facts (row_at a.t.facts.now row) a.t.counts.vars 0 in
    after
    (after c.put_word.ensures
    (after
    (after (after (so c.put_number.ensures (ap digits c.cost_at.ensures)) (after c.put.ensures (so c.put_facts.ensures (ap lists c.pre_row.ensures))))
    (after c.put-2.ensures (so c.put_facts-2.ensures (ap lists c.eff_row.ensures))))
    c.put_mark.ensures))
    c.put-3.ensures
