-- One operator more whose shares total at most its cost, the first that has more, and the end.
use Rattle.std.proofs.Common.{ℕ, ◌∙◌, sym, ap, leb, arith}
use borrow.Author.Tests.{lt-leb, le-leb}
use Rattle.std.specs.Prelude.{Err}
use Rattle.refusals.specs.declared.Refusal.TheVariants.{SharesAboveCost}
use Rattle.meaning.specs.Split.{sum}
use Rattle.tables.specs.Lines.{line_of_op}
use Rattle.scan.proofs.Walks.{tests_more, tests_here, walk_none, walk_end}
use Rattle.text.specs.Inside.Area.{cost_in, share_in}
use Rattle.text.specs.Inside.End.{over}
use Rattle.text.proofs.end.over_fault.Goals as goal

pub loop-o-init : goal.loop-o-init
loop-o-init c = walk_none _

pub returns-then-word_at-share_total : goal.returns-then-word_at-share_total
unfolding over
returns-then-word_at-share_total c =
    let w = c.args.w.now in
    let maps = c.min-maps.result in
    let ops = c.min-ops.result in
    let test = λ (o : ℕ). leb (sum (λ m. share_in w m o) maps) (cost_in w o) in
    let says = λ (o : ℕ). SharesAboveCost (line_of_op c.args.c.counts.edition o) in
    let more = simp (c.word_at.ensures.0, c.cost_byte.ensures.0, c.share_total.ensures) at c.if-word_at-share_total.true in
    let high = lt-leb (sum (λ m. share_in w m c.loop-o.o) maps) (cost_in w c.loop-o.o) more in
    ap (λ (l : ℕ). Err (SharesAboveCost l)) c.op_line.ensures
    ∙ sym (simp (← c.min-maps.ensures, ← c.min-ops.ensures) (tests_here test says ops c.loop-o.o c.loop-o.invariant c.loop-o-test.true high))

pub loop-o-preserved : goal.loop-o-preserved
loop-o-preserved c =
    let w = c.args.w.now in
    let maps = c.min-maps.result in
    let test = λ (o : ℕ). leb (sum (λ m. share_in w m o) maps) (cost_in w o) in
    let says = λ (o : ℕ). SharesAboveCost (line_of_op c.args.c.counts.edition o) in
    let less = simp (c.word_at.ensures.0, c.cost_byte.ensures.0, c.share_total.ensures) at c.if-word_at-share_total.false in
    tests_more test says c.loop-o.o c.loop-o.invariant (le-leb (sum (λ m. share_in w m c.loop-o.o) maps) (cost_in w c.loop-o.o) less)

pub returns : goal.returns
unfolding over
returns c = sym (simp (← c.min-maps.ensures, ← c.min-ops.ensures) (walk_end _ c.min-ops.result c.loop-o.o c.loop-o.invariant (omega arith) (omega arith)))
