-- The walk over the operators: one more whose shares are at most its cost, the first that has more, and the end.
use Rattle.std.proofs.Common.{ℕ, ◌∙◌, sym, ap, leb, arith}
use borrow.Author.Tests.{lt-leb, le-leb}
use Rattle.refusals.specs.declared.Refusal.TheVariants.{SharesAboveCost}
use Rattle.meaning.specs.Split.{sum}
use Rattle.tables.specs.Layout.{cost_at, share_at}
use Rattle.tables.specs.Lines.{line_of_op}
use Rattle.std.specs.Prelude.{Err}
use Rattle.scan.specs.Scan.{split_fault}
use Rattle.scan.proofs.Walks.{tests_more, tests_here, walk_none, walk_end}
use Rattle.scan.proofs.split_fault.Goals as goal

pub loop-o-init : goal.loop-o-init
loop-o-init c = walk_none _

pub returns-then-cost-share_total : goal.returns-then-cost-share_total
unfolding split_fault
returns-then-cost-share_total c =
    let test = λ (o : ℕ). leb (sum (λ m. share_at c.args.t.shares.now m o) c.args.t.counts.maps) (cost_at c.args.t.costs.now o) in
    let says = λ (o : ℕ). SharesAboveCost (line_of_op c.args.t.counts.edition o) in
    let high = lt-leb (sum (λ m. share_at c.args.t.shares.now m c.loop-o.o) c.args.t.counts.maps) (cost_at c.args.t.costs.now c.loop-o.o) (omega arith) in
    ap (λ (n : ℕ). Err (SharesAboveCost n)) c.op_line.ensures
    ∙ sym (tests_here test says c.args.t.counts.ops c.loop-o.o c.loop-o.invariant c.loop-o-test.true high)

pub loop-o-preserved : goal.loop-o-preserved
loop-o-preserved c =
    let test = λ (o : ℕ). leb (sum (λ m. share_at c.args.t.shares.now m o) c.args.t.counts.maps) (cost_at c.args.t.costs.now o) in
    let says = λ (o : ℕ). SharesAboveCost (line_of_op c.args.t.counts.edition o) in
    tests_more test says c.loop-o.o c.loop-o.invariant
    (le-leb (sum (λ m. share_at c.args.t.shares.now m c.loop-o.o) c.args.t.counts.maps) (cost_at c.args.t.costs.now c.loop-o.o) (omega arith))

pub returns : goal.returns
unfolding split_fault
returns c = sym (walk_end _ c.args.t.counts.ops c.loop-o.o c.loop-o.invariant (omega arith) (omega arith))
