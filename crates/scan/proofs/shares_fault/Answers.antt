-- The walk over the maps: one more whose shares fit, the first where one doesn't, and the end.
use Rattle.std.proofs.Common.{ℕ, ◌∙◌, sym, ap, leb, arith}
use Rattle.std.specs.Prelude.{Err}
use Rattle.refusals.specs.declared.Refusal.TheVariants.{OutOfRange}
use Rattle.meaning.specs.Limits.{most_cost}
use Rattle.tables.specs.Layout.{share_at}
use Rattle.tables.specs.Lines.{line_of_shares}
use Rattle.tables.specs.Task.{held, task_of}
use Rattle.scan.specs.Scan.{shares_fault}
use Rattle.scan.proofs.Walks.{all_decides, broken, kept, walk_none, walk_more, walk_here, walk_end}
use Rattle.scan.proofs.shares_fault.Goals as goal

pub loop-m-init : goal.loop-m-init
loop-m-init c = walk_none _

pub returns-then-not-shares_fit : goal.returns-then-not-shares_fit
unfolding shares_fault
returns-then-not-shares_fit c =
    let T = task_of (held c.args.t) in
    let says = OutOfRange (line_of_shares c.args.t.counts.edition c.args.t.counts.ops c.args.t.counts.maps c.loop-m.m) in
    let here = all_decides (λ o. leb (share_at c.args.t.shares.now c.loop-m.m o) most_cost) says c.args.t.counts.ops c.shares_fit.ensures ∙ broken says c.if-not-shares_fit.true in
    ap (λ (n : ℕ). Err (OutOfRange n)) c.shares_line.ensures
    ∙ sym (walk_here (shares_fault T) c.args.t.counts.maps c.loop-m.m says c.loop-m.invariant c.loop-m-test.true here)

pub loop-m-preserved : goal.loop-m-preserved
unfolding shares_fault
loop-m-preserved c =
    let T = task_of (held c.args.t) in
    let says = OutOfRange (line_of_shares c.args.t.counts.edition c.args.t.counts.ops c.args.t.counts.maps c.loop-m.m) in
    let here = all_decides (λ o. leb (share_at c.args.t.shares.now c.loop-m.m o) most_cost) says c.args.t.counts.ops c.shares_fit.ensures ∙ kept says c.if-not-shares_fit.false in
    walk_more (shares_fault T) c.loop-m.m c.loop-m.invariant here

pub returns : goal.returns
returns c = sym (walk_end _ c.args.t.counts.maps c.loop-m.m c.loop-m.invariant (omega arith) (omega arith))
