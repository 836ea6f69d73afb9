-- `Backwards::relax_op` meets its contract: the steps from the states passed so far are pending no more, and at the end no step by the operator. Assumes nothing.
use Rattle.std.proofs.Common.{arith}
use Rattle.quick.proofs.Working.{may_offer, from_below, listed_long, listed_at, one_relaxed, relaxed_more, op_all}
use Rattle.quick.proofs.run.Backwards.relax_op.Goals as goal

pub offer-requires : goal.offer-requires
offer-requires c =
    let pre = c.requires.ready in
    let l = c.loop-offset in
    let at = listed_at pre.0 pre.1 c.loop-offset-test.true c.from.ensures in
    let may = may_offer l.invariant.run pre.0.walk.few _ (from_below pre.0 pre.1 (omega (arith, c.loop-offset-test.true, listed_long pre.0 pre.1)) at) in
    record { a_in_bounds = may.0; tree = may.1 }

pub loop-offset-preserved : goal.loop-offset-preserved
loop-offset-preserved c =
    let pre = c.requires.ready in
    let l = c.loop-offset in
    let at = listed_at pre.0 pre.1 c.loop-offset-test.true c.from.ensures in
    relaxed_more l.invariant
    (one_relaxed pre.0 pre.1 l.invariant.held (omega (arith, c.loop-offset-test.true, listed_long pre.0 pre.1)) at (omega (arith, c.scaled_price.ensures, c.cost_at.ensures))
    l.invariant.run c.offer.ensures)

pub returns : goal.returns
returns c =
    let pre = c.requires.ready in
    op_all pre.0 pre.1.op (omega (arith, c.loop-offset-test.false, listed_long pre.0 pre.1)) c.loop-offset.invariant
