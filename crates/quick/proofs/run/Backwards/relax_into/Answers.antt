-- `Backwards::relax_into` meets its contract: the steps by the operators passed so far are pending no more; an operator whose lane isn't 0 never leads to b.
-- Assumes nothing.
use Rattle.std.proofs.Common.{sym, ◌∙◌, arith, eq-eqb, ne_eqb}
use Rattle.quick.proofs.Working.{relaxed_more, op_skip, all_none, all_end}
use Rattle.quick.proofs.run.Backwards.relax_into.Goals as goal
use Rattle.quick.proofs.run.Backwards.relax_into.Goals.{then-fits, else-fits}

pub loop-o-init : goal.loop-o-init
loop-o-init c = all_none c.requires.ready.2 c.requires.run

pub relax_op-requires : goal.relax_op-requires
relax_op-requires c =
    let pre = c.requires.ready in
    let l = c.loop-o in
    let test = c.loop-o-test.true in
    let b = c.args.b in
    record {
      ready = (
        pre.0,
        record {
          op = test;
          state = omega (arith, pre.1, pre.0.states);
          match = sym (pre.0.fit.ops l.o b test (omega (arith, pre.1, pre.0.states))) ∙ eq-eqb _ 0 c.if-fits.true;
        },
        l.invariant.held,
      );
      run = l.invariant.run;
    }

pub loop-o-preserved : goal.loop-o-preserved
loop-o-preserved c =
    let pre = c.requires.ready in
    let l = c.loop-o in
    let test = c.loop-o-test.true in
    let b = c.args.b in
    elim c.if-fits.branch [
      | then-fits w ↦ rw (w.labels-is, w.keys-is, w.best-is) (relaxed_more l.invariant w.relax_op.ensures)
      | else-fits w ↦ rw (w.labels-is, w.keys-is, w.best-is)
          (relaxed_more l.invariant
          (op_skip pre.0 test (sym (pre.0.fit.ops l.o b test (omega (arith, pre.1, pre.0.states))) ∙ ne_eqb _ 0 w.if-fits.false) l.invariant.held l.invariant.run))
    ]

pub returns : goal.returns
returns c = all_end c.loop-o-test.false c.loop-o.invariant
