-- The byte after what was read ahead, and the end of the piece.
use Rattle.std.proofs.Common.{◌∙◌, ◌+◌, ◌≤◌, length, drop, refl, sym, ap, arith}
use lib.ListN.{drop_of_length-le}
use Rattle.text.proofs.Laws.{feed_next}
use Rattle.text.specs.Inside.Ahead.{Onward}
use Rattle.text.specs.Inside.Control.{mk, St}
use Rattle.text.specs.Inside.Steps.{feed}
use Rattle.text.proofs.step.feed_piece.Goals as goal
use Rattle.text.proofs.step.feed_piece.Goals.{then-number_due, else-number_due}

pub loop-i-preserved : goal.loop-i-preserved
loop-i-preserved c =
    let run = c.loop-i in
    let s = c.args.s.now in
    let on : Onward s (mk run.k run.w) run.i (mk c.if-number_due.k c.if-number_due.w) c.if-number_due.i =
    elim c.if-number_due.branch [
      | then-number_due w ↦ rw (w.w-is, w.k-is, w.i-is) (rw w.await_number-k.ensures w.items_ahead-n.ensures)
      | else-number_due w ↦ rw (w.w-is, w.k-is, w.i-is) (record { on = omega arith; within = c.loop-i-test.true; same = refl })
    ] in
    let fed = ap (λ (x : St). feed x (drop (c.if-number_due.i + 1) s)) (rw c.from.ensures at c.step_byte-k.ensures) in
    record { within = omega (arith, on.within); same = fed ∙ feed_next _ s c.if-number_due.i on.within ∙ on.same ∙ run.invariant.same }

pub returns : goal.returns
unfolding feed
returns c =
    let run = c.loop-i in
    let s = c.args.s.now in
    let h : length s ≤ run.i = omega arith in
    ap (feed (mk run.k run.w)) (sym (drop_of_length-le s h)) ∙ run.invariant.same
