-- One share more.
use Rattle.std.proofs.Common.{◌∙◌, arith}
use Rattle.text.proofs.Onward.{share_ahead}
use Rattle.text.proofs.ahead.shares_ahead.Goals as goal

pub loop-r-preserved : goal.loop-r-preserved
loop-r-preserved c =
    let run = c.loop-r in
    let r = c.in-Some.r in
    let here = c.in-Some.ensures in
    let some = here.1.some in
    let room = here.1.room in
    record {
      on = omega (arith, run.invariant.on);
      within = omega arith;
      read = λ k o n.
          let far = run.invariant.read k o n in
          record {
            on = omega (arith, run.invariant.on);
            within = omega arith;
            same = simp (c.one_more-next.ensures, c.put_word.ensures, c.share_byte.ensures.0, ← o) (share_ahead k run.at r.at r.val run.next _ _ here.0 (rw n here.1) ∙ far.same);
          };
    }
