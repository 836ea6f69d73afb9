-- One fact more.
use Rattle.std.proofs.Common.{◌∙◌, arith}
use Rattle.text.proofs.Onward.{fact_ahead}
use Rattle.text.proofs.ahead.facts_ahead.Goals as goal

pub loop-f-preserved : goal.loop-f-preserved
loop-f-preserved c =
    let here = c.in-Some.ensures in
    let room = here.0.room in
    let so = c.loop-f.invariant in
    record {
      on = omega (arith, so.on);
      within = omega arith;
      read = λ k z e v.
          let far = so.read k z e v in
          record {
            on = omega (arith, so.on);
            within = omega arith;
            same = simp (c.one_more-next.ensures, c.put_byte.ensures, c.one_more.ensures, ← here.1, ← here.2) (fact_ahead k _ c.loop-f.next c.loop-f.at _ _ z e (rw v here.0) ∙ far.same);
          };
    }
