-- One class more.
use Rattle.std.proofs.Common.{◌∙◌, arith}
use Rattle.text.proofs.Onward.{class_ahead}
use Rattle.text.proofs.ahead.classes_ahead.Goals as goal

pub loop-x-preserved : goal.loop-x-preserved
loop-x-preserved c =
    let run = c.loop-x in
    let here = c.in-Some.ensures in
    let room = here.0.room in
    record {
      on = omega (arith, run.invariant.on);
      within = omega arith;
      read = λ k o v.
          let far = run.invariant.read k o v in
          record {
            on = omega (arith, run.invariant.on);
            within = omega arith;
            same = simp (c.one_more-next.ensures, c.add_class-mask.ensures, c.put_byte.ensures, c.class_place.ensures, ← here.1, ← o, ← v)
                (class_ahead k run.at run.next run.mask _ _ (rw (v, ← c.values_of.ensures) here.0) ∙ far.same);
          };
    }
