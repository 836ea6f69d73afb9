-- `Space::sweep` meets its contract: a place more is made of `old` by one step more, and is as in `old` or differs; what made it fall is noted. Assumes nothing.
use Rattle.std.proofs.Common.{◌<◌, refl, length, arith}
use Rattle.sweep.specs.Inside.Walks.{space_of}
use Rattle.sweep.proofs.Sweeping.{swept_same, swept_diff, noted_more}
use Rattle.sweep.proofs.space.Space.sweep.Goals as goal
use Rattle.sweep.proofs.space.Space.sweep.Goals.{then-p-before, else-p-before}

pub loop-a-preserved : goal.loop-a-preserved
loop-a-preserved c =
    let x = c.args.self.now in
    let l = c.loop-a in
    let d = c.cell-p in
    let inside : l.a < length l.new = omega (arith, l.invariant.swept.table.size, c.requires.1, c.loop-a-test.true) in
    let inside_best : l.a < length l.best = omega (arith, l.invariant.noted.size, c.requires.2, c.loop-a-test.true) in
    record {
      swept =
          elim c.if-p-before.branch [
            | then-p-before w ↦ rw w.changed-is (swept_diff l.invariant.swept d.result.cost inside d.ensures.cost w.if-p-before.true)
            | else-p-before w ↦ rw w.changed-is (swept_same l.invariant.swept d.result.cost inside d.ensures.cost w.if-p-before.false)
          ];
      noted =
          noted_more (space_of x.c x.facts.now x.prices.now) c.args.old.now _ c.note.result d.result l.invariant.noted inside_best d.ensures refl c.note.ensures;
    }
