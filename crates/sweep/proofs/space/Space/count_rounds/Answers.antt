-- `Space::count_rounds` meets its contract: every round so far changed something, so the rounds are fewer than the states. Assumes nothing.
use Rattle.std.proofs.Common.{arith}
use Rattle.sweep.proofs.Rounding.{walkable_good, turn_within, turn_none, ends, goes_on}
use Rattle.sweep.proofs.space.Space.count_rounds.Goals as goal

pub loop-rounds-init : goal.loop-rounds-init
loop-rounds-init c =
    let x = c.args.self.now in
    turn_none (walkable_good x.c x.facts.now x.prices.now x.walkable x.small) x.counted c.fill.ensures c.clear.ensures

pub sweep-changed-requires : goal.sweep-changed-requires
sweep-changed-requires c =
    let x = c.args.self.now in
    let i = c.loop-rounds.invariant in (
      omega (arith, i.table.size, c.fill.ensures.size, c.requires.0),
      omega (arith, i.work, c.requires.2),
      omega (arith, i.notes.size, c.clear.ensures.size, c.requires.1),
      turn_within (walkable_good x.c x.facts.now x.prices.now x.walkable x.small) x.counted i,
    )

pub returns-then-not-changed : goal.returns-then-not-changed
returns-then-not-changed c =
    let x = c.args.self.now in
    ends (walkable_good x.c x.facts.now x.prices.now x.walkable x.small) x.counted c.loop-rounds.invariant c.sweep-changed.ensures.swept
    c.sweep-changed.ensures.noted c.fill.ensures c.clear.ensures c.if-not-changed.true

pub loop-rounds-preserved : goal.loop-rounds-preserved
loop-rounds-preserved c =
    let x = c.args.self.now in
    goes_on (walkable_good x.c x.facts.now x.prices.now x.walkable x.small) x.counted c.loop-rounds.invariant c.sweep-changed.ensures.swept
    c.sweep-changed.ensures.noted c.copy.ensures c.if-not-changed.false
