-- `tree::low` meets its contract: the least over the keys passed so far. Assumes nothing.
use Rattle.std.proofs.Common.{refl}
use Rattle.waiting.specs.Trees.{lowest}
use Rattle.waiting.proofs.Trees.{lowest_more, lowest_all}
use Rattle.waiting.proofs.tree.low.Goals as goal

pub loop-key-init : goal.loop-key-init
unfolding lowest
loop-key-init c = refl

pub loop-key-preserved : goal.loop-key-preserved
loop-key-preserved c =
    lowest_more c.args.keys.now c.args.at c.loop-key.key-index 16 c.requires c.loop-key-test.true c.loop-key.invariant c.min-least.ensures

pub returns : goal.returns
returns c = lowest_all c.args.keys.now c.args.at c.loop-key.key-index 16 c.requires c.loop-key.auto.key-index-end c.loop-key-test.false c.loop-key.invariant
