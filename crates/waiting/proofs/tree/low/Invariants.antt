-- What `tree::low` keeps true: the least over the keys passed so far.
use Rattle.std.proofs.Common.{◌≡◌}
use Rattle.waiting.specs.Trees.{lowest}
use Rattle.waiting.proofs.tree.low.Given as goal

abbrev pub invariant-loop-key : goal.invariant-loop-key
invariant-loop-key l = l.least ≡ lowest l.keys l.at l.key-index
