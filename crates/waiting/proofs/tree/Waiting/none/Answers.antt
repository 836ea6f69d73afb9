-- `Waiting::none` meets its contract: where all keys are none, so is the least of any of them. Assumes nothing.
use Rattle.std.proofs.lemmas.List.{length-replicate}
use Rattle.waiting.specs.Trees.{NOKEY}
use Rattle.waiting.proofs.Trees.{tree_none}
use Rattle.waiting.proofs.tree.Waiting.none.Goals as goal

pub invariant_of-result : goal.invariant_of-result
invariant_of-result c = record { room = length-replicate 4368 NOKEY; tree = tree_none }
