-- `Backwards::start` meets its contract: a run of any prices keeps the tree right. Assumes nothing.
use Rattle.std.proofs.Common.{[]}
use Rattle.quick.proofs.run.Backwards.start.Goals as goal

pub invariant_of-found : goal.invariant_of-found
invariant_of-found g c = let R = c.start.ensures [] in (R.size_t, (R.tree, tt))
