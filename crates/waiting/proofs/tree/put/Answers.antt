-- `tree::put` meets its contract: the leaf and the two nodes above it are lowered to the key. Assumes nothing.
use Rattle.std.proofs.Common.{refl, arith}
use Rattle.waiting.proofs.Trees.{lowered}
use Rattle.waiting.proofs.tree.put.Goals as goal

pub returns : goal.returns
returns c =
    let x = c.args in
    let pre = c.requires in
    lowered x.keys.now _ c.sink.new.keys c.sink-2.new.keys x.a x.key _ _ _ _ _ pre.0 pre.1 pre.2 (omega arith) (omega arith) (omega arith)
    refl c.sink.ensures.keys_after c.sink-2.ensures.keys_after pre.3 refl refl
