-- `tree::take` meets its contract: the leaf is set to NOKEY, and the two nodes above it are mended. Assumes nothing.
use Rattle.std.proofs.Common.{refl, arith}
use Rattle.waiting.specs.Trees.{NOKEY}
use Rattle.waiting.proofs.Trees.{mended}
use Rattle.waiting.proofs.tree.take.Goals as goal

pub returns : goal.returns
returns c =
    let x = c.args in
    let pre = c.requires in
    mended x.keys.now _ c.mend.new.keys c.mend-2.new.keys x.a NOKEY _ _ _ _ _ pre.0 pre.1 pre.2 (omega arith) (omega arith) (omega arith)
    refl c.mend.ensures.keys_after c.mend-2.ensures.keys_after refl refl
