-- `put_bytes` meets its contract: the start goes to the first places and the state now behind it. Assumes nothing.
use Rattle.std.proofs.Common.{refl, arith}
use Rattle.lent_runs.proofs.Parts.{bytes_put}
use Rattle.lent_runs.proofs.put_bytes.Goals as goal

pub returns : goal.returns
returns c =
    bytes_put c.args.run.now c.args.bytes.now c.copy_from_slice.new.self c.copy_from_slice-2.new.self _ (omega arith) (omega arith) c.requires
    c.copy_from_slice.ensures.after c.copy_from_slice-2.ensures.after refl
