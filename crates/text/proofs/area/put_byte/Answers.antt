-- Past the end nothing is stored.
use Rattle.std.proofs.Common.{◌%◌, sym}
use Rattle.std.proofs.Math.Seq.{set_out}
use Rattle.text.specs.Inside.Area.{put_byte}
use Rattle.text.proofs.area.put_byte.Goals as goal

pub returns-else-i-w : goal.returns-else-i-w
unfolding put_byte
returns-else-i-w c = sym (set_out c.args.w.now c.args.i (c.args.v % 256) c.if-i-w.false)
