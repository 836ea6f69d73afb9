-- `writer::pen::Pen::put_task` meets its contract: its lines one after another. Assumes nothing.
use Rattle.grammar.specs.Spelling.{keyed, op_text, map_text, spelled}
use Rattle.writer.proofs.Pens.{after}
use Rattle.writer.proofs.pen.Pen.put_task.Goals as goal

pub returns : goal.returns
unfolding keyed op_text map_text spelled
returns c =
    let head = after (after (after c.put_count.ensures c.put_count-2.ensures) c.put_values.ensures) c.put_values-2.ensures in
    let front = after (after head c.put_goal.ensures) c.put_quota.ensures in
    let body = after (after front c.put_count-3.ensures) c.put_ops.ensures in
    after (after (after body c.put_count-4.ensures) c.put_maps.ensures) c.put_split.ensures
