-- `desk_distance_at` meets its contract: the word of what the desk answers. Assumes nothing.
use Rattle.std.proofs.Common.{subst}
use Rattle.tables.specs.Layout.{Tables}
use Rattle.views.specs.Entries.{DistanceGiven}
use Rattle.desk_c.proofs.desk_distance_at.Goals as goal

pub returns : goal.returns
returns c =
    let given = subst (λ (t : Tables). DistanceGiven t c.args.map c.args.state.now c.distance_at.result) c.lent_task-task.ensures c.distance_at.ensures in
    (c.distance_at.result, given, c.word.ensures)
