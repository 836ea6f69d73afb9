-- `desk_best_at` meets its contract: the word of what the desk answers. Assumes nothing.
use Rattle.std.proofs.Common.{subst}
use Rattle.tables.specs.Layout.{Tables}
use Rattle.views.specs.Entries.{BestGiven}
use Rattle.desk_c.proofs.desk_best_at.Goals as goal

pub returns : goal.returns
returns c =
    let given = subst (λ (t : Tables). BestGiven t c.args.map c.args.state.now c.best_at.result) c.lent_task-task.ensures c.best_at.ensures in
    (c.best_at.result, given, c.word.ensures)
