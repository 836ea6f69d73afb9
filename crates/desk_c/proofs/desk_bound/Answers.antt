-- `desk_bound` meets its contract: every sum that the desk gives fits its word. Assumes nothing.
use Rattle.std.proofs.Common.{subst}
use Rattle.tables.specs.Layout.{Tables}
use Rattle.tables.specs.Task.{held}
use Rattle.views.specs.Entries.{BoundGiven}
use Rattle.words.proofs.Fits.{sum_fits}
use Rattle.desk_c.proofs.desk_bound.Goals as goal

pub word-requires : goal.word-requires
word-requires c = sum_fits (held c.lent_task-task.result) c.args.state.now c.bound.result c.bound.ensures

pub returns : goal.returns
returns c =
    let given = subst (λ (t : Tables). BoundGiven t c.args.state.now c.bound.result) c.lent_task-task.ensures c.bound.ensures in
    (c.bound.result, given, c.word.ensures)
