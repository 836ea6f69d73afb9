-- `desk_begin` meets its contract: memory that is too short is 8 before all; else what the start is answered is handed back. Assumes nothing.
use Rattle.std.proofs.Common.{◌∙◌, sym, ap}
use Rattle.tables.specs.Layout.{Tables}
use Rattle.ledger.specs.Ledger.{begun}
use Rattle.lent_runs.specs.Left.{begin_handed}
use Rattle.lent_runs.proofs.Handed.{left_long, left_short, long_enough}
use Rattle.desk_c.proofs.desk_begin.Goals as goal

pub returns-then-run_short : goal.returns-then-run_short
unfolding begin_handed
returns-then-run_short c = left_short _ _ _ _ (sym c.run_short.ensures ∙ c.if-run_short.true) c.word.ensures

pub hand_back-requires : goal.hand_back-requires
hand_back-requires c = long_enough _ _ (sym c.run_short.ensures ∙ c.if-run_short.false)

pub returns : goal.returns
unfolding begin_handed
returns c =
    left_long _ _ _ _ _ (sym c.run_short.ensures ∙ c.if-run_short.false)
    (c.begin-o.ensures ∙ ap (λ (t : Tables). begun t c.args.start.now) c.lent_task-task.ensures) c.hand_back.ensures
