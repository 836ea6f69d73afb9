-- `desk_offer` meets its contract: memory that is too short is 8 before all; else the offer is made to the run that stands there. Assumes nothing.
use Rattle.std.proofs.Common.{◌∙◌, sym, ap}
use Rattle.tables.specs.Layout.{Tables}
use Rattle.ledger.specs.Ledger.{offered}
use Rattle.lent_runs.specs.Left.{offer_handed}
use Rattle.lent_runs.proofs.Handed.{left_long, left_short, long_enough, offered_in}
use Rattle.desk_c.proofs.desk_offer.Goals as goal

pub returns-then-run_short : goal.returns-then-run_short
unfolding offer_handed
returns-then-run_short c = left_short _ _ _ _ (sym c.run_short.ensures ∙ c.if-run_short.true) c.word.ensures

pub run_in-run-requires : goal.run_in-run-requires
run_in-run-requires c = long_enough _ _ (sym c.run_short.ensures ∙ c.if-run_short.false)

pub hand_back-requires : goal.hand_back-requires
hand_back-requires c = long_enough _ _ (sym c.run_short.ensures ∙ c.if-run_short.false)

pub returns : goal.returns
unfolding offer_handed
returns c =
    left_long _ _ _ _ _ (sym c.run_short.ensures ∙ c.if-run_short.false)
    (offered_in _ _ _ _ _ _ (c.offer-o.ensures ∙ ap (λ (t : Tables). offered t c.run_in-run.result c.args.number c.args.op) c.lent_task-task.ensures) c.run_in-run.ensures)
    c.hand_back.ensures
