-- `best_at` meets its contract: the first fault is answered, and where there is none, what the map's table advises at the state's image. Assumes nothing.
use Rattle.tables.specs.Layout.{Tables}
use Rattle.tables.specs.Task.{held}
use Rattle.sweep.specs.Said.{advised}
use Rattle.views.proofs.Judging.{given_best}
use Rattle.views.proofs.Summing.{best_answer}
use Rattle.views.proofs.best_at.Goals as goal

pub returns : goal.returns
returns c =
    let t : Tables = held c.args.t in
    let asked = c.in_ok-p.ensures in
    given_best t c.args.map c.args.s.now (advised c.in_ok-p.p.op) asked.faultless asked.at.op
    (best_answer c.in_ok-p.p.op c.from.ensures c.from-2.ensures c.told.ensures)
