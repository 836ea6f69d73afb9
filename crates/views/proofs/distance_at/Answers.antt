-- `distance_at` meets its contract: the first fault is answered, and where there is none, what the map's table says of the state's image. Assumes nothing.
use Rattle.std.proofs.Common.{ap, ◌∙◌}
use Rattle.tables.specs.Layout.{Tables}
use Rattle.tables.specs.Task.{held}
use Rattle.views.specs.Entries.{distance_said}
use Rattle.views.proofs.Judging.{given_distance}
use Rattle.views.proofs.Summing.{told_said, distance_answer}
use Rattle.views.proofs.distance_at.Goals as goal

pub returns : goal.returns
returns c =
    let t : Tables = held c.args.t in
    let asked = c.in_ok-p.ensures in
    given_distance t c.args.map c.args.s.now c.in_ok-p.p.cost asked.faultless asked.at.cost
    (distance_answer c.told.result ∙ ap distance_said (told_said c.in_ok-p.p.cost c.told.ensures))
