-- `asked_image` meets its contract: a fault is answered, and where there is none, the state's image may be asked for. Assumes nothing.
use Rattle.std.proofs.Common.{sym, ◌∙◌}
use Rattle.tables.specs.Layout.{Tables}
use Rattle.tables.specs.Task.{held}
use Rattle.views.proofs.Judging.{image_asked}
use Rattle.views.proofs.asked_image.Goals as goal

pub at_image-requires : goal.at_image-requires
at_image-requires c =
    let t : Tables = held c.args.t in
    image_asked t c.args.map c.args.s.now (sym c.distance_fault.ensures ∙ c.in_ok-distance_fault.was)
