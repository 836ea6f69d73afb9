-- `wants::lay_fits` meets its contract: it lays the rows of the facts with wants for preconditions. Assumes nothing.
use Rattle.std.proofs.Common.{arith}
use Rattle.turned.proofs.Wanting.{states_kept, wants_walkable, wants_fit}
use Rattle.turned.proofs.wants.lay_fits.Goals as goal

pub lay_steps-requires : goal.lay_steps-requires
lay_steps-requires c =
    let pre = c.requires in
    let wants = c.wants-w.ensures in
    (wants_walkable pre.0 wants, omega arith, omega (arith, pre.1, states_kept pre.0 wants))

pub returns-clause-fits : goal.returns-clause-fits
returns-clause-fits c = wants_fit c.requires.0 c.wants-w.ensures c.lay_steps.ensures.stepped
