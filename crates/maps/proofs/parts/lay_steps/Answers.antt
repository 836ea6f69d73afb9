-- `parts::lay_steps` meets its contract: a row that is laid of all parts says where each operator leads and whether the goal is met. Assumes nothing.
use Rattle.maps.proofs.Parting.{parted_laid}
use Rattle.maps.proofs.parts.lay_steps.Goals as goal

pub returns-clause-stepped : goal.returns-clause-stepped
returns-clause-stepped c = parted_laid c.requires.0 c.parts_of.ensures c.lay.ensures.laid
