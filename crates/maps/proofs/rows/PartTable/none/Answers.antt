-- `PartTable::none` meets its contract: where nothing is put in, every part is small. Assumes nothing.
use Rattle.maps.proofs.Parting.{parts_blank}
use Rattle.maps.proofs.rows.PartTable.none.Goals as goal

pub invariant_of-result : goal.invariant_of-result
invariant_of-result c = record { parts = parts_blank }
