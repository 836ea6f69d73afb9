-- What a scan finds: nothing, or the first fault.
use Rattle.std.specs.Prelude.{Result, Ok}
use Rattle.refusals.specs.declared.Refusal.{Refusal}

abbrev pub Found : Type 0
Found = Result (Unit {0}) Refusal

abbrev pub clean : Found
clean = Ok tt
