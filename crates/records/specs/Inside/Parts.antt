-- The copy of the lent facts that the records are laid over, and judging over it.
use Rattle.std.specs.Prelude.{ℕ, cond, List, leb, replicate, Result, Err}
use Rattle.refusals.specs.declared.Refusal.TheVariants.{TableTooShort}
use Rattle.tables.specs.declared.Counts.{Counts}
use Rattle.tables.specs.Layout.{facts_room, costs_room}
use Rattle.tables.specs.Task.{state_of, tables}
use Rattle.tables.specs.Steps.{overwritten}
use Rattle.refusals.specs.declared.Refusal.{Refusal}
use Rattle.sequences.specs.Judging.{judged_of}
use Rattle.records.specs.declared.laying.Laid.{Laid}
use Rattle.records.specs.Records.{counted}

-- a copy of the lent facts that always has its room: places past their end are 0
abbrev pub copy_of : List ℕ → Laid
copy_of facts = record { facts = overwritten (state_of facts) (replicate facts_room 0) facts_room; costs = replicate costs_room 0 }

-- judging over such a copy: 8 where the lent facts did not have the room, else as over the tables
unfoldable pub laid_judged : Counts → ℕ → ℕ → Laid → List ℕ → List ℕ → List ℕ → Result ℕ Refusal
laid_judged c room n t shares s ops =
    cond (leb facts_room room) (judged_of (tables (counted c n) t.facts t.costs shares) s ops) (Err TableTooShort)
