-- The tables that were judged and found clean.
use Rattle.tables.specs.Layout.{Tables}
use Rattle.tables.specs.Task.{held}
use Rattle.ledger.specs.declared.judged.Judged.{Judged}

-- what stands in them
abbrev pub its_tables : Judged → Tables
its_tables t = held t.tables
