-- The tables of a task whose operators stand in a row of records, cost and facts together.
use Rattle.std.specs.Prelude.{ℕ, zero, suc, List, [], length, get_or, set, take, replicate, min}
use Rattle.meaning.specs.Limits.{most_vars, most_ops}
use Rattle.tables.specs.declared.Counts.{Counts}
use Rattle.tables.specs.Layout.{Tables, place, pre_row, eff_row, mark_place, facts_room, costs_room}
use Rattle.tables.specs.Task.{tables}
use Rattle.records.specs.declared.OpRecord.{OpRecord}
use Rattle.records.specs.declared.laying.Laid.{Laid}

-- the record of operator o; past the row's end one that says nothing
abbrev pub no_record : OpRecord
no_record = record { cost = 0; pre = []; eff = []; mark = 0 }

abbrev pub record_at : List OpRecord → ℕ → OpRecord
record_at rows o = get_or rows o no_record

-- the facts with n of a list's places laid at a row
unfoldable pub row_laid : List ℕ → ℕ → List ℕ → ℕ → List ℕ
row_laid facts row values zero = facts
row_laid facts row values (suc v) = set (row_laid facts row values v) (place row v) (get_or values v 0)

-- operator o's record in its places: its preconditions, its effects and its mark among the facts, its cost among the costs
unfoldable pub laid_one : Laid → ℕ → OpRecord → Laid
laid_one t o r =
    record {
      facts = set (row_laid (row_laid t.facts (pre_row o) r.pre most_vars) (eff_row o) r.eff most_vars) (mark_place o) r.mark;
      costs = set t.costs o r.cost;
    }

-- the first n records in their places
unfoldable pub laid_of : List OpRecord → ℕ → Laid → Laid
laid_of rows zero t = t
laid_of rows (suc o) t = laid_one (laid_of rows o t) o (record_at rows o)

-- the lent facts, as far as a table goes, and costs of 0
abbrev pub blank : List ℕ → Laid
blank facts = record { facts = take facts_room facts; costs = replicate costs_room 0 }

-- one above the most operators: it stands for every larger number, all of which are refused
abbrev pub more_ops : ℕ
more_ops = suc most_ops

-- the row's length is the number of operators
abbrev pub counted : Counts → ℕ → Counts
counted c n = record { vars = c.vars; ops = min n more_ops; maps = c.maps; edition = c.edition; quota = c.quota }

-- THE ROW'S TABLES: the row's records laid over the lent facts, at most as many as there may be; the places of the operators beyond the row stay as they were lent, their costs are 0
unfoldable pub records_tables : Counts → List ℕ → List ℕ → List OpRecord → Tables
records_tables c facts shares rows =
    let t = laid_of rows (min (length rows) most_ops) (blank facts) in
    tables (counted c (length rows)) t.facts t.costs shares
