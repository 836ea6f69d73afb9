-- The columns of a ledger: what each map is paid for an operator and what of its cost is unshared, which sum to the cost; and how many tests were stored.
use Rattle.std.specs.Prelude.{ℕ, ◌+◌, ◌-◌, cond, ltb, eqb}
use Rattle.meaning.specs.Limits.{most_maps}
use Rattle.meaning.specs.Split.{Task, sum}

-- columns 0 to 7 are what the maps were paid, column 8 is the unshared one
abbrev pub unshared : ℕ
unshared = most_maps

-- these together are the steps' cost
abbrev pub cost_columns : ℕ
cost_columns = unshared + 1

-- column 9 counts the stored tests: a count is no payment
abbrev pub stored_tests : ℕ
stored_tests = cost_columns

-- cost less shares
unfoldable pub rest : Task → ℕ → ℕ
rest T o = T.sas.cost o - sum (λ m. T.share m o) T.maps

-- what operator o adds to a column: to a map's its share, to the unshared one cost less shares, to that of the stored tests its mark, to an unused one nothing
unfoldable pub gain : Task → ℕ → ℕ → ℕ
gain T column o =
    cond (ltb column T.maps) (T.share column o)
    (cond (eqb column unshared) (rest T o) (cond (eqb column stored_tests) (T.mark o) 0))
