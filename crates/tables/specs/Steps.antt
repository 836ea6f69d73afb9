-- Steps over the lent tables: may run, may store, meets the goal, the state after, as lists; and which operators alter nothing. `proofs/Meant.antt` shows that they are those of the task.
use Rattle.std.specs.Prelude.{Bool, List, ℕ, zero, suc, ◌+◌, leb, get_or, set, replicate}
use Rattle.meaning.specs.Limits.{most_vars}
use Rattle.meaning.specs.Sas.{put}
use Rattle.meaning.specs.Views.{holds, every, asked}
use Rattle.tables.specs.declared.Counts.{Counts}
use Rattle.tables.specs.Task.{state_of}
use Rattle.tables.specs.Layout.{row_at, pre_at, eff_at, goal_row, pre_row, eff_row, quota_of, mark_of}

-- what a row of facts says of variable v holds in the state; of the first n variables
abbrev pub says_of : List ℕ → ℕ → List ℕ → ℕ → Bool
says_of facts row s v = holds (row_at facts row v) (get_or s v 0)

unfoldable pub row_holds : ℕ → List ℕ → ℕ → List ℕ → Bool
row_holds n facts row s = every (says_of facts row s) n

-- each precondition of operator o holds in the state
unfoldable pub may_run : Counts → List ℕ → List ℕ → ℕ → Bool
may_run c facts s o = row_holds c.vars facts (pre_row o) s

-- the state meets the goal
unfoldable pub meets_goal : Counts → List ℕ → List ℕ → Bool
meets_goal c facts s = row_holds c.vars facts goal_row s

-- after n stored tests operator o doesn't store beyond the quota
unfoldable pub can_store : Counts → List ℕ → ℕ → ℕ → Bool
can_store c facts n o = leb (n + mark_of c facts o) (quota_of c)

-- the list with f k at each place k below n
unfoldable pub overwritten : (ℕ → ℕ) → List ℕ → ℕ → List ℕ
overwritten f l zero = l
overwritten f l (suc n) = set (overwritten f l n) n (f n)

-- the value of variable v after what a row of facts says of it
abbrev pub value_after : List ℕ → ℕ → List ℕ → ℕ → ℕ
value_after facts row s v = put (row_at facts row v) (get_or s v 0)

-- the state after operator o: each effect holds and all else stays
unfoldable pub stepped : Counts → List ℕ → List ℕ → ℕ → List ℕ
stepped c facts s o = overwritten (value_after facts (eff_row o) s) s c.vars

-- operator o is idle: each place of its effects' row is 0, or equals that of its preconditions' row
unfoldable pub is_idle : ℕ → List ℕ → ℕ → Bool
is_idle n facts o = every (λ v. asked (pre_at facts o v) (eff_at facts o v)) n

-- the lent state by value: a place for each variable, those beyond the task's 0
unfoldable pub copied : List ℕ → ℕ → List ℕ
copied s vars = overwritten (state_of s) (replicate most_vars 0) vars
