-- On which line of a task's text each thing stands, counted from 1: the edition, the counts, the initial state and the goal, the quota, each operator, map and
-- map's shares. Lines after the goal are one higher where there is a quota, and that is said once: by `quota_lines`.
use Rattle.std.specs.Prelude.{ℕ, ◌+◌}
use Rattle.tables.specs.Editions.{read_in}

abbrev pub line_of_edition : ℕ
line_of_edition = 1

abbrev pub line_of_vars : ℕ
line_of_vars = 2

abbrev pub line_of_dom : ℕ
line_of_dom = 3

abbrev pub line_of_init : ℕ
line_of_init = 4

abbrev pub line_of_goal : ℕ
line_of_goal = 5

abbrev pub line_of_quota : ℕ
line_of_quota = 6

-- how many lines say the quota, in edition e
unfoldable pub quota_lines : ℕ → ℕ
quota_lines e = read_in e 1

abbrev pub line_of_ops : ℕ → ℕ
line_of_ops e = 6 + quota_lines e

-- operator o's line
abbrev pub line_of_op : ℕ → ℕ → ℕ
line_of_op e o = 7 + quota_lines e + o

-- how many maps, after so many operators; map m's line; the line of map m's shares, after so many maps
abbrev pub line_of_maps : ℕ → ℕ → ℕ
line_of_maps e ops = 7 + quota_lines e + ops

abbrev pub line_of_map : ℕ → ℕ → ℕ → ℕ
line_of_map e ops m = 8 + quota_lines e + ops + m

abbrev pub line_of_shares : ℕ → ℕ → ℕ → ℕ → ℕ
line_of_shares e ops maps m = 8 + quota_lines e + ops + maps + m
