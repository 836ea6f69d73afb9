-- The limits of document 01, and of document 02 the editions, the quota and the step limit, each said once. `limits` in src/ has the same numbers for the code.
use Rattle.std.specs.Prelude.{ℕ}

-- a text, in bytes, and its editions: 1, and 2, which alone has a quota and marks
abbrev pub most_bytes : ℕ
most_bytes = 16384

abbrev pub most_edition : ℕ
most_edition = 2

abbrev pub quota_edition : ℕ
quota_edition = 2

-- variables, and values of a variable
abbrev pub most_vars : ℕ
most_vars = 8

abbrev pub most_values : ℕ
most_values = 8

-- operators, and the cost or the share of one
abbrev pub most_ops : ℕ
most_ops = 64

abbrev pub most_cost : ℕ
most_cost = 1000000

-- maps, and abstract states of a map
abbrev pub most_maps : ℕ
most_maps = 8

abbrev pub most_states : ℕ
most_states = 4096

-- steps of a sequence or a run
unfoldable pub most_steps : ℕ
most_steps = 1024

-- the quota of stored tests, and an operator's mark: 1 if it stores one
abbrev pub most_quota : ℕ
most_quota = 1024

abbrev pub most_mark : ℕ
most_mark = 1
