-- What edition 2 has and edition 1 hasn't: a quota of stored tests, and a mark of each operator.
use Rattle.std.specs.Prelude.{ℕ, Bool, cond, eqb}
use Rattle.meaning.specs.Limits.{quota_edition}

abbrev pub has_quota : ℕ → Bool
has_quota e = eqb e quota_edition

-- what stands in a place that edition 2 alone reads: in edition 1 it is 0, whatever stands there
abbrev pub read_in : ℕ → ℕ → ℕ
read_in e x = cond (has_quota e) x 0
