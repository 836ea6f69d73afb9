-- A sum of distances under way: what the functions below `bound` ask and give.
use Rattle.std.specs.Prelude.{ℕ, ◌*◌, Option, None, Some}
use Rattle.graph.specs.Cost.{Cost, none, fin}
use Rattle.meaning.specs.Limits.{most_maps}
use Rattle.sweep.specs.Said.{NONE}

-- none once a map has said none
abbrev pub sum_said : Option ℕ → Cost
sum_said None = none
sum_said (Some total) = fin total

-- the most that the numbers of all maps come to
abbrev pub most_total : ℕ
most_total = most_maps * NONE
