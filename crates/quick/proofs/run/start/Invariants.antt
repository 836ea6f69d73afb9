-- What `run::start` keeps true: the goals among the states passed so far are set, whatever operators cost.
use Rattle.std.proofs.Common.{List, ℕ}
use Rattle.quick.specs.Inside.Runs.{scaled_of, Run, Nothing}
use Rattle.quick.proofs.run.start.Given as goal

abbrev pub invariant-loop-a : goal.invariant-loop-a
invariant-loop-a l = (prices : List ℕ) → Run (scaled_of l.map.c l.map.facts.now prices) l.a 0 Nothing l.labels l.keys l.best
