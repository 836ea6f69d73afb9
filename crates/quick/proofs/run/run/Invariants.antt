-- What `run::run` keeps true: between two turns nothing is pending, and a turn takes a state that waits, so that the sum of weights falls.
use Rattle.std.proofs.Common.{◌≡◌}
use Rattle.meaning.specs.Split.{sum}
use Rattle.waiting.specs.Trees.{lowest}
use Rattle.quick.specs.Inside.Runs.{Run, Nothing, weight}
use Rattle.quick.specs.Inside.Works.{graph_of}
use Rattle.quick.proofs.run.run.Given as goal

abbrev pub invariant-loop-key : goal.invariant-loop-key
invariant-loop-key l =
    record {
      run : Run (graph_of l.map) (graph_of l.map).states 0 Nothing l.labels l.keys l.best;
      least : l.key ≡ lowest l.keys 0 16;
    }

abbrev pub decreases-loop-key : goal.decreases-loop-key
decreases-loop-key l = sum (weight l.labels l.keys) (graph_of l.map).states
