-- What `sums::sum_of` keeps true: the total so far is the sum of the maps passed so far.
use Rattle.std.proofs.Common.{◌≡◌, [], ◌*◌, ◌≤◌}
use Rattle.graph.specs.Cost.{fin}
use Rattle.meaning.specs.Bound.{away, summed}
use Rattle.tables.specs.Task.{task_of, tables, state_of}
use Rattle.sweep.specs.Said.{NONE}
use Rattle.views.proofs.sums.sum_of.Given as goal

abbrev pub invariant-loop-m : goal.invariant-loop-m
invariant-loop-m l = record {
  small : l.total ≤ l.m * NONE;
  summed_so_far : fin l.total ≡ summed (away (task_of (tables l.c l.facts [] l.shares)) (state_of l.s)) l.m;
}
