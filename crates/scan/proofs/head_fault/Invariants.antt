-- What `head_fault` keeps true: of the variables passed so far the number of values, the initial value, and the goal's value are in range.
use Rattle.std.proofs.Common.{◌≡◌}
use Rattle.tables.specs.Task.{held, task_of}
use Rattle.scan.specs.Found.{clean}
use Rattle.scan.specs.Scan.{each}
use Rattle.scan.proofs.Heads.{doms, inits, goals}
use Rattle.scan.proofs.head_fault.Given as goal

abbrev pub invariant-loop-v : goal.invariant-loop-v
invariant-loop-v l = each (doms (task_of (held l.t))) l.v 0 ≡ clean

abbrev pub invariant-loop-v-2 : goal.invariant-loop-v-2
invariant-loop-v-2 l = each (inits (task_of (held l.t))) l.v 0 ≡ clean

abbrev pub invariant-loop-v-3 : goal.invariant-loop-v-3
invariant-loop-v-3 l = each (goals (task_of (held l.t))) l.v 0 ≡ clean
