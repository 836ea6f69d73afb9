-- What `shares_fault` keeps true: the maps passed so far are clean.
use Rattle.std.proofs.Common.{◌≡◌}
use Rattle.tables.specs.Task.{held, task_of}
use Rattle.scan.specs.Found.{clean}
use Rattle.scan.specs.Scan.{each, shares_fault}
use Rattle.scan.proofs.shares_fault.Given as goal

abbrev pub invariant-loop-m : goal.invariant-loop-m
invariant-loop-m l = each (shares_fault (task_of (held l.t))) l.m 0 ≡ clean
