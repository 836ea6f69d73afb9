-- What `lines_fault` keeps true: the operators, of one of them its facts, and then the maps, passed so far are clean.
use Rattle.std.proofs.Common.{◌≡◌}
use Rattle.refusals.specs.declared.Refusal.TheVariants.{OutOfRange}
use Rattle.tables.specs.Lines.{line_of_op}
use Rattle.tables.specs.Task.{held, task_of}
use Rattle.scan.specs.Found.{clean}
use Rattle.scan.specs.Scan.{each, operator_fault, map_fault}
use Rattle.scan.specs.Inside.Parts.{facts_fit}
use Rattle.scan.proofs.Walks.{tests}
use Rattle.scan.proofs.lines_fault.Given as goal

abbrev pub invariant-loop-o : goal.invariant-loop-o
invariant-loop-o l = each (operator_fault (task_of (held l.t))) l.o 0 ≡ clean

abbrev pub invariant-loop-v : goal.invariant-loop-v
invariant-loop-v l = each (tests (facts_fit l.t.facts.now l.o) (λ v. OutOfRange (line_of_op l.t.counts.edition l.o))) l.v 0 ≡ clean

abbrev pub invariant-loop-m : goal.invariant-loop-m
invariant-loop-m l = each (map_fault (task_of (held l.t))) l.m 0 ≡ clean
