-- A fault of the lines is handed on, and then what the maps charge decides.
use Rattle.std.proofs.Common.{◌∙◌, sym, rules}
use Rattle.tables.specs.Task.{held, task_of}
use Rattle.scan.specs.Scan.{facts_fault, operator_fault, classes_fault, map_fault, shares_fault, split_fault}
use Rattle.scan.specs.Inside.Parts.{lines_fault}
use Rattle.scan.proofs.Rules.{few_ops, few_maps}
use Rattle.scan.proofs.body_fault.Goals as goal

pub charges_fault-requires : goal.charges_fault-requires
charges_fault-requires c = (
  few_ops (task_of (held c.args.t)) c.requires,
  few_maps (task_of (held c.args.t)) (sym c.lines_fault.ensures ∙ c.in_ok-lines_fault.was),
)

pub returns-in_err-lines_fault : goal.returns-in_err-lines_fault
unfolding lines_fault operator_fault facts_fault map_fault classes_fault shares_fault split_fault
returns-in_err-lines_fault c = search rules

pub returns : goal.returns
unfolding lines_fault operator_fault facts_fault map_fault classes_fault shares_fault split_fault
returns c = search rules
