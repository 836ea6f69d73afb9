-- `judge` meets its contract: without a fault of what is handed in the list is judged over tables fit for the steps. Assumes nothing.
use Rattle.tables.specs.Task.{held}
use Rattle.sequences.proofs.Accepted.{usable}
use Rattle.sequences.proofs.judge.Goals as goal

pub judge_list-requires : goal.judge_list-requires
judge_list-requires c = usable (held c.args.t) c.args.s.now c.input_fault.ensures c.in_ok-input_fault.was
