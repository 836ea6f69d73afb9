-- `choosing::choice_of` meets its contract: without a fault of what is handed in the lists are judged over tables fit for the steps. Assumes nothing.
use Rattle.tables.specs.Task.{held}
use Rattle.sequences.proofs.Accepted.{usable}
use Rattle.sequences.proofs.choosing.choice_of.Goals as goal

pub choose_lists-requires : goal.choose_lists-requires
choose_lists-requires c = usable (held c.args.t) c.args.s.now c.input_fault.ensures c.in_ok-input_fault.was
