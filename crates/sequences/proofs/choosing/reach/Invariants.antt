-- What is left of the list gives the rest of the answer.
use Rattle.tables.specs.Task.{held, task_of, state_of}
use Rattle.sequences.specs.Choosing.{reached_from}
use Rattle.sequences.proofs.Walks.{Along}
use Rattle.sequences.proofs.choosing.reach.Given as goal

abbrev pub invariant-loop-i : goal.invariant-loop-i
invariant-loop-i l = Along (reached_from (task_of (held l.t))) (state_of l.fn.start) l.ops l.i l.way.stored l.way.paid l.way.state
