-- What `Backwards::relax_op` keeps true: the steps from the states passed so far are pending no more.
use Rattle.quick.specs.Inside.Works.{graph_of, Left, Relaxed}
use Rattle.quick.proofs.run.Backwards.relax_op.Given as goal

abbrev pub invariant-loop-offset : goal.invariant-loop-offset
invariant-loop-offset l =
    Relaxed (graph_of l.self) l.b l.label (Left l.self.n l.self.turns.now l.self.back.now l.b l.o l.offset-index)
    l.initial.labels l.initial.keys l.initial.best l.labels l.keys l.best
