-- What `Backwards::relax_into` keeps true: the steps by the operators passed so far are pending no more.
use Rattle.quick.specs.Inside.Runs.{From}
use Rattle.quick.specs.Inside.Works.{graph_of, Relaxed}
use Rattle.quick.proofs.run.Backwards.relax_into.Given as goal

abbrev pub invariant-loop-o : goal.invariant-loop-o
invariant-loop-o l =
    Relaxed (graph_of l.self) l.b l.label (From l.o)
    l.initial.labels l.initial.keys l.initial.best l.labels l.keys l.best
