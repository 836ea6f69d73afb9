-- What `Space::sweep` keeps true: the places passed so far are made of `old` by one step more, `changed` says whether one of them differs,
-- and what made them fall is noted.
use Rattle.sweep.specs.Inside.Walks.{space_of}
use Rattle.sweep.specs.Inside.Sweeps.{Swept, Noted}
use Rattle.sweep.proofs.space.Space.sweep.Given as goal

abbrev pub invariant-loop-a : goal.invariant-loop-a
invariant-loop-a l =
    let G = space_of l.self.c l.self.facts.now l.self.prices.now in
    record { swept : Swept l.a G l.old l.initial.new l.new l.changed; noted : Noted l.a G l.old l.initial.best l.best }
