-- What `Space::fill` keeps true: the places passed so far say the costs over no steps.
use Rattle.std.proofs.Common.{[]}
use Rattle.sweep.specs.Inside.Walks.{space_of}
use Rattle.sweep.specs.Inside.Sweeps.{Filled}
use Rattle.sweep.proofs.space.Space.fill.Given as goal

abbrev pub invariant-loop-a : goal.invariant-loop-a
invariant-loop-a l = Filled l.a (space_of l.self.c l.self.facts.now []) l.initial.t l.t
