-- What `Space::count_rounds` keeps true: every round so far changed something, so the rounds are fewer than the states.
use Rattle.std.proofs.Common.{◌-◌}
use Rattle.sweep.specs.Inside.Walks.{space_of}
use Rattle.sweep.proofs.Rounding.{Turn}
use Rattle.sweep.proofs.space.Space.count_rounds.Given as goal

abbrev pub invariant-loop-rounds : goal.invariant-loop-rounds
invariant-loop-rounds l = Turn (space_of l.self.c l.self.facts.now l.self.prices.now) l.initial.t l.initial.best l.initial.w l.t l.best l.w l.rounds

abbrev pub decreases-loop-rounds : goal.decreases-loop-rounds
decreases-loop-rounds l = l.self.states - l.rounds
