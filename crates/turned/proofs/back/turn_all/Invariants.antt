-- What `back::turn_all` keeps true: the operators passed so far are turned round.
use Rattle.std.proofs.Common.{ℕ, ◌<◌, ◌≡◌, length}
use Rattle.turned.specs.Inside.Turns.{TurnedAt}
use Rattle.turned.proofs.back.turn_all.Given as goal

abbrev pub invariant-loop-o : goal.invariant-loop-o
invariant-loop-o l = record { room : length l.turns ≡ 64; turned : (p : ℕ) → p < l.o → TurnedAt l.c l.facts l.n l.turns l.back p }
