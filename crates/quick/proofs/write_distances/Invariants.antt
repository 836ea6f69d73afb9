-- What `write_distances` keeps true: the places passed so far have what their labels show.
use Rattle.std.proofs.Common.{◌≡◌, get_or}
use Rattle.maps.specs.Inside.Made.{Made}
use Rattle.quick.specs.Inside.Answers.{shown}
use Rattle.quick.proofs.write_distances.Given as goal

abbrev pub invariant-loop-a : goal.invariant-loop-a
invariant-loop-a l = Made (λ u x. x ≡ shown (get_or l.labels u 0)) l.a l.initial.out l.out
