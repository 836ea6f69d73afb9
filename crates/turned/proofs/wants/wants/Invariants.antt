-- What `wants::wants` keeps true: the places passed so far are made.
use Rattle.std.proofs.Common.{◌≡◌}
use Rattle.maps.specs.Inside.Made.{Made}
use Rattle.turned.specs.Inside.Wants.{want_at}
use Rattle.turned.proofs.wants.wants.Given as goal

abbrev pub invariant-loop-i : goal.invariant-loop-i
invariant-loop-i l = Made (λ a x. x ≡ want_at l.facts a) l.i l.initial.t l.t
