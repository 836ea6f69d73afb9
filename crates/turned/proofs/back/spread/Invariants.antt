-- What `back::spread` keeps true: the places passed so far are spread.
use Rattle.turned.specs.Inside.Turns.{Spread}
use Rattle.turned.proofs.back.spread.Given as goal

abbrev pub invariant-loop-j : goal.invariant-loop-j
invariant-loop-j l = Spread l.len l.j l.stride l.initial.list l.list
