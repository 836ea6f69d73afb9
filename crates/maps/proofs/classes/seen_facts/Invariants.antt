-- What `classes::seen_facts` keeps true: the places passed so far are seen by classes.
use Rattle.maps.specs.Inside.Made.{Made}
use Rattle.maps.specs.Inside.Classes.{SeenAt}
use Rattle.maps.proofs.classes.seen_facts.Given as goal

abbrev pub invariant-loop-i : goal.invariant-loop-i
invariant-loop-i l = Made (SeenAt l.facts l.m) l.i l.initial.place-items l.place-items
