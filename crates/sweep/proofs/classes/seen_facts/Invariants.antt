-- What `classes::seen_facts` keeps true: the places passed so far are seen by classes.
use Rattle.std.proofs.Common.{◌≡◌, length}
use Rattle.sweep.specs.Inside.Sweeps.{Made}
use Rattle.sweep.specs.Inside.Classes.{seen_places, SeenAt}
use Rattle.sweep.proofs.classes.seen_facts.Given as goal

abbrev pub invariant-loop-i : goal.invariant-loop-i
invariant-loop-i l = record {
  long : length l.x-items ≡ seen_places;
  made : Made (SeenAt l.facts l.m) l.i l.initial.x-items l.x-items;
}
