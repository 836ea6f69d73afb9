-- What `classes::image_of` keeps true: the classes of the variables passed so far are in the number.
use Rattle.std.proofs.Common.{[]}
use Rattle.meaning.specs.Views.{image}
use Rattle.tables.specs.Task.{state_of}
use Rattle.sweep.specs.Inside.Classes.{view_of}
use Rattle.sweep.proofs.Walking.{Numbered}
use Rattle.sweep.proofs.classes.image_of.Given as goal

abbrev pub invariant-loop-v : goal.invariant-loop-v
invariant-loop-v l = let W = view_of l.facts l.m [] in Numbered W.classes (image W (state_of l.s)) l.c.vars l.v l.n.stride l.n.value
