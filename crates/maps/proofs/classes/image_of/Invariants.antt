-- What `classes::image_of` keeps true: the classes of the variables passed so far are in the number.
use Rattle.std.proofs.Common.{[]}
use Rattle.meaning.specs.Views.{image}
use Rattle.tables.specs.Task.{state_of}
use Rattle.maps.specs.Inside.Classes.{view_of}
use Rattle.maps.proofs.Walking.{Numbered}
use Rattle.maps.proofs.classes.image_of.Given as goal

abbrev pub invariant-loop-v : goal.invariant-loop-v
invariant-loop-v l =
    Numbered (view_of l.facts l.m []).classes (image (view_of l.facts l.m []) (state_of l.s)) l.v-end l.v l.stride l.b
