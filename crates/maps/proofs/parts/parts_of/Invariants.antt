-- What `parts::parts_of` keeps true: the parts of the variables passed so far are set, and the stride is that of the next one.
use Rattle.std.proofs.Common.{◌≡◌, ◌*◌}
use Rattle.meaning.specs.Numbering.{size}
use Rattle.tables.specs.Layout.{dom_at}
use Rattle.maps.specs.Inside.Parts.{Parted}
use Rattle.maps.proofs.parts.parts_of.Given as goal

abbrev pub invariant-loop-v : goal.invariant-loop-v
invariant-loop-v l =
    record { stride : l.stride ≡ l.unit * size (dom_at l.facts) l.v; parted : Parted l.c l.facts l.unit l.v l.parts.places }
