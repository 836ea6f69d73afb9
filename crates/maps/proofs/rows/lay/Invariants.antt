-- What `rows::lay` keeps true: the rows of the states of the variables passed so far are laid.
use Rattle.std.proofs.Common.{◌≡◌}
use Rattle.meaning.specs.Numbering.{size}
use Rattle.tables.specs.Layout.{dom_at}
use Rattle.maps.specs.Inside.Rows.{Laid}
use Rattle.maps.proofs.rows.lay.Given as goal

abbrev pub invariant-loop-v : goal.invariant-loop-v
invariant-loop-v l =
    record { len : l.len ≡ size (dom_at l.facts) l.v; laid : Laid (dom_at l.facts) l.parts l.v l.t }
