-- What `share_row` keeps true: the shares of the operators passed so far are in the row.
use Rattle.std.proofs.Common.{◌≡◌}
use Rattle.tables.specs.Layout.{share_at}
use Rattle.maps.specs.Inside.Made.{Made}
use Rattle.maps.proofs.share_row.Given as goal

abbrev pub invariant-loop-o : goal.invariant-loop-o
invariant-loop-o l = Made (λ o x. x ≡ share_at l.shares l.map o) l.o l.initial.price-items l.price-items
