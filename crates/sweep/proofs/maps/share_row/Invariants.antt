-- What `maps::share_row` keeps true: the shares of the operators passed so far are in the row.
use Rattle.std.proofs.Common.{◌≡◌, length}
use Rattle.meaning.specs.Limits.{most_ops}
use Rattle.tables.specs.Layout.{share_at}
use Rattle.sweep.specs.Inside.Sweeps.{Made}
use Rattle.sweep.proofs.maps.share_row.Given as goal

abbrev pub invariant-loop-o : goal.invariant-loop-o
invariant-loop-o l = record {
  long : length l.price-items ≡ most_ops;
  made : Made (λ u x. x ≡ share_at l.shares l.map u) l.o l.initial.price-items l.price-items;
}
