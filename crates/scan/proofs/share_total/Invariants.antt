-- What `share_total` keeps true: the total is the sum over the maps passed so far, each at most the largest word.
use Rattle.std.proofs.Common.{◌≡◌, ◌*◌, ◌≤◌}
use Rattle.meaning.specs.Split.{sum}
use Rattle.tables.specs.Layout.{share_at}
use Rattle.scan.proofs.share_total.Given as goal

abbrev pub invariant-loop-m : goal.invariant-loop-m
invariant-loop-m l = (l.total ≡ sum (λ m. share_at l.shares m l.o.0) l.m) × (l.total ≤ l.m * 4294967295)
