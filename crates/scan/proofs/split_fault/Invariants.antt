-- What `split_fault` keeps true: the operators passed so far have shares that total at most their cost.
use Rattle.std.proofs.Common.{◌≡◌, leb}
use Rattle.refusals.specs.declared.Refusal.TheVariants.{SharesAboveCost}
use Rattle.meaning.specs.Split.{sum}
use Rattle.tables.specs.Layout.{cost_at, share_at}
use Rattle.tables.specs.Lines.{line_of_op}
use Rattle.scan.specs.Found.{clean}
use Rattle.scan.specs.Scan.{each}
use Rattle.scan.proofs.Walks.{tests}
use Rattle.scan.proofs.split_fault.Given as goal

abbrev pub invariant-loop-o : goal.invariant-loop-o
invariant-loop-o l =
    each (tests (λ o. leb (sum (λ m. share_at l.t.shares.now m o) l.t.counts.maps) (cost_at l.t.costs.now o)) (λ o. SharesAboveCost (line_of_op l.t.counts.edition o))) l.o 0 ≡ clean
