-- The operators passed so far have shares that total at most their cost.
use Rattle.std.proofs.Common.{◌≡◌, leb}
use Rattle.refusals.specs.declared.Refusal.TheVariants.{SharesAboveCost}
use Rattle.meaning.specs.Split.{sum}
use Rattle.tables.specs.Lines.{line_of_op}
use Rattle.scan.specs.Found.{clean}
use Rattle.scan.specs.Scan.{each}
use Rattle.scan.proofs.Walks.{tests}
use Rattle.text.specs.Inside.Area.{cost_in, share_in}
use Rattle.text.proofs.end.over_fault.Given as goal

abbrev pub invariant-loop-o : goal.invariant-loop-o
invariant-loop-o l =
    each (tests (λ o. leb (sum (λ m. share_in l.w m o) l.maps) (cost_in l.w o)) (λ o. SharesAboveCost (line_of_op l.c.counts.edition o))) l.o 0 ≡ clean
