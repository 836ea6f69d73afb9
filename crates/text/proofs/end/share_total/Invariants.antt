-- The total of the maps passed, and its bound.
use Rattle.std.proofs.Common.{◌≡◌, ◌≤◌, ◌*◌}
use Rattle.meaning.specs.Split.{sum}
use Rattle.text.specs.Inside.Area.{share_in}
use Rattle.text.proofs.end.share_total.Given as goal

abbrev pub invariant-loop-m : goal.invariant-loop-m
invariant-loop-m l = record { so_far : l.total ≡ sum (λ i. share_in l.w i l.o) l.m; bound : l.total ≤ 16777215 * l.m }
