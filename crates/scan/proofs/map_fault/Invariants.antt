-- What `map_fault` keeps true: the variables passed so far are clean, and their counts multiply to the states so far.
use Rattle.std.proofs.Common.{◌≡◌, ◌^◌, ◌≤◌}
use Rattle.meaning.specs.Numbering.{size}
use Rattle.meaning.specs.Split.{count_of}
use Rattle.tables.specs.Layout.{dom_at, class_at}
use Rattle.scan.specs.Found.{clean}
use Rattle.scan.specs.Scan.{each}
use Rattle.scan.proofs.RowFaults.{row_fault}
use Rattle.scan.proofs.map_fault.Given as goal

abbrev pub invariant-loop-v : goal.invariant-loop-v
invariant-loop-v l =
    (each (λ v. row_fault (class_at l.t.facts.now l.m v) (dom_at l.t.facts.now v) l.line) l.v 0 ≡ clean)
    × (l.states ≡ size (λ v. count_of (class_at l.t.facts.now l.m v) (dom_at l.t.facts.now v)) l.v)
    × (l.states ≤ 8 ^ l.v)
