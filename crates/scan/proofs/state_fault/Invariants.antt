-- What `state_fault` keeps true: the values passed so far are inside.
use Rattle.std.proofs.Common.{◌≡◌, ltb}
use Rattle.refusals.specs.declared.Refusal.TheVariants.{ValueOutside}
use Rattle.tables.specs.Layout.{dom_at}
use Rattle.tables.specs.Task.{state_of}
use Rattle.scan.specs.Found.{clean}
use Rattle.scan.specs.Scan.{each}
use Rattle.scan.proofs.Walks.{tests}
use Rattle.scan.proofs.state_fault.Given as goal

abbrev pub invariant-loop-v : goal.invariant-loop-v
invariant-loop-v l = each (tests (λ v. ltb (state_of l.s v) (dom_at l.t.facts.now v)) ValueOutside) l.v 0 ≡ clean
