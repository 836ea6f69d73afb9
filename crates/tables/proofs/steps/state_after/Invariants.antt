-- What `steps::state_after` keeps true: the variables passed so far have their values after the effects, the others as before.
use Rattle.std.proofs.Common.{◌≡◌, ◌+◌, get_or}
use Rattle.meaning.specs.Sas.{put}
use Rattle.tables.specs.Steps.{overwritten}
use Rattle.tables.proofs.steps.state_after.Given as goal

abbrev pub invariant-loop-v : goal.invariant-loop-v
invariant-loop-v l = l.t ≡ overwritten (λ k. put (get_or l.facts (l.at + k) 0) (get_or l.initial.t k 0)) l.initial.t l.v
