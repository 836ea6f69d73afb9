-- What `classes::states_of` keeps true: the number so far is the product over the variables passed so far.
use Rattle.std.proofs.Common.{◌≡◌}
use Rattle.meaning.specs.Numbering.{size}
use Rattle.tables.specs.Layout.{dom_at}
use Rattle.sweep.proofs.classes.states_of.Given as goal

abbrev pub invariant-loop-v : goal.invariant-loop-v
invariant-loop-v l = l.n ≡ size (dom_at l.facts) l.v
