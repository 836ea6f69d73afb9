-- What `classes::class_facts` keeps true: the numbers of classes of the variables passed so far are in the first row.
use Rattle.std.proofs.Common.{◌≡◌}
use Rattle.meaning.specs.Split.{count_of}
use Rattle.tables.specs.Layout.{dom_at, class_at}
use Rattle.maps.specs.Inside.Made.{Made}
use Rattle.maps.proofs.classes.class_facts.Given as goal

abbrev pub invariant-loop-v : goal.invariant-loop-v
invariant-loop-v l = Made (λ u x. x ≡ count_of (class_at l.facts l.m u) (dom_at l.facts u)) l.v l.initial.t l.t
