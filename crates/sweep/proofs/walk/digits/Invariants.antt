-- What `walk::digits` keeps true: the digits of the places passed so far are in the list, and `rest` is what is left of the number.
use Rattle.std.proofs.Common.{◌≡◌, ◌/◌, length}
use Rattle.meaning.specs.Limits.{most_vars}
use Rattle.meaning.specs.Numbering.{size, digit}
use Rattle.tables.specs.Layout.{dom_at}
use Rattle.sweep.specs.Inside.Sweeps.{Made}
use Rattle.sweep.proofs.walk.digits.Given as goal

abbrev pub invariant-loop-v : goal.invariant-loop-v
invariant-loop-v l = record {
  long : length l.s ≡ most_vars;
  left : l.rest ≡ l.fn.a.0 / size (dom_at l.facts) l.v;
  made : Made (λ u x. x ≡ digit (dom_at l.facts) l.fn.a.0 u) l.v l.initial.s l.s;
}
