-- `wants::want_at` meets its contract: a place is one of the preconditions', or stands before them. Assumes nothing.
use Rattle.std.proofs.Common.{ap₂, ◌∙◌}
use Rattle.turned.specs.Inside.Wants.{want_of}
use Rattle.turned.proofs.Wanting.{want_inside, want_before}
use Rattle.turned.proofs.wants.want_at.Goals as goal

pub returns-then-i-ge-PRES : goal.returns-then-i-ge-PRES
returns-then-i-ge-PRES c =
    c.want_of.ensures ∙ ap₂ want_of c.get_or.ensures c.get_or-then-i-ge-PRES.ensures ∙ want_inside c.args.facts.now c.args.i c.if-i-ge-PRES.true

pub returns-else-i-ge-PRES : goal.returns-else-i-ge-PRES
returns-else-i-ge-PRES c = c.get_or-else-i-ge-PRES.ensures ∙ want_before c.args.facts.now c.args.i c.if-i-ge-PRES.false
