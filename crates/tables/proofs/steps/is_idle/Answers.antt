-- `all` over the variables says what `every` does.
use Rattle.std.proofs.Common.{refl, rules}
use Rattle.meaning.specs.Views.{asked}
use Rattle.tables.specs.Layout.{pre_at, eff_at}
use Rattle.tables.specs.Steps.{is_idle}
use Rattle.tables.proofs.Ranges.{every_below}
use Rattle.tables.proofs.steps.is_idle.Goals as goal

pub returns : goal.returns
unfolding is_idle
returns c =
    every_below (λ v. asked (pre_at c.args.facts.now c.args.o.0 v) (eff_at c.args.facts.now c.args.o.0 v)) c.args.vars _ _ _ c.all.ensures.ran refl
    (λ x b q k. search rules)
