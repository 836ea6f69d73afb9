-- `all` over the operators says what `every` does.
use Rattle.std.proofs.Common.{ℕ, refl, leb, rules}
use Rattle.meaning.specs.Limits.{most_cost}
use Rattle.tables.specs.Layout.{share_at}
use Rattle.tables.proofs.Ranges.{every_below}
use Rattle.scan.proofs.shares_fit.Goals as goal

pub returns : goal.returns
returns c =
    every_below (λ (o : ℕ). leb (share_at c.args.shares.now c.args.m o) most_cost) c.args.ops _ _ _ c.all.ensures.ran refl (λ x b q k. search rules)
