-- `rows::gather` meets its contract: a turn lays one record more (`laid_next`), and at the end as many are laid as the contract says. Assumes nothing.
use Rattle.std.proofs.Common.{ℕ, ◌≡◌, ◌<◌, length, ◌∙◌, ap, arith}
use Rattle.std.specs.Prelude.{min}
use Rattle.std.proofs.lemmas.List.{get_or-take, length-take}
use Rattle.meaning.specs.Limits.{most_ops}
use Rattle.records.specs.Records.{no_record, laid_one, laid_of}
use Rattle.records.proofs.Laws.{laid_none, laid_next}
use Rattle.records.proofs.rows.gather.Goals as goal

pub loop-o-init : goal.loop-o-init
loop-o-init c = laid_none c.args.rows.now c.args.t

pub loop-o-preserved : goal.loop-o-preserved
loop-o-preserved c =
    let rows = c.args.rows.now in
    let l = c.loop-o in
    let few : l.o < c.min.result = omega (arith, length-take c.min.result rows) in
    laid_next rows c.args.t l.laid c.lay.new.self l.o l.invariant (c.lay.ensures ∙ ap (laid_one l.laid l.o) (get_or-take c.min.result rows l.o no_record few))

pub returns : goal.returns
returns c =
    let rows = c.args.rows.now in
    let e : c.loop-o.o ≡ min (length rows) most_ops = omega (arith, length-take c.min.result rows) in
    c.loop-o.invariant ∙ ap (λ (m : ℕ). laid_of rows m c.args.t) e
