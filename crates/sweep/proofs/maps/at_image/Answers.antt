-- `maps::at_image` meets its contract: the map's tables say its distance and its best step at the state's image. Assumes nothing.
use Rattle.std.proofs.Common.{refl, ◌∙◌, arith}
use Rattle.sweep.proofs.Viewing.{image_below, at_image}
use Rattle.sweep.proofs.maps.at_image.Goals as goal

pub bounds-out-a : goal.bounds-out-a
bounds-out-a c =
    let x = c.args in
    let p = c.requires in
    omega (arith, image_below x.c x.facts.now x.shares.now x.map p.0 p.1 x.s.now p.3, p.0.few_states x.map p.1, c.from-a.ensures, c.image_of.ensures)

pub bounds-best-a : goal.bounds-best-a
bounds-best-a c =
    let x = c.args in
    let p = c.requires in
    omega (arith, image_below x.c x.facts.now x.shares.now x.map p.0 p.1 x.s.now p.3, p.0.few_states x.map p.1, c.from-a.ensures, c.image_of.ensures)

pub returns : goal.returns
returns c =
    let x = c.args in
    let p = c.requires in
    at_image x.c x.facts.now x.shares.now x.map p.0 p.1 c.share_row-prices.result x.s.now _
    (λ o l. c.share_row-prices.ensures o (omega (arith, p.0.ops))) c.view_rounds.ensures p.3 (c.from-a.ensures ∙ c.image_of.ensures) refl refl
