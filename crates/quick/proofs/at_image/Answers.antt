-- `at_image` meets its contract: the map's tables say its distance and its best step at the state's image. Assumes nothing.
use Rattle.std.proofs.Common.{refl, ◌∙◌, arith}
use Rattle.maps.proofs.Viewing.{image_below, shares_priced}
use Rattle.quick.proofs.Imaging.{at_image}
use Rattle.quick.proofs.at_image.Goals as goal

pub view_quick-requires : goal.view_quick-requires
view_quick-requires c =
    let a = c.args in
    let pre = c.requires in
    let prices = shares_priced a.c a.shares.now a.map c.share_row-prices.result pre.0.ops c.share_row-prices.ensures pre.2 in
    record { valid = (pre.0, pre.1, prices); most_states_in_bounds = (omega arith, omega arith) }

-- the place that is read is that of the state's image, one of the map's
pub bounds-out-a : goal.bounds-out-a
bounds-out-a c =
    let a = c.args in
    let pre = c.requires in
    let below = image_below a.c a.facts.now a.shares.now a.map pre.0 pre.1 a.s.now pre.3 in
    omega (arith, below, pre.0.few_states a.map pre.1, c.from-a.ensures, c.image_of.ensures)

pub bounds-best-a : goal.bounds-best-a
bounds-best-a c =
    let a = c.args in
    let pre = c.requires in
    let below = image_below a.c a.facts.now a.shares.now a.map pre.0 pre.1 a.s.now pre.3 in
    omega (arith, below, pre.0.few_states a.map pre.1, c.from-a.ensures, c.image_of.ensures)

pub returns : goal.returns
returns c =
    let a = c.args in
    let pre = c.requires in
    let prices = c.share_row-prices in
    let tables = c.view_quick.ensures in
    at_image a.c a.facts.now a.shares.now a.map pre.0 pre.1 prices.result a.s.now _
    (λ o l. prices.ensures o (omega (arith, pre.0.ops))) tables.distances tables.best_steps pre.3
    (c.from-a.ensures ∙ c.image_of.ensures) refl refl
