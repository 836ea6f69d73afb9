-- `maps::view_rounds` meets its contract: what is counted on the task of classes is counted on the view. Assumes nothing.
use Rattle.sweep.proofs.Alike.{counted_alike}
use Rattle.sweep.proofs.Viewing.{classed_walkable, classed_alike}
use Rattle.sweep.proofs.maps.view_rounds.Goals as goal

pub states_of-requires : goal.states_of-requires
states_of-requires c =
    let x = c.args in
    let p = c.requires.valid in
    classed_walkable x.c x.facts.now x.map p.0 p.1 c.class_facts-seen.result c.class_facts-seen.ensures

pub invariant_of-space : goal.invariant_of-space
invariant_of-space c =
    let x = c.args in
    let p = c.requires.valid in
    record {
      walkable = classed_walkable x.c x.facts.now x.map p.0 p.1 c.class_facts-seen.result c.class_facts-seen.ensures;
      small = p.2;
      counted = c.states_of.ensures;
    }

pub returns : goal.returns
returns c =
    let x = c.args in
    let p = c.requires.valid in
    counted_alike (classed_alike x.c x.facts.now x.map p.0 p.1 c.class_facts-seen.result c.class_facts-seen.ensures x.prices.now) c.count_rounds.ensures
