-- `view_quick` meets its contract: the task of the map's classes has the view's graph, and each room finds its distances and best steps. Assumes nothing.
use Rattle.std.proofs.Common.{◌≤◌, arith}
use Rattle.maps.proofs.Viewing.{classed_walkable, classed_alike}
use Rattle.quick.proofs.Beginning.{rooms_fit}
use Rattle.quick.proofs.Carrying.{distances_alike, steps_alike}
use Rattle.quick.proofs.view_quick.Goals as goal

pub states_of-n-requires : goal.states_of-n-requires
states_of-n-requires c =
    let x = c.args in
    let seen = c.class_facts-seen in
    classed_walkable x.c x.facts.now x.map c.requires.valid.0 c.requires.valid.1 seen.result seen.ensures

pub quick_of-requires-clause-walkable : goal.quick_of-requires-clause-walkable
quick_of-requires-clause-walkable c =
    let x = c.args in
    let pre = c.requires in
    let seen = c.class_facts-seen in
    (classed_walkable x.c x.facts.now x.map pre.valid.0 pre.valid.1 seen.result seen.ensures, pre.valid.2, c.states_of-n.ensures)

pub quick_of-requires-else-n-le-SMALL_ROOM-clause-walkable : goal.quick_of-requires-else-n-le-SMALL_ROOM-clause-walkable
quick_of-requires-else-n-le-SMALL_ROOM-clause-walkable c =
    let x = c.args in
    let pre = c.requires in
    let seen = c.class_facts-seen in
    (classed_walkable x.c x.facts.now x.map pre.valid.0 pre.valid.1 seen.result seen.ensures, pre.valid.2, c.states_of-n.ensures)

pub quick_of-requires-else-n-le-SMALL_ROOM-clause-room : goal.quick_of-requires-else-n-le-SMALL_ROOM-clause-room
quick_of-requires-else-n-le-SMALL_ROOM-clause-room c =
    let x = c.args in
    let pre = c.requires in
    let seen = c.class_facts-seen in
    let walk = classed_walkable x.c x.facts.now x.map pre.valid.0 pre.valid.1 seen.result seen.ensures in
    let few : c.states_of-n.result ≤ 4096 = omega (arith, walk.few, c.states_of-n.ensures) in
    let fit = rooms_fit 4096 c.states_of-n.result x.c.ops few walk.ops in
    (few, fit.0, fit.1)

pub quick_of-requires-else-n-le-SMALL_ROOM-clause-n_in_bounds : goal.quick_of-requires-else-n-le-SMALL_ROOM-clause-n_in_bounds
quick_of-requires-else-n-le-SMALL_ROOM-clause-n_in_bounds c =
    let x = c.args in
    let pre = c.requires in
    let seen = c.class_facts-seen in
    let walk = classed_walkable x.c x.facts.now x.map pre.valid.0 pre.valid.1 seen.result seen.ensures in
    let out = pre.most_states_in_bounds in
    (omega (arith, walk.few, c.states_of-n.ensures, out.0), omega (arith, walk.few, c.states_of-n.ensures, out.1))

pub returns-then-n-le-SMALL_ROOM-clause-distances : goal.returns-then-n-le-SMALL_ROOM-clause-distances
returns-then-n-le-SMALL_ROOM-clause-distances c =
    let x = c.args in
    let pre = c.requires.valid in
    let seen = c.class_facts-seen in
    distances_alike (classed_alike x.c x.facts.now x.map pre.0 pre.1 seen.result seen.ensures x.prices.now) c.quick_of.ensures.distances

pub returns-then-n-le-SMALL_ROOM-clause-best_steps : goal.returns-then-n-le-SMALL_ROOM-clause-best_steps
returns-then-n-le-SMALL_ROOM-clause-best_steps c =
    let x = c.args in
    let pre = c.requires.valid in
    let seen = c.class_facts-seen in
    steps_alike (classed_alike x.c x.facts.now x.map pre.0 pre.1 seen.result seen.ensures x.prices.now) c.quick_of.ensures.best_steps

pub returns-else-n-le-SMALL_ROOM-clause-distances : goal.returns-else-n-le-SMALL_ROOM-clause-distances
returns-else-n-le-SMALL_ROOM-clause-distances c =
    let x = c.args in
    let pre = c.requires.valid in
    let seen = c.class_facts-seen in
    distances_alike (classed_alike x.c x.facts.now x.map pre.0 pre.1 seen.result seen.ensures x.prices.now) c.quick_of-else-n-le-SMALL_ROOM.ensures.distances

pub returns-else-n-le-SMALL_ROOM-clause-best_steps : goal.returns-else-n-le-SMALL_ROOM-clause-best_steps
returns-else-n-le-SMALL_ROOM-clause-best_steps c =
    let x = c.args in
    let pre = c.requires.valid in
    let seen = c.class_facts-seen in
    steps_alike (classed_alike x.c x.facts.now x.map pre.0 pre.1 seen.result seen.ensures x.prices.now) c.quick_of-else-n-le-SMALL_ROOM.ensures.best_steps
