-- `quick_of` meets its contract: rows, operators backwards, goals, and the run, whose labels and steps the tables are made of. Assumes nothing.
use Rattle.std.proofs.Common.{ℕ, ◌<◌, sym, ◌∙◌, arith}
use Rattle.std.proofs.lemmas.List.{length-replicate, length-take-le, get_or-take}
use Rattle.maps.specs.Inside.Walks.{space_of}
use Rattle.maps.proofs.Walking.{walkable_closed}
use Rattle.quick.proofs.Running.{run_upto}
use Rattle.quick.proofs.Beginning.{fresh_room, run_ended, distances_shown, steps_copied, front_shown, front_copied}
use Rattle.quick.proofs.quick_of.Goals as goal

pub start-requires : goal.start-requires
start-requires g c =
    let x = c.args in
    let pre = c.requires.walkable in (
      omega (arith, c.requires.sizes.0),
      (
        (pre.0, pre.2),
        (
          (c.lay_fits.ensures.fits, omega (arith, c.requires.room.1, c.lay_fits.ensures.t_len, length-replicate {A = ℕ} g.row.ROWS 0)),
          λ prices.
              fresh_room (space_of x.c x.facts.now prices) g.row.STATES (walkable_closed x.c x.facts.now prices pre.0) pre.0.few
              (omega (arith, pre.2, c.requires.room.0)) c.none.ensures,
        ),
      ),
    )

pub run-requires : goal.run-requires
run-requires g c =
    let pre = c.requires.walkable in (
      omega (arith, c.requires.sizes.0),
      (
        record {
          walk = pre.0;
          priced = pre.1;
          states = pre.2;
          fit = c.lay_fits.ensures.fits;
          rows = omega (arith, c.requires.room.1, c.lay_fits.ensures.t_len, length-replicate {A = ℕ} g.row.ROWS 0);
          backs = c.turn_all-turns.ensures.backs;
          room = c.turn_all-turns.ensures.turns_len;
          lists = omega (arith, c.requires.room.2, c.turn_all-turns.ensures.back_len, length-replicate {A = ℕ} g.row.BACK 0);
        },
        run_upto pre.2 (c.start.ensures c.args.prices.now),
      ),
    )

pub write_distances-requires : goal.write_distances-requires
write_distances-requires g c =
    let n = c.args.n in
    let found = c.run.new.found in
    let room = c.requires.n_in_bounds.0 in
    let long = length-take-le n found.labels (omega (arith, c.requires.room.0, found.rooms.0)) in (
      length-take-le n c.args.out.now room ∙ sym long,
      λ a l.
          let here : a < n = omega (arith, long) in
          omega (arith, get_or-take n found.labels a 0 here, c.run.ensures.ran.high a (omega (arith, c.requires.walkable.2))),
    )

pub returns-clause-distances : goal.returns-clause-distances
returns-clause-distances g c =
    let x = c.args in
    let pre = c.requires.walkable in
    let ended = run_ended x.c x.facts.now x.prices.now pre.0 pre.1 c.run.ensures.ran c.run.ensures.none_waits in
    let found = c.run.new.found in
    distances_shown ended pre.2 (front_shown found.labels x.out.now (omega (arith, c.requires.room.0, found.rooms.0)) c.requires.n_in_bounds.0 c.write_distances.ensures)

pub returns-clause-best_steps : goal.returns-clause-best_steps
returns-clause-best_steps g c =
    let x = c.args in
    let pre = c.requires.walkable in
    let ended = run_ended x.c x.facts.now x.prices.now pre.0 pre.1 c.run.ensures.ran c.run.ensures.none_waits in
    let found = c.run.new.found in
    steps_copied ended pre.2 (front_copied found.best x.best.now (omega (arith, c.requires.room.0, found.rooms.1)) c.requires.n_in_bounds.1 c.copy_from_slice.ensures.after)
