-- `Judged::book` meets its contract: a map's turn, the rest of the cost, and the mark, as the laws of booking have them. Assumes nothing.
use Rattle.std.proofs.Common.{◌≡◌, ◌<◌, ◌+◌, ◌++◌, ℕ, length, drop, set, sym, ap, ◌∙◌, arith, refl}
use Rattle.std.proofs.lemmas.List.{set-append_left, get_or_append_left, take-append-drop, length-take}
use Rattle.tables.specs.Layout.{share_at, mark_of}
use Rattle.tables.specs.Steps.{overwritten}
use Rattle.tables.specs.Task.{task_of}
use Rattle.ledger.specs.Ledger.{booked}
use Rattle.ledger.specs.Inside.Judged.{its_tables}
use Rattle.ledger.proofs.Booking.{few_maps, a_share, a_cost, column_fits, shared_fits, turn_booked, turn_summed, shares_within, unshared_fits, stored_fits, all_booked}
use Rattle.ledger.proofs.judged.Judged.book.Goals as goal

pub slice_bounds-column-items-end : goal.slice_bounds-column-items-end
slice_bounds-column-items-end c = omega (arith, few_maps (its_tables c.args.self.now) c.args.self.now.is_clean c.args.op.0 c.requires.0)

pub loop-m-init : goal.loop-m-init
unfolding overwritten
loop-m-init c = record { booked = take-append-drop c.args.self.now.tables.counts.maps c.args.columns.now; summed = refl }

pub bounds-self-m : goal.bounds-self-m
bounds-self-m c =
    let t = c.args.self.now in
    a_share (its_tables t) t.is_clean c.from-o.result (omega (arith, c.requires.0)) c.loop-m.m (omega (arith, length-take t.tables.counts.maps c.args.columns.now))

pub overflow_add-column : goal.overflow_add-column
overflow_add-column c =
    let t = c.args.self.now in
    let columns = c.args.columns.now in
    let rest = drop t.tables.counts.maps columns in
    let fits =
    column_fits (its_tables t) t.is_clean c.from-o.result (omega (arith, c.requires.0)) columns c.requires.1 (c.loop-m.column-items ++ rest)
    c.loop-m.shared c.loop-m.m c.loop-m.invariant.booked c.loop-m.invariant.summed (omega (arith, length-take t.tables.counts.maps columns)) in
    omega (arith, fits, get_or_append_left c.loop-m.column-items rest 0 c.loop-m.m (omega arith))

pub overflow_add-shared : goal.overflow_add-shared
overflow_add-shared c =
    let t = c.args.self.now in
    let columns = c.args.columns.now in
    let fits =
    shared_fits (its_tables t) t.is_clean c.from-o.result (omega (arith, c.requires.0)) columns c.requires.1
    (c.loop-m.column-items ++ drop t.tables.counts.maps columns) c.loop-m.shared c.loop-m.m c.loop-m.invariant.booked c.loop-m.invariant.summed
    (omega (arith, length-take t.tables.counts.maps columns)) in
    omega (arith, fits)

pub loop-m-preserved : goal.loop-m-preserved
loop-m-preserved c =
    let t = c.args.self.now in
    let columns = c.args.columns.now in
    let rest = drop t.tables.counts.maps columns in
    let turn : c.loop-m.m < t.tables.counts.maps = omega (arith, length-take t.tables.counts.maps columns) in
    let exists : c.from-o.result < t.tables.counts.ops = omega (arith, c.requires.0) in
    let booked =
    turn_booked (its_tables t) t.is_clean c.from-o.result exists columns c.requires.1 (c.loop-m.column-items ++ rest) c.loop-m.shared c.loop-m.m
    c.loop-m.invariant.booked c.loop-m.invariant.summed turn in
    let within : c.loop-m.m < length c.loop-m.column-items = omega arith in
    record {
      booked =
          sym (set-append_left c.loop-m.column-items rest c.loop-m.m _ within)
          ∙ ap (λ (x : ℕ). set (c.loop-m.column-items ++ rest) c.loop-m.m (x + share_at t.tables.shares.now c.loop-m.m c.from-o.result))
          (sym (get_or_append_left c.loop-m.column-items rest 0 c.loop-m.m within))
          ∙ booked;
      summed =
          turn_summed (its_tables t) t.is_clean c.from-o.result exists columns c.requires.1 (c.loop-m.column-items ++ rest) c.loop-m.shared c.loop-m.m
          c.loop-m.invariant.booked c.loop-m.invariant.summed turn;
    }

pub bounds-self-o : goal.bounds-self-o
bounds-self-o c =
    let t = c.args.self.now in
    a_cost (its_tables t) t.is_clean c.from-o.result (omega (arith, c.requires.0))

pub overflow_sub-columns : goal.overflow_sub-columns
overflow_sub-columns c =
    let t = c.args.self.now in
    let columns = c.args.columns.now in
    let few = few_maps (its_tables t) t.is_clean c.args.op.0 c.requires.0 in
    let done : c.loop-m.m ≡ t.tables.counts.maps = omega (arith, length-take t.tables.counts.maps columns) in
    let exists : c.from-o.result < t.tables.counts.ops = omega (arith, c.requires.0) in
    shares_within (its_tables t) t.is_clean c.from-o.result exists columns c.requires.1 (c.loop-m.column-items ++ drop t.tables.counts.maps columns) c.loop-m.shared c.loop-m.m
    c.loop-m.invariant.booked c.loop-m.invariant.summed done

pub overflow_add-columns : goal.overflow_add-columns
overflow_add-columns c =
    let t = c.args.self.now in
    let columns = c.args.columns.now in
    let few = few_maps (its_tables t) t.is_clean c.args.op.0 c.requires.0 in
    let done : c.loop-m.m ≡ t.tables.counts.maps = omega (arith, length-take t.tables.counts.maps columns) in
    let exists : c.from-o.result < t.tables.counts.ops = omega (arith, c.requires.0) in
    let fits =
    unshared_fits (its_tables t) t.is_clean c.from-o.result exists columns c.requires.1 (c.loop-m.column-items ++ drop t.tables.counts.maps columns) c.loop-m.shared c.loop-m.m
    c.loop-m.invariant.booked c.loop-m.invariant.summed done in
    omega (arith, fits)

pub overflow_add-columns-2 : goal.overflow_add-columns-2
overflow_add-columns-2 c =
    let t = c.args.self.now in
    let columns = c.args.columns.now in
    let few = few_maps (its_tables t) t.is_clean c.args.op.0 c.requires.0 in
    let done : c.loop-m.m ≡ t.tables.counts.maps = omega (arith, length-take t.tables.counts.maps columns) in
    let exists : c.from-o.result < t.tables.counts.ops = omega (arith, c.requires.0) in
    let fits =
    stored_fits (its_tables t) t.is_clean c.from-o.result exists columns c.requires.1 (c.loop-m.column-items ++ drop t.tables.counts.maps columns) c.loop-m.shared c.loop-m.m
    c.loop-m.invariant.booked c.loop-m.invariant.summed done c.mark_of.result (c.mark_of.ensures ∙ ap (mark_of t.tables.counts t.tables.facts.now) (sym c.from-o.ensures)) in
    omega (arith, fits)

pub returns : goal.returns
returns c =
    let t = c.args.self.now in
    let columns = c.args.columns.now in
    let few = few_maps (its_tables t) t.is_clean c.args.op.0 c.requires.0 in
    let done : c.loop-m.m ≡ t.tables.counts.maps = omega (arith, length-take t.tables.counts.maps columns) in
    let exists : c.from-o.result < t.tables.counts.ops = omega (arith, c.requires.0) in
    all_booked (its_tables t) t.is_clean c.from-o.result exists columns c.requires.1 (c.loop-m.column-items ++ drop t.tables.counts.maps columns) c.loop-m.shared c.loop-m.m
    c.loop-m.invariant.booked c.loop-m.invariant.summed done c.mark_of.result (c.mark_of.ensures ∙ ap (mark_of t.tables.counts t.tables.facts.now) (sym c.from-o.ensures))
    ∙ ap (booked (task_of (its_tables t)) columns) c.from-o.ensures
