-- `distances` meets its contract: the map's own shares are the prices. Assumes nothing.
use Rattle.std.proofs.Common.{◌≡◌, Err, sym, ◌∙◌, inl, inr, arith, rules}
use Rattle.tables.specs.Layout.{Tables}
use Rattle.tables.specs.Task.{held}
use Rattle.sweep.proofs.Viewing.{valid_unpriced, shares_priced}
use Rattle.views.proofs.Judging.{asked_clean, given_short, given_refused, given_rounds}
use Rattle.views.proofs.distances.Goals as goal
use Rattle.views.proofs.distances.Goals.{then-out-lt-STATES_ROOM-via-then-out-lt-STATES_ROOM, then-out-lt-STATES_ROOM-via-else-out-lt-STATES_ROOM+then-best-lt-STATES_ROOM}

pub returns-then-out-lt-STATES_ROOM : goal.returns-then-out-lt-STATES_ROOM
returns-then-out-lt-STATES_ROOM c =
    let t : Tables = held c.args.t in
    given_short t c.args.map c.args.out.now c.args.best.now
    (elim c.then-out-lt-STATES_ROOM.branch [
      | then-out-lt-STATES_ROOM-via-then-out-lt-STATES_ROOM w ↦ inl w.if-out-lt-STATES_ROOM.true
      | then-out-lt-STATES_ROOM-via-else-out-lt-STATES_ROOM+then-best-lt-STATES_ROOM w ↦ inr w.if-best-lt-STATES_ROOM.true
    ])

pub view_rounds-requires-clause-valid : goal.view_rounds-requires-clause-valid
view_rounds-requires-clause-valid c =
    let t : Tables = held c.args.t in
    let row = c.share_row-prices in
    let q = asked_clean t c.args.map (sym c.asked_fault.ensures ∙ c.in_ok-asked_fault.was) in
    (valid_unpriced t q.0, q.1, shares_priced t.counts t.shares c.args.map row.result q.0.ops row.ensures (λ o l. q.0.shares c.args.map o q.1 l))

pub returns-in_err-asked_fault : goal.returns-in_err-asked_fault
returns-in_err-asked_fault c =
    let t : Tables = held c.args.t in
    let is : c.from_residual.result ≡ Err c.in_err-asked_fault.field-0.0 = search rules in
    given_refused t c.args.map c.args.out.now c.args.best.now c.in_err-asked_fault.field-0.0 c.if-out-lt-STATES_ROOM.false c.if-best-lt-STATES_ROOM.false
    (sym c.asked_fault.ensures ∙ c.in_err-asked_fault.was) is

pub returns : goal.returns
returns c =
    let t : Tables = held c.args.t in
    let row = c.share_row-prices in
    let clean = sym c.asked_fault.ensures ∙ c.in_ok-asked_fault.was in
    given_rounds t c.args.map row.result (λ o l. row.ensures o (omega (arith, (asked_clean t c.args.map clean).0.ops)))
    c.if-out-lt-STATES_ROOM.false c.if-best-lt-STATES_ROOM.false clean c.view_rounds.ensures
