-- `Run::advance` meets its contract: it goes on from where the run stands, and the operator is logged. Assumes nothing.
use Rattle.std.proofs.Common.{arith, ap, ◌∙◌, set, ◌+◌}
use Rattle.meaning.specs.Limits.{most_steps}
use Rattle.ledger.specs.declared.replay.Standing.{Standing}
use Rattle.ledger.specs.Ledger.{onward, advanced}
use Rattle.ledger.specs.Inside.Judged.{its_tables}
use Rattle.ledger.proofs.Gains.{column_room}
use Rattle.ledger.proofs.Run.advance.Goals as goal

pub go_on-requires : goal.go_on-requires
go_on-requires c =
    let room = column_room c.args.self.now.len c.args.self.now.columns c.requires.1 c.requires.2 in
    (c.requires.0, rw c.standing-at.ensures room)

pub bounds-self-self : goal.bounds-self-self
unfolding most_steps
bounds-self-self c = omega (arith, c.requires.1)

pub overflow_add-self : goal.overflow_add-self
unfolding most_steps
overflow_add-self c = omega (arith, c.requires.1)

pub returns : goal.returns
unfolding advanced
returns c =
    let r = c.args.self.now in
    ap (λ (x : Standing). record { start = r.start; log = set r.log r.len c.args.op.0; len = r.len + 1; now = x.now; columns = x.columns })
    (c.go_on.ensures ∙ ap (λ (x : Standing). onward (its_tables c.args.t.now) x c.args.op.0) c.standing-at.ensures)
