-- `Run::offer_to` meets its contract: an accepted offer had all that a step asks. Assumes nothing.
use Rattle.std.proofs.Common.{◌≡◌, Result, Ok, sym, ap, ◌∙◌}
use Rattle.refusals.specs.declared.Refusal.{Refusal}
use Rattle.ledger.specs.declared.Answer.{Answer}
use Rattle.ledger.specs.declared.Answer.TheVariants.{Accepted, Repeated}
use Rattle.ledger.specs.Inside.Judged.{its_tables}
use Rattle.ledger.proofs.Accepted.{answered_clean}
use Rattle.ledger.proofs.Entries.{offered_accepted, offered_refused, offered_repeated, step_asks}
use Rattle.ledger.proofs.Run.offer_to.Goals as goal

which : (x : Result Answer Refusal) (a b : Answer) → x ≡ Ok a → a ≡ b → x ≡ Ok b
which x a b p q = p ∙ ap (λ (a : Answer). Ok a) q

pub advance-requires : goal.advance-requires
advance-requires c =
    let t = c.args.t.now in
    let is = answered_clean (its_tables t) c.args.self.now c.args.number c.args.op.0 t.is_clean in
    let accepted = which c.answer-answer.result c.in-Ok-Accepted.field-0 Accepted c.in-Ok-Accepted.is (rw c.in-Ok-Accepted.is at c.in-Ok-Accepted.field-0-is) in
    let had = step_asks (its_tables t) c.args.self.now c.args.number c.args.op.0 (sym is ∙ sym c.answer-answer.ensures ∙ accepted) in
    (had.1, had.2, had.3)

pub returns-in-Ok-Accepted : goal.returns-in-Ok-Accepted
returns-in-Ok-Accepted c =
    let t = c.args.t.now in
    let is = answered_clean (its_tables t) c.args.self.now c.args.number c.args.op.0 t.is_clean in
    let accepted = which c.answer-answer.result c.in-Ok-Accepted.field-0 Accepted c.in-Ok-Accepted.is (rw c.in-Ok-Accepted.is at c.in-Ok-Accepted.field-0-is) in
    offered_accepted (its_tables t) c.args.self.now c.args.number c.args.op.0 _ (c.answer-answer.ensures ∙ is) _ accepted
    c.advance.ensures

pub returns-in-Ok-Repeated : goal.returns-in-Ok-Repeated
returns-in-Ok-Repeated c =
    let t = c.args.t.now in
    let is = answered_clean (its_tables t) c.args.self.now c.args.number c.args.op.0 t.is_clean in
    let repeated = which c.answer-answer.result c.in-Ok-Repeated.field-0 Repeated c.in-Ok-Repeated.is (rw c.in-Ok-Repeated.is at c.in-Ok-Repeated.field-0-is) in
    offered_repeated (its_tables t) c.args.self.now c.args.number c.args.op.0 _ (c.answer-answer.ensures ∙ is) repeated

pub returns-in-Err : goal.returns-in-Err
returns-in-Err c =
    let t = c.args.t.now in
    let is = answered_clean (its_tables t) c.args.self.now c.args.number c.args.op.0 t.is_clean in
    offered_refused (its_tables t) c.args.self.now c.args.number c.args.op.0 _ (c.answer-answer.ensures ∙ is) _ c.in-Err.is
