-- `Judged::replay` meets its contract: what is left of the steps leads, from where those so far lead, to where all lead from the start. Assumes nothing.
use Rattle.std.proofs.Common.{refl, sym, ◌∙◌, arith}
use Rattle.scan.proofs.Validity.{clean_valid}
use Rattle.ledger.specs.Ledger.{at_start}
use Rattle.ledger.specs.Inside.Judged.{its_tables}
use Rattle.ledger.proofs.Gains.{start_bounded, column_room}
use Rattle.ledger.proofs.Runs.{bounded_step, follow_exists, given_end, given_next, given_stop}
use Rattle.ledger.proofs.judged.Judged.replay.Goals as goal

pub loop-step-init : goal.loop-step-init
unfolding at_start
loop-step-init c = record { so_far = refl; bounded = start_bounded c.args.start }

pub returns-then-not-can_follow : goal.returns-then-not-can_follow
returns-then-not-can_follow c =
    given_stop (its_tables c.args.self.now) c.args.start c.args.steps.now c.loop-step.at c.loop-step.step-index c.loop-step.invariant.so_far
    c.loop-step-test.true (sym c.can_follow.ensures ∙ c.if-not-can_follow.true)

pub go_on-requires : goal.go_on-requires
go_on-requires c = (
  follow_exists _ _ _ _ (sym c.can_follow.ensures ∙ c.if-not-can_follow.false),
  column_room c.loop-step.step-index c.loop-step.at.columns (omega (arith, c.requires, c.loop-step-test.true)) c.loop-step.invariant.bounded,
)

pub loop-step-preserved : goal.loop-step-preserved
loop-step-preserved c =
    let t = its_tables c.args.self.now in
    let can = sym c.can_follow.ensures ∙ c.if-not-can_follow.false in
    record {
      so_far =
          given_next t c.args.start c.args.steps.now c.loop-step.at c.loop-step.step-index c.loop-step.invariant.so_far c.go_on.new.at
          c.loop-step-test.true can c.go_on.ensures;
      bounded =
          bounded_step t (clean_valid t c.args.self.now.is_clean) c.loop-step.step-index c.loop-step.at c.go_on.new.at _ (follow_exists _ _ _ _ can)
          c.loop-step.invariant.bounded c.go_on.ensures;
    }

pub returns : goal.returns
returns c =
    given_end (its_tables c.args.self.now) c.args.start c.args.steps.now c.loop-step.at c.loop-step.step-index c.loop-step.invariant.so_far
    c.loop-step-test.false
