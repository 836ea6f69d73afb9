-- `Run::is_run` meets its contract: the tests in the order of the definition. Assumes nothing.
use Rattle.std.proofs.Common.{sym, ◌∙◌, ap, arith}
use lib.ListN.{length-take}
use Rattle.meaning.specs.Limits.{most_steps}
use Rattle.ledger.specs.Ledger.{zeros, given}
use Rattle.ledger.specs.Inside.Judged.{its_tables}
use Rattle.ledger.proofs.Runs.{run_long, run_outside, run_used, run_stuck, run_ends}
use Rattle.ledger.proofs.Run.is_run.Goals as goal
use Rattle.ledger.proofs.Run.is_run.Goals.{then-len-gt-STEPS_MOST-via-then-len-gt-STEPS_MOST, then-len-gt-STEPS_MOST-via-else-len-gt-STEPS_MOST+then-not-has_start}

pub returns-then-len-gt-STEPS_MOST : goal.returns-then-len-gt-STEPS_MOST
unfolding most_steps
returns-then-len-gt-STEPS_MOST c =
    elim c.then-len-gt-STEPS_MOST.branch [
      | then-len-gt-STEPS_MOST-via-then-len-gt-STEPS_MOST w ↦ run_long _ _ w.if-len-gt-STEPS_MOST.true
      | then-len-gt-STEPS_MOST-via-else-len-gt-STEPS_MOST+then-not-has_start w ↦ run_outside _ _ (sym w.has_start.ensures ∙ w.if-not-has_start.true)
    ]

pub returns-then-not-all_zero : goal.returns-then-not-all_zero
returns-then-not-all_zero c = run_used (its_tables c.args.t.now) c.args.self.now (sym (c.all_zero.ensures ∙ ap zeros c.split_at.ensures.back) ∙ c.if-not-all_zero.true)

pub replay-requires : goal.replay-requires
unfolding most_steps
replay-requires c = omega (arith, length-take c.args.self.now.len c.args.self.now.log)

pub returns-in_default : goal.returns-in_default
unfolding most_steps given
returns-in_default c =
    run_stuck (its_tables c.args.t.now) c.args.self.now c.if-len-gt-STEPS_MOST.false (sym c.has_start.ensures ∙ c.if-not-has_start.false)
    (sym (c.all_zero.ensures ∙ ap zeros c.split_at.ensures.back) ∙ c.if-not-all_zero.false) (sym c.replay.ensures ∙ c.in_default.is)

pub returns : goal.returns
unfolding most_steps given
returns c =
    run_ends (its_tables c.args.t.now) c.args.self.now c.if-len-gt-STEPS_MOST.false (sym c.has_start.ensures ∙ c.if-not-has_start.false)
    (sym (c.all_zero.ensures ∙ ap zeros c.split_at.ensures.back) ∙ c.if-not-all_zero.false) (sym c.replay.ensures ∙ c.in-Some.is) c.stands_at.ensures
