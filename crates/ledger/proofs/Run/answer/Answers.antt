-- `Run::answer` meets its contract: 17, then the offer itself. Assumes nothing.
use Rattle.std.proofs.Common.{sym, ◌∙◌}
use Rattle.ledger.specs.Inside.Judged.{its_tables}
use Rattle.ledger.proofs.Runs.{run_tested}
use Rattle.ledger.proofs.Run.answer.Goals as goal

pub judge-requires : goal.judge-requires
judge-requires c = (run_tested (its_tables c.args.t.now) c.args.self.now (sym c.is_run.ensures ∙ c.if-not-is_run.false)).len
