-- `Judged::go_on` meets its contract: the state and the columns, each by its own. Assumes nothing.
use Rattle.ledger.proofs.Runs.{stepped_onward}
use Rattle.ledger.specs.Inside.Judged.{its_tables}
use Rattle.ledger.proofs.judged.Judged.go_on.Goals as goal

pub returns : goal.returns
returns c = stepped_onward (its_tables c.args.self.now) c.args.at.now c.args.op.0 _ _ c.run.ensures c.book.ensures
