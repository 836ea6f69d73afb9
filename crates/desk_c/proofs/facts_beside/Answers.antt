-- `facts_beside` meets its contract: no facts beside a row that is too short. Assumes nothing.
use Rattle.std.proofs.Common.{sym, arith}
use Rattle.desk_c.proofs.Handed.{beside_short, beside_long}
use Rattle.desk_c.proofs.facts_beside.Goals as goal

pub returns-then-row-lt-COUNTS_ROW : goal.returns-then-row-lt-COUNTS_ROW
returns-then-row-lt-COUNTS_ROW c = sym (beside_short c.args.row.now c.args.facts.now (omega (arith, c.if-row-lt-COUNTS_ROW.true)))

pub returns : goal.returns
returns c = sym (beside_long c.args.row.now c.args.facts.now (omega (arith, c.if-row-lt-COUNTS_ROW.false)))
