-- `desk_read` meets its contract: a row of counts that is too short comes before all, and else the reading is handed back. Assumes nothing.
use Rattle.std.proofs.Common.{arith}
use Rattle.desk_c.proofs.Handed.{read_short, read_back}
use Rattle.desk_c.proofs.desk_read.Goals as goal

pub returns-then-counts-lt-COUNTS_ROW : goal.returns-then-counts-lt-COUNTS_ROW
returns-then-counts-lt-COUNTS_ROW c = read_short _ _ _ _ _ _ (omega arith) c.word.ensures

pub returns : goal.returns
returns c = read_back _ _ _ _ _ _ (omega arith) _ _ _ _ c.read-reading.ensures c.hand_reading.ensures.0 c.hand_reading.ensures.1
