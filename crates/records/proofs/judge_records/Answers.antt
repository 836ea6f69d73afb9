-- `judge_records` meets its contract: the answer from what its three calls answered (`judged_records`). Assumes nothing.
use Rattle.records.proofs.Laws.{judged_records}
use Rattle.records.proofs.judge_records.Goals as goal

pub returns : goal.returns
returns c =
    let a = c.args in
    judged_records a.c a.facts.now a.shares.now a.s.now a.ops.now a.rows.now c.copied.result c.gather.result c.judge_laid.result
    c.copied.ensures c.gather.ensures c.judge_laid.ensures
