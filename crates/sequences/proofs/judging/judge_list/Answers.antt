-- `judging::judge_list` meets its contract: the copy of the state agrees with the lent one. Assumes nothing.
use Rattle.std.proofs.Common.{◌∙◌, rules}
use Rattle.meaning.specs.Limits.{most_steps}
use Rattle.tables.specs.Task.{held, task_of, state_of}
use Rattle.sequences.proofs.Walks.{limited_within, same_copied}
use Rattle.sequences.proofs.judging.judge_list.Goals as goal

pub returns : goal.returns
unfolding most_steps
returns c =
    let T = task_of (held c.args.t) in
    c.walk.ensures
    ∙ limited_within T (state_of c.args.s.now) (state_of c.copy.result) c.args.ops.now (same_copied T c.args.s.now c.copy.result c.requires c.copy.ensures)
    (search rules)
