-- `choosing::choose_lists` meets its contract: the copy of the state agrees with the lent one. Assumes nothing.
use Rattle.std.proofs.Common.{◌∙◌, ap₂}
use Rattle.tables.specs.Task.{held, task_of, state_of}
use Rattle.sequences.specs.Choosing.{choice_of}
use Rattle.sequences.proofs.Walks.{same_copied, chosen_same}
use Rattle.sequences.proofs.choosing.choose_lists.Goals as goal

pub returns : goal.returns
returns c =
    let T = task_of (held c.args.t) in
    let h = same_copied T c.args.s.now c.copy-start.result c.requires c.copy-start.ensures in
    c.choose.ensures ∙ ap₂ choice_of c.reach_within-first.ensures c.reach_within-second.ensures
    ∙ chosen_same T (state_of c.copy-start.result) (state_of c.args.s.now) c.args.a.now c.args.b.now h
