-- `hand_back` meets its contract: an accepted answer puts the run into lent memory, any other leaves it. Assumes nothing.
-- What an arm does is found among its facts, and not named.
use Rattle.std.proofs.Common.{rules}
use Rattle.lent_runs.proofs.Handed.{answer_is, repeated_other, refused_other, handed_accepted, handed_else}
use Rattle.lent_runs.proofs.hand_back.Goals as goal
use Rattle.lent_runs.proofs.hand_back.Goals.{in-Ok-Accepted, in-Ok-Repeated, in-Err}

pub returns : goal.returns
returns c =
    elim c.match-o.branch [
      | in-Ok-Accepted w ↦ search (rules, answer_is, repeated_other, refused_other, handed_accepted, handed_else)
      | in-Ok-Repeated w ↦ search (rules, answer_is, repeated_other, refused_other, handed_accepted, handed_else)
      | in-Err w ↦ search (rules, answer_is, repeated_other, refused_other, handed_accepted, handed_else)
    ]
