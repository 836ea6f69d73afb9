-- `stepping::copy` meets its contract: what is copied of the lent list, and the 0 places after it. Assumes nothing.
use Rattle.meaning.specs.Limits.{most_vars}
use Rattle.tables.specs.Steps.{copied}
use Rattle.sequences.proofs.Copies.{copied_front}
use Rattle.sequences.proofs.stepping.copy.Goals as goal

pub returns : goal.returns
unfolding copied
returns c = rw c.copy_from_slice.ensures.after (copied_front c.args.s.now most_vars c.args.vars c.min-n.result c.requires c.min-n.ensures)
