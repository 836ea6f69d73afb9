-- `Run::fresh` meets its contract: it is the definition. Assumes nothing.
use mathlib.Core.Path.{refl}
use Rattle.meaning.specs.Limits.{most_steps}
use Rattle.ledger.specs.Ledger.{at_start, fresh}
use Rattle.ledger.proofs.Run.fresh.Goals as goal

pub returns : goal.returns
unfolding fresh at_start most_steps
returns c = refl
