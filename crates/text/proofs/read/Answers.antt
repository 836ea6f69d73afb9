-- The machine reads every text as the grammar says.
use Rattle.std.proofs.Common.{◌∙◌}
use Rattle.text.proofs.BridgeText.{read_is}
use Rattle.text.proofs.read.Goals as goal

pub returns : goal.returns
returns c = c.read_by_machine.ensures ∙ read_is _ _ _ _ (λ i h. (c.type_inv.text i).fits)
