-- `Laid::copied` meets its contract: what is copied of the lent facts, and the 0 places after them. Assumes nothing.
use Rattle.std.proofs.Common.{List, ℕ, ap, arith}
use Rattle.std.specs.Prelude.{replicate}
use Rattle.tables.specs.Layout.{facts_room, costs_room}
use Rattle.sequences.proofs.Copies.{copied_front}
use Rattle.records.proofs.laying.Laid.copied.Goals as goal

pub returns : goal.returns
returns c =
    rw c.copy_from_slice.ensures.after
    (ap (λ (l : List ℕ). record { facts = l; costs = replicate costs_room 0 })
    (copied_front c.args.facts.now facts_room facts_room c.min-n.result (omega arith) c.min-n.ensures))
