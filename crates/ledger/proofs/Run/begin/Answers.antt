-- `Run::begin` meets its contract: what was found of the tables and the state decides. Assumes nothing.
use Rattle.std.proofs.Common.{sym, ap, ◌∙◌}
use Rattle.ledger.specs.Ledger.{fresh}
use Rattle.ledger.proofs.Entries.{begun_clean, begun_fault, few_vars}
use Rattle.ledger.proofs.Run.begin.Goals as goal
use Rattle.ledger.proofs.Run.begin.Goals.{in-Ok, in-Err}

pub copy-requires : goal.copy-requires
copy-requires c = few_vars _ _ (sym c.input_fault.ensures ∙ c.in-Ok.is)

pub returns : goal.returns
returns c =
    let run = c.fresh.ensures in
    elim c.match-input_fault.branch [
      | in-Ok w ↦ rw w.answer-is (begun_clean _ _ _ (sym c.input_fault.ensures ∙ w.in-Ok.is) ((rw w.answer-is at run) ∙ ap fresh w.copy.ensures))
      | in-Err w ↦ rw w.answer-is (begun_fault _ _ _ _ (sym c.input_fault.ensures ∙ w.in-Err.is) (rw w.answer-is at run))
    ]
