-- `Laid::lay_row` meets its contract: the 8 places of a row, written at once. Assumes nothing.
use Rattle.std.proofs.Common.{◌*◌, sym, ◌∙◌, arith}
use Rattle.std.proofs.lemmas.Slice.{put_mid-paste}
use Rattle.meaning.specs.Limits.{most_vars}
use Rattle.records.proofs.Laws.{row_pasted}
use Rattle.records.proofs.laying.Laid.lay_row.Goals as goal

pub returns-clause-facts : goal.returns-clause-facts
returns-clause-facts c =
    let a = c.args in
    put_mid-paste (a.row * 8) _ a.self.now.facts c.copy_from_slice.new.self a.values.now most_vars c.copy_from_slice.ensures.after (omega arith) (omega arith)
    ∙ sym (row_pasted a.self.now.facts a.values.now a.row most_vars (omega arith) (omega arith))
