-- What ends the digits, or follows a dash.
use Rattle.std.proofs.Common.{◌∙◌, sym}
use Rattle.text.proofs.Parts.{value_closed, value_past}
use Rattle.text.proofs.step.in_value.Goals as goal
use Rattle.text.proofs.step.in_value.Goals.{then-c-eq-PART_NUMBER+else-is_digit+else-dash_here, else-c-eq-PART_NUMBER}

pub returns : goal.returns
returns c =
    c.close_part.ensures
    ∙ elim c.if-c-eq-PART_NUMBER.branch [
      | then-c-eq-PART_NUMBER+else-is_digit+else-dash_here w ↦
          value_closed _ _ _ w.if-c-eq-PART_NUMBER.true (sym w.is_digit.ensures ∙ w.if-is_digit.false) (sym w.dash_here.ensures ∙ w.if-dash_here.false)
      | else-c-eq-PART_NUMBER w ↦ value_past _ _ _ w.if-c-eq-PART_NUMBER.false
    ]
