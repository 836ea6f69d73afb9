-- A lone 0, or the digits after the first.
use Rattle.std.proofs.Common.{◌∙◌, sym, arith}
use Rattle.text.proofs.Onward.{zero_number, longer_number}
use Rattle.text.proofs.numbers.number_from.Goals as goal

pub returns-then-d-eq0 : goal.returns-then-d-eq0
returns-then-d-eq0 c = (omega arith, zero_number _ _ c.requires (c.in_ok-d.ensures.0 ∙ c.if-d-eq0.true))

pub returns-else-d-eq0 : goal.returns-else-d-eq0
returns-else-d-eq0 c =
    let e = c.in_ok-d.ensures.0 in
    let on = c.longer_from.ensures.on in
    (omega arith, longer_number _ _ _ _ c.requires (rw e c.in_ok-d.ensures.1) (λ z. c.if-d-eq0.false (sym e ∙ z)) (rw e c.longer_from.ensures))
