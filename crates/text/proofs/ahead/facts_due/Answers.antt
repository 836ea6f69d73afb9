-- Where a list's variable is due the control is that of the loop.
use Rattle.std.proofs.Common.{sym, refl, arith}
use Rattle.text.proofs.Onward.{stays, as_due, list_due}
use Rattle.text.specs.Inside.Control.{due}
use Rattle.text.proofs.ahead.facts_due.Goals as goal

pub returns-in_default : goal.returns-in_default
returns-in_default c = stays _ c.requires.0 _ _ _ _ _ _ c.requires.2 c.stay.ensures.0 c.stay.ensures.1 c.stay.ensures.2

pub returns-then-c-ne0 : goal.returns-then-c-ne0
returns-then-c-ne0 c =
    stays _ c.requires.0 _ _ _ _ _ _ c.requires.2 c.stay-then-c-ne0.ensures.0 c.stay-then-c-ne0.ensures.1 c.stay-then-c-ne0.ensures.2

pub returns : goal.returns
unfolding due
returns c =
    let place = c.in-Some.ensures.0 in
    let some = c.in-Some.ensures.1 in
    as_due (list_due _ c.requires.0 c.requires.1 c.if-c-ne0.false) refl (c.facts_ahead-n.ensures c.args.c (λ z. let n : ⊥ = omega (arith, z, place, some) in n) (sym place) refl)
