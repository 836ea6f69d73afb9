-- Where a share is due the control is that of the loop.
use Rattle.std.proofs.Common.{sym, refl}
use Rattle.text.proofs.Onward.{stays, as_due, in_field, share_due}
use Rattle.text.proofs.ahead.shares_due.Goals as goal

pub returns-then-c-ne0 : goal.returns-then-c-ne0
returns-then-c-ne0 c = stays _ c.requires.0 _ _ _ _ _ _ c.requires.3 c.stay.ensures.0 c.stay.ensures.1 c.stay.ensures.2

pub returns : goal.returns
returns c =
    let field = c.requires.2 in
    as_due (share_due _ c.requires.0 c.requires.1 c.if-c-ne0.false field) (in_field _ _ _ _ _ (sym field)) (c.shares_ahead-n.ensures c.args.c refl refl)
