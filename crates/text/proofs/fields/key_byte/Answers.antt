-- A byte of the keywords, and none past their end.
use Rattle.std.proofs.Common.{◌∙◌, sym}
use Rattle.std.proofs.Math.ListN.{get_or-eq_default}
use Rattle.text.proofs.Laws.{get_d_any}
use Rattle.text.specs.Inside.Fields.{keys, key_byte}
use Rattle.text.proofs.fields.key_byte.Goals as goal

pub returns-then-i-lt136 : goal.returns-then-i-lt136
unfolding key_byte
returns-then-i-lt136 c = c.from.ensures ∙ c.get_or.ensures ∙ get_d_any keys _ 0 256 c.if-i-lt136.true

pub returns-else-i-lt136 : goal.returns-else-i-lt136
unfolding key_byte
returns-else-i-lt136 c = sym (get_or-eq_default keys 256 c.if-i-lt136.false)
