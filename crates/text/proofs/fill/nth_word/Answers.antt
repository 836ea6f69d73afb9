-- Within the first n, and beyond.
use Rattle.std.proofs.Common.{◌∙◌, sym, arith}
use Rattle.std.proofs.Math.ListN.{get_or-eq_default}
use Rattle.text.proofs.Filling.{threes_at, threes_length}
use Rattle.text.specs.Inside.Area.{threes}
use Rattle.text.proofs.fill.nth_word.Goals as goal

pub returns-then-i-n : goal.returns-then-i-n
returns-then-i-n c = c.word_at.ensures.0 ∙ sym (threes_at _ _ _ _ c.if-i-n.true)

pub returns-else-i-n : goal.returns-else-i-n
returns-else-i-n c =
    let a = c.args in
    sym (get_or-eq_default (threes a.n a.at a.w.now) 0 (omega (arith, threes_length a.n a.at a.w.now, c.if-i-n.false)))
