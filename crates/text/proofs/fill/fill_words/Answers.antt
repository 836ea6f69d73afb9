-- One place more, and at the end all of them.
use Rattle.std.proofs.Common.{◌<◌, length, arith}
use Rattle.text.proofs.Filling.{filled_none, fill_turn, fill_end, threes_length}
use Rattle.text.proofs.fill.fill_words.Goals as goal

pub loop-i-init : goal.loop-i-init
loop-i-init c = filled_none _ _

pub loop-i-preserved : goal.loop-i-preserved
loop-i-preserved c = let fits : c.loop-i.i < length c.loop-i.out = omega arith in fill_turn _ _ _ _ _ c.loop-i.invariant fits c.nth_word.ensures

pub returns : goal.returns
returns c = fill_end _ _ _ _ _ (threes_length _ _ _) c.requires.2 c.loop-i.invariant (omega arith)
