-- `desk_take_piece` meets its contract: words that are too short, or what the desk answers; only a piece that was taken writes them. Assumes nothing.
use Rattle.std.proofs.Common.{◌∙◌, sym}
use Rattle.desk_c.proofs.Texts.{words_long, take_short, take_told, after_taken, after_refused}
use Rattle.desk_c.proofs.desk_take_piece.Goals as goal
use Rattle.desk_c.proofs.desk_take_piece.Goals.{in-Ok, in_default}

pub returns-then-text_short : goal.returns-then-text_short
returns-then-text_short c = take_short _ _ _ _ (sym c.text_short.ensures ∙ c.if-text_short.true) c.word.ensures

pub text_in-requires : goal.text_in-requires
text_in-requires c = words_long _ (sym c.text_short.ensures ∙ c.if-text_short.false)

pub put_text-requires : goal.put_text-requires
put_text-requires c = words_long _ (sym c.text_short.ensures ∙ c.if-text_short.false)

pub returns : goal.returns
returns c =
    take_told _ _ _ _ (sym c.text_short.ensures ∙ c.if-text_short.false) _ c.text_in.ensures _ _ _ c.take_piece-taken.ensures
    (elim c.match-taken.branch [
      | in-Ok w ↦ w.text-is ∙ w.put_text.ensures ∙ after_taken _ _ _ w.in-Ok.is
      | in_default w ↦ w.text-is ∙ after_refused _ _ _ w.in_default.not-Ok
    ])
    c.word-2.ensures
