-- `desk_end_text` meets its contract: words or counts that are too short, or what the desk answers. Assumes nothing.
use Rattle.std.proofs.Common.{◌∙◌, sym}
use Rattle.desk_c.proofs.Texts.{words_long, end_short, end_few, end_told_lem}
use Rattle.desk_c.proofs.desk_end_text.Goals as goal

pub returns-then-text_short : goal.returns-then-text_short
returns-then-text_short c = end_short _ _ _ _ _ _ _ (sym c.text_short.ensures ∙ c.if-text_short.true) c.word.ensures

pub returns-then-counts-lt-COUNTS_ROW : goal.returns-then-counts-lt-COUNTS_ROW
returns-then-counts-lt-COUNTS_ROW c =
    end_few _ _ _ _ _ _ _ (sym c.text_short.ensures ∙ c.if-text_short.false) c.if-counts-lt-COUNTS_ROW.true c.word-then-counts-lt-COUNTS_ROW.ensures

pub text_in-so_far-requires : goal.text_in-so_far-requires
text_in-so_far-requires c = words_long _ (sym c.text_short.ensures ∙ c.if-text_short.false)

pub hand_ended-requires : goal.hand_ended-requires
hand_ended-requires c = words_long _ (sym c.text_short.ensures ∙ c.if-text_short.false)

pub returns : goal.returns
returns c =
    end_told_lem _ _ _ _ _ _ _ (sym c.text_short.ensures ∙ c.if-text_short.false) c.if-counts-lt-COUNTS_ROW.false _ c.text_in-so_far.ensures _ _ _ _ _ c.end_text-ended.ensures
    c.hand_ended.ensures c.hand_reading.ensures.0 c.hand_reading.ensures.1
