-- `desk_begin_text` meets its contract: words that are too short, or a text without a byte in them. Assumes nothing.
use Rattle.std.proofs.Common.{◌∙◌, sym}
use Rattle.desk_c.proofs.Texts.{words_long, begin_short, begin_done}
use Rattle.desk_c.proofs.desk_begin_text.Goals as goal

pub returns-then-text_short : goal.returns-then-text_short
returns-then-text_short c = begin_short _ _ (sym c.text_short.ensures ∙ c.if-text_short.true) c.word.ensures

pub put_text-requires : goal.put_text-requires
put_text-requires c = words_long _ (sym c.text_short.ensures ∙ c.if-text_short.false)

pub returns : goal.returns
returns c = begin_done _ _ (sym c.text_short.ensures ∙ c.if-text_short.false) _ c.begin_text.ensures c.put_text.ensures c.word-2.ensures
