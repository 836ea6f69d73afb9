-- TEXTS IN PIECES as C lends them: the word that goes back, and every lent place. The text so far stands in lent words (lent_texts/specs/Lent.antt).
-- Words of a text, or a row of counts, that are lent too short are 8 and nothing else, before all.
use Rattle.scan.specs.Found.{Found}
use Rattle.std.specs.Prelude.{◌≡◌, Bool, true, cond, ◌||◌, List, [], ◌++◌, ℕ, ◌≤◌, ◌<◌, ltb, length, Ok, Err}
use Rattle.refusals.specs.declared.Refusal.TheVariants.{TableTooShort}
use Rattle.grammar.specs.Fields.{leaves}
use Rattle.pieces.specs.declared.SoFar.{SoFar}
use Rattle.pieces.specs.Pieces.{area_lent, PieceLeft, EndLeft, begun_text, lent_short, piece_taken, text_ended}
use Rattle.pieces.specs.Calls.{OfBytes}
use Rattle.lent_texts.specs.Lent.{text_words, text_short, so_far_in, words_with, words_ended}
use Rattle.words.specs.Words.{word, done, refused_word, found_word}
use Rattle.desk_c.specs.Handing.{ReadLeft, read_left, counts_row, read_counted}

-- A BEGINNING: the word, and the text's words
pub record BeginAfter : Type 0 where
  pub word : ℕ
  pub text : List ℕ

abbrev pub begin_after : ℕ → List ℕ → BeginAfter
begin_after w t = record { word = w; text = t }

unfoldable pub begin_text_handed : List ℕ → BeginAfter
begin_text_handed text = cond (text_short text) (begin_after (refused_word TableTooShort) text) (begin_after (word done 0) (words_with begun_text text))

-- A PIECE: the word, the text's words and the lent area
pub record PieceAfter : Type 0 where
  pub word : ℕ
  pub text : List ℕ
  pub area : List ℕ

abbrev pub piece_after : ℕ → List ℕ → List ℕ → PieceAfter
piece_after w t a = record { word = w; text = t; area = a }

-- the text's words after a piece: only one that was taken writes them
abbrev pub text_after : Found → SoFar → List ℕ → List ℕ
text_after (Ok tt) s text = words_with s text
text_after (Err r) s text = text

abbrev pub piece_told : PieceLeft → List ℕ → PieceAfter
piece_told x text = piece_after (found_word x.answer) (text_after x.answer x.text text) x.area

unfoldable pub take_piece_handed : List ℕ → List ℕ → List ℕ → PieceAfter
take_piece_handed text area piece =
    cond (text_short text) (piece_after (refused_word TableTooShort) text area) (piece_told (piece_taken (so_far_in text) area piece) text)

-- THE END: what a reading leaves, beside the text's words
pub record EndAfter : Type 0 where
  pub read : ReadLeft
  pub text : List ℕ

abbrev pub end_after : ReadLeft → List ℕ → EndAfter
end_after r t = record { read = r; text = t }

-- the text's words after an end: one word is written where the text has ended now, and had not before
unfoldable pub ended_by : Bool → Bool → List ℕ → List ℕ
ended_by before ended text = cond before text (cond ended (words_ended text) text)

abbrev pub end_told : EndLeft → List ℕ → List ℕ → EndAfter
end_told x text counts =
    end_after (read_counted (leaves x.answer x.facts x.costs x.shares) counts) (ended_by (so_far_in text).ended x.text.ended text)

unfoldable pub end_text_handed : List ℕ → List ℕ → List ℕ → List ℕ → List ℕ → List ℕ → EndAfter
end_text_handed text area counts f c s =
    cond (text_short text)
    (end_after (read_left (refused_word TableTooShort) counts f c s) text)
    (cond (ltb (length counts) counts_row)
    (end_after (read_left (refused_word TableTooShort) counts f c s) text)
    (end_told (text_ended (so_far_in text) area f c s) text counts))

-- CALLS BEFORE THE END through lent memory: the pieces taken so far are, put together, this text; and the text's words and the area that stand there then
pub data LentCalls : List ℕ → List ℕ → List ℕ → Type 0 where
  -- a text is begun; words and area may hold anything
  begun : (text area : List ℕ) → text_words ≤ length text → area_lent ≤ length area → (x : BeginAfter) → x ≡ begin_text_handed text → LentCalls [] x.text area
  -- a piece
  piece : {bytes text area : List ℕ} → LentCalls bytes text area → (p : List ℕ) → OfBytes p → (x : PieceAfter) → x ≡ take_piece_handed text area p
      → LentCalls (bytes ++ p) x.text x.area
  -- a piece that is handed another area, too short
  other_area : {bytes text area : List ℕ} → LentCalls bytes text area → (p u : List ℕ) → length u < area_lent → (x : PieceAfter) → x ≡ take_piece_handed text u p
      → LentCalls bytes x.text area
  -- the end, if the area, the counts or a table that it is handed is too short
  short_end : {bytes text area : List ℕ} → LentCalls bytes text area → (u counts f c s : List ℕ) → (ltb (length counts) counts_row || lent_short u f c s) ≡ true
      → (x : EndAfter) → x ≡ end_text_handed text u counts f c s → LentCalls bytes x.text area
