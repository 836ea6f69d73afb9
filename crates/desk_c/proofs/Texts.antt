-- Laws of what the entries on a text in pieces hand back: each outcome from the facts that a way through the code has. Assumes nothing.
use Prim.Native.Nat.{ℕ, ◌≤◌, ◌<◌}
use mathlib.Core.Path.{◌≡◌, ap, ◌∙◌, refl}
use mathlib.Core.Bool.{Bool, true, false}
use mathlib.Core.List.{List}
use lib.ListN.{length}
use borrow.Author.Tests.{lt-ltb, le-ltb, ltb-false}
use Rattle.std.specs.Prelude.{Ok, Err}
use Rattle.grammar.specs.Readings.{Reading}
use Rattle.scan.specs.Found.{Found, clean}
use Rattle.refusals.specs.declared.Refusal.TheVariants.{TableTooShort}
use Rattle.pieces.specs.declared.SoFar.{SoFar}
use Rattle.pieces.specs.Pieces.{PieceLeft, EndLeft, begun_text, piece_left, piece_taken, end_left, text_ended}
use Rattle.lent_texts.specs.Lent.{text_words, text_short, so_far_in, words_with, words_ended}
use Rattle.words.specs.Words.{word, done, refused_word, found_word, reading_word}
use Rattle.desk_c.specs.Handing.{counts_row, counts_after, read_left}
use Rattle.desk_c.specs.Pieces.{begin_after, begin_text_handed, piece_after, text_after, piece_told, take_piece_handed, end_after, ended_by, end_told, end_text_handed}

-- words that are long enough
pub words_long : (text : List ℕ) → text_short text ≡ false → text_words ≤ length text
unfolding text_short
words_long text h = ltb-false _ _ h

-- a beginning
module _ (text : List ℕ) (w : ℕ) where
  pub begin_short : text_short text ≡ true → w ≡ refused_word TableTooShort → begin_after w text ≡ begin_text_handed text
  unfolding begin_text_handed
  begin_short h e = rw (h, e)

  pub begin_done : text_short text ≡ false → (s : SoFar) → s ≡ begun_text → {t : List ℕ} → t ≡ words_with s text → w ≡ word done 0 → begin_after w t ≡ begin_text_handed text
  unfolding begin_text_handed
  begin_done h s b p e = rw (h, e, p, b)

-- the text's words after a piece
pub after_taken : (a : Found) (t : SoFar) (text : List ℕ) → a ≡ clean → words_with t text ≡ text_after a t text
after_taken a t text e = rw e

pub after_refused : (a : Found) (t : SoFar) (text : List ℕ) → ((u : Unit {0}) → a ≡ Ok u → ⊥) → text ≡ text_after a t text
after_refused (Ok u) t text not = absurd (not u refl)
after_refused (Err r) t text not = refl

-- a piece
module _ (text area piece : List ℕ) (w : ℕ) where
  pub take_short : text_short text ≡ true → w ≡ refused_word TableTooShort → piece_after w text area ≡ take_piece_handed text area piece
  unfolding take_piece_handed
  take_short h e = rw (h, e)

  piece_handed : text_short text ≡ false → piece_told (piece_taken (so_far_in text) area piece) text ≡ take_piece_handed text area piece
  unfolding take_piece_handed
  piece_handed h = rw h

  pub take_told : text_short text ≡ false → (s : SoFar) → s ≡ so_far_in text → (t : SoFar) (a : Found) (u : List ℕ) → piece_left t a u ≡ piece_taken s area piece
      → {v : List ℕ} → v ≡ text_after a t text → w ≡ found_word a → piece_after w v u ≡ take_piece_handed text area piece
  take_told h s p t a u q {v} b e =
      let told : piece_after w v u ≡ piece_told (piece_left t a u) text = λ i. piece_after (e i) (b i) u in
      told ∙ ap (λ (x : PieceLeft). piece_told x text) (q ∙ ap (λ (x : SoFar). piece_taken x area piece) p) ∙ piece_handed h

-- the text's words after an end
pub ended_before : (before ended : Bool) (text : List ℕ) → before ≡ true → text ≡ ended_by before ended text
unfolding ended_by
ended_before before ended text h = rw h

pub ended_now : (before ended : Bool) (text : List ℕ) → before ≡ false → ended ≡ true → words_ended text ≡ ended_by before ended text
unfolding ended_by
ended_now before ended text h k = rw (h, k)

pub ended_not : (before ended : Bool) (text : List ℕ) → before ≡ false → ended ≡ false → text ≡ ended_by before ended text
unfolding ended_by
ended_not before ended text h k = rw (h, k)

-- the end
module _ (text area counts f c s : List ℕ) (w : ℕ) where
  pub end_short : text_short text ≡ true → w ≡ refused_word TableTooShort → end_after (read_left w counts f c s) text ≡ end_text_handed text area counts f c s
  unfolding end_text_handed
  end_short h e = rw (h, e)

  pub end_few : text_short text ≡ false → length counts < counts_row → w ≡ refused_word TableTooShort
      → end_after (read_left w counts f c s) text ≡ end_text_handed text area counts f c s
  unfolding end_text_handed
  end_few h k e = rw (h, lt-ltb (length counts) counts_row k, e)

  end_handed : text_short text ≡ false → counts_row ≤ length counts → end_told (text_ended (so_far_in text) area f c s) text counts ≡ end_text_handed text area counts f c s
  unfolding end_text_handed
  end_handed h k = rw (h, le-ltb (length counts) counts_row k)

  pub end_told_lem : text_short text ≡ false → counts_row ≤ length counts → (x : SoFar) → x ≡ so_far_in text → (t : SoFar) (r : Reading) (f' c' s' : List ℕ)
      → end_left t r f' c' s' ≡ text_ended x area f c s → {v n : List ℕ} → v ≡ ended_by x.ended t.ended text → w ≡ reading_word r → n ≡ counts_after r counts
      → end_after (read_left w n f' c' s') v ≡ end_text_handed text area counts f c s
  end_told_lem h k x p t r f' c' s' q {v} {n} b e d =
      let told : end_after (read_left w n f' c' s') v ≡ end_told (end_left t r f' c' s') text counts =
      λ i. end_after (read_left (e i) (d i) f' c' s') ((b ∙ ap (λ (y : SoFar). ended_by y.ended t.ended text) p) i)
      in
      told ∙ ap (λ (y : EndLeft). end_told y text counts) (q ∙ ap (λ (y : SoFar). text_ended y area f c s) p) ∙ end_handed h k
