-- HOWEVER C CUTS A TEXT, its end answers as `desk_read` does of the whole, in both editions: what stands in the lent words is the desk's own text so far, so the
-- theorem is that of the desk's entries. After the end a piece and a second end are 2 at place 0; what is refused alters nothing that was lent, but that an end ends
-- the text. From the desk's entries. Assumes nothing.
use Prim.Native.Nat.{ℕ, ◌≤◌, ◌<◌}
use native.Mathlib.Omega.{arith}
use mathlib.Core.Path.{◌≡◌, refl, sym, ap, ◌∙◌, subst}
use mathlib.Core.Bool.{Bool, true, false, cond, ◌||◌}
use mathlib.Core.List.{List, [], ◌++◌}
use lib.Dec.{ltb}
use lib.ListN.{length}
use borrow.Author.Tests.{le-ltb, lt-ltb}
use Rattle.std.specs.Prelude.{Ok, Err}
use Rattle.grammar.specs.Readings.{Reading}
use Rattle.scan.specs.Found.{Found, clean}
use Rattle.refusals.specs.declared.Refusal.TheVariants.{OffForm, TableTooShort}
use Rattle.meaning.proofs.Facts.{by_cases, by_order}
use Rattle.grammar.specs.Fields.{Outcome}
use Rattle.grammar.specs.Grammar.{read_text}
use Rattle.pieces.specs.declared.SoFar.{SoFar}
use Rattle.pieces.specs.Pieces.{area_lent, begun_text, PieceLeft, piece_left, piece_taken, EndLeft, lent_short, text_ended}
use Rattle.pieces.specs.Calls.{OfBytes, Calls}
use Rattle.pieces.specs.Calls as calls
use Rattle.pieces.proofs.Answers as answers
use Rattle.pieces.proofs.Ending as ending
use Rattle.pieces.proofs.Whole as whole
use Rattle.lent_texts.specs.Lent.{text_words, text_short, so_far_in, words_with}
use Rattle.lent_texts.proofs.Carried.{taken_back, ended_back, lengths_kept}
use Rattle.words.specs.Words.{refused_word, found_word, reading_word}
use Rattle.desk_c.specs.Handing.{read_left, counts_row, counts_after, read_counted, read_handed}
use Rattle.desk_c.specs.Pieces.{BeginAfter, begin_text_handed, PieceAfter, piece_after, text_after, piece_told, take_piece_handed, EndAfter, end_after, ended_by, end_told}
use Rattle.desk_c.specs.Pieces.{end_text_handed, LentCalls, begun, piece, other_area, short_end}
use Rattle.desk_c.proofs.Texts.{take_short, end_short, end_few}

-- ---- words that are long enough
not_short : (text : List ℕ) → text_words ≤ length text → text_short text ≡ false
unfolding text_short
not_short text h = le-ltb _ _ h

is_short : (text : List ℕ) → length text < text_words → text_short text ≡ true
unfolding text_short
is_short text h = lt-ltb _ _ h

module _ (text : List ℕ) (long : text_words ≤ length text) where
  begins : (begin_text_handed text).text ≡ words_with begun_text text
  unfolding begin_text_handed
  begins = rw (not_short text long)

  takes : (area p : List ℕ) → take_piece_handed text area p ≡ piece_told (piece_taken (so_far_in text) area p) text
  unfolding take_piece_handed
  takes area p = rw (not_short text long)

  ends : (area counts f c s : List ℕ)
      → end_text_handed text area counts f c s
      ≡ cond (ltb (length counts) counts_row) (end_after (read_left (refused_word TableTooShort) counts f c s) text) (end_told (text_ended (so_far_in text) area f c s) text counts)
  unfolding end_text_handed
  ends area counts f c s = rw (not_short text long)

-- ---- what stands in the words is the text so far
record Carried (bytes text area : List ℕ) : Type 0 where
  long : text_words ≤ length text
  made : Calls bytes (so_far_in text) area

begun_carried : (text area : List ℕ) → text_words ≤ length text → area_lent ≤ length area → Carried [] (words_with begun_text text) area
begun_carried text area l a =
    record {
      long = omega (arith, (lengths_kept text l begun_text).0);
      made = subst (λ (s : SoFar). Calls [] s area) (sym (taken_back begun_text text)) (calls.begun area a);
    }

-- a piece that was taken
module _ {bytes text area : List ℕ} (k : Carried bytes text area) (p : List ℕ) (o : OfBytes p) where
  abbrev taken : PieceLeft
  taken = piece_taken (so_far_in text) area p

  told_taken : piece_told taken text ≡ piece_after (found_word clean) (words_with taken.text text) taken.area
  told_taken =
      ap (λ (a : Found). piece_after (found_word a) (text_after a taken.text text) taken.area) (whole.piece_clean k.made p taken.text taken.answer taken.area refl)

  piece_carried : Carried (bytes ++ p) (words_with taken.text text) taken.area
  piece_carried =
      record {
        long = omega (arith, k.long, (lengths_kept text k.long taken.text).0);
        made = subst (λ (s : SoFar). Calls (bytes ++ p) s taken.area) (sym (taken_back taken.text text)) (calls.piece k.made p o taken.answer refl);
      }

-- an end that is refused with 8 leaves the words as they were
same_kept : (b : Bool) (text : List ℕ) → ended_by b b text ≡ text
unfolding ended_by
same_kept true text = refl
same_kept false text = refl

end_kept : (text u counts f c s : List ℕ) → text_words ≤ length text → (ltb (length counts) counts_row || lent_short u f c s) ≡ true → (end_text_handed text u counts f c s).text ≡ text
end_kept text u counts f c s l h = ap (λ (x : EndAfter). x.text) (ends text l u counts f c s) ∙ split (ltb (length counts) counts_row) h
  where
    split : (b : Bool) → (b || lent_short u f c s) ≡ true
        → (cond b (end_after (read_left (refused_word TableTooShort) counts f c s) text) (end_told (text_ended (so_far_in text) u f c s) text counts)).text ≡ text
    split true e = refl
    split false e =
        ap (λ (x : EndLeft). ended_by (so_far_in text).ended x.text.ended text) (answers.short_end (so_far_in text) u f c s e) ∙ same_kept (so_far_in text).ended text

-- WHATEVER CALLS WERE MADE
calls_carried : {bytes text area : List ℕ} → LentCalls bytes text area → Carried bytes text area
calls_carried (begun text area l a x e) = subst (λ (t : List ℕ). Carried [] t area) (sym (ap (λ (y : BeginAfter). y.text) e ∙ begins text l)) (begun_carried text area l a)
calls_carried (piece {bytes = bytes} {text = text} {area = area} c p o x e) =
    let k = calls_carried c in
    subst (λ (y : PieceAfter). Carried (bytes ++ p) y.text y.area) (sym (e ∙ takes text k.long area p ∙ told_taken k p o)) (piece_carried k p o)
calls_carried (other_area {bytes = bytes} {text = text} {area = area} c p u l x e) =
    let k = calls_carried c in
    subst (λ (y : PieceAfter). Carried bytes y.text area)
    (sym (e ∙ takes text k.long u p ∙ ap (λ (y : PieceLeft). piece_told y text) (answers.short_area (so_far_in text) u p l))) k
calls_carried (short_end {bytes = bytes} {text = text} {area = area} c u counts f d s l x e) =
    let k = calls_carried c in
    subst (λ (t : List ℕ). Carried bytes t area) (sym (ap (λ (y : EndAfter). y.text) e ∙ end_kept text u counts f d s k.long l)) k

-- ---- THE THEOREM, after whatever calls before the end
module _ {bytes text area : List ℕ} (made : LentCalls bytes text area) where
  -- every piece is taken
  pub piece_done : (p : List ℕ) → OfBytes p → (x : PieceAfter) → x ≡ take_piece_handed text area p → x.word ≡ 0
  piece_done p o x e =
      let k = calls_carried made in ap (λ (y : PieceAfter). y.word) (e ∙ takes text k.long area p ∙ told_taken k p o)

  -- THE END IS THAT OF THE WHOLE TEXT: the word, the counts and every table; for counts or tables too short 8, as there
  pub in_pieces : (counts f c s : List ℕ) (x : EndAfter) → x ≡ end_text_handed text area counts f c s → x.read ≡ read_handed bytes counts f c s
  unfolding read_handed
  in_pieces counts f c s x e =
      let k = calls_carried made in
      ap (λ (y : EndAfter). y.read) (e ∙ ends text k.long area counts f c s)
      ∙ split (ltb (length counts) counts_row) (whole.in_pieces k.made f c s (text_ended (so_far_in text) area f c s) refl)
    where
      split : (b : Bool) → whole.answer_and_tables (text_ended (so_far_in text) area f c s) ≡ read_text bytes f c s
          → (cond b (end_after (read_left (refused_word TableTooShort) counts f c s) text) (end_told (text_ended (so_far_in text) area f c s) text counts)).read
          ≡ cond b (read_left (refused_word TableTooShort) counts f c s) (read_counted (read_text bytes f c s) counts)
      split true h = refl
      split false h = ap (λ (o : Outcome). read_counted o counts) h

-- ---- counts that are long enough
module _ (text area counts f c s : List ℕ) (long : text_words ≤ length text) where
  answers_as : counts_row ≤ length counts → end_text_handed text area counts f c s ≡ end_told (text_ended (so_far_in text) area f c s) text counts
  answers_as n =
      ends text long area counts f c s
      ∙ ap (λ (b : Bool). cond b (end_after (read_left (refused_word TableTooShort) counts f c s) text) (end_told (text_ended (so_far_in text) area f c s) text counts))
      (le-ltb (length counts) counts_row n)

-- ---- AFTER THE END, whatever stands in the words besides: 2 at place 0, and nothing moves
module _ (text : List ℕ) (long : text_words ≤ length text) (over : (so_far_in text).ended ≡ true) where
  pub piece_after_end : (area p : List ℕ) → area_lent ≤ length area → take_piece_handed text area p ≡ piece_after (refused_word (OffForm 0)) text area
  piece_after_end area p a =
      takes text long area p ∙ ap (λ (y : PieceLeft). piece_told y text) (answers.piece_after_end (so_far_in text) area p a over)

  pub second_end : (area counts f c s : List ℕ) → counts_row ≤ length counts → lent_short area f c s ≡ false
      → end_text_handed text area counts f c s ≡ end_after (read_left (refused_word (OffForm 0)) counts f c s) text
  second_end area counts f c s n l =
      answers_as text area counts f c s long n
      ∙ ap (λ (y : EndLeft). end_told y text counts) (answers.second_end (so_far_in text) area f c s l over)
      ∙ ap (λ (t : List ℕ). end_after (read_left (refused_word (OffForm 0)) counts f c s) t) (same_kept (so_far_in text).ended text)

-- and an end that was lent enough ends the text
now_ended : (text : List ℕ) → text_words ≤ length text → (so_far_in (ended_by (so_far_in text).ended true text)).ended ≡ true
unfolding ended_by
now_ended text l = by_cases (so_far_in text).ended (λ e. rw e e) (λ e. rw e (ap (λ (y : SoFar). y.ended) (ended_back text l)))

desk_ends : (x : SoFar) (area f c s : List ℕ) → lent_short area f c s ≡ false → (text_ended x area f c s).text.ended ≡ true
desk_ends x area f c s l =
    by_cases x.ended
    (λ e. ap (λ (y : EndLeft). y.text.ended) (answers.second_end x area f c s l e) ∙ e)
    (λ e. ap (λ (y : EndLeft). y.text.ended) (answers.end_read x area f c s l e))

module _ (text area counts f c s : List ℕ) (long : text_words ≤ length text) where
  pub end_ends : counts_row ≤ length counts → lent_short area f c s ≡ false → (so_far_in (end_text_handed text area counts f c s).text).ended ≡ true
  end_ends n l =
      ap (λ (y : EndAfter). (so_far_in y.text).ended) (answers_as text area counts f c s long n)
      ∙ ap (λ (b : Bool). (so_far_in (ended_by (so_far_in text).ended b text)).ended) (desk_ends (so_far_in text) area f c s l)
      ∙ now_ended text long

-- ---- WHAT IS REFUSED ALTERS NOTHING THAT C LENT: with any word but 0 a piece leaves the text's words and the area as they were, and an end the counts and the tables
module _ (text area p : List ℕ) (x : PieceAfter) (said : x ≡ take_piece_handed text area p) where
  abbrev Alone : PieceAfter → Type 0
  Alone y = 0 < y.word → (y.text ≡ text) × (y.area ≡ area)

  told_alone : (y : PieceLeft) → (0 < found_word y.answer → y.area ≡ area) → Alone (piece_told y text)
  told_alone y h = split y.answer y.text y.area h
    where
      split : (a : Found) (t : SoFar) (v : List ℕ) → (0 < found_word a → v ≡ area) → Alone (piece_told (piece_left t a v) text)
      split (Ok tt) t v g l = let z : ⊥ = omega arith in absurd z
      split (Err r) t v g l = (refl, g l)

  -- a piece that isn't taken leaves the area
  abbrev AreaAlone : PieceLeft → Type 0
  AreaAlone y = 0 < found_word y.answer → y.area ≡ area

  area_alone : AreaAlone (piece_taken (so_far_in text) area p)
  area_alone =
      by_order (length area) area_lent
      (λ l. subst AreaAlone (sym (answers.short_area (so_far_in text) area p l)) (λ h. refl))
      (λ l.
      by_cases (so_far_in text).ended
      (λ e. subst AreaAlone (sym (answers.piece_after_end (so_far_in text) area p l e)) (λ h. refl))
      (λ e. subst AreaAlone (sym (answers.piece_taken_lem (so_far_in text) area p l e)) (λ h. let z : ⊥ = omega arith in absurd z)))

  pub piece_refused : 0 < x.word → (x.text ≡ text) × (x.area ≡ area)
  piece_refused =
      subst Alone (sym said)
      (by_order (length text) text_words
      (λ l. subst Alone (take_short text area p (refused_word TableTooShort) (is_short text l) refl) (λ h. (refl, refl)))
      (λ l. subst Alone (sym (takes text l area p)) (told_alone (piece_taken (so_far_in text) area p) area_alone)))

module _ (text area counts f c s : List ℕ) (x : EndAfter) (said : x ≡ end_text_handed text area counts f c s) where
  abbrev LeftAlone : EndAfter → Type 0
  LeftAlone y = 0 < y.read.word → (y.read.counts ≡ counts) × (y.read.facts ≡ f) × (y.read.costs ≡ c) × (y.read.shares ≡ s)

  short_alone : LeftAlone (end_after (read_left (refused_word TableTooShort) counts f c s) text)
  short_alone h = (refl, refl, refl, refl)

  answered_alone : LeftAlone (end_told (text_ended (so_far_in text) area f c s) text counts)
  answered_alone = split (text_ended (so_far_in text) area f c s).answer refl
    where
      split : (a : Reading) → (text_ended (so_far_in text) area f c s).answer ≡ a → LeftAlone (end_told (text_ended (so_far_in text) area f c s) text counts)
      split (Ok n) e l = let z : 0 < reading_word (Ok n) = subst (λ (a : Reading). 0 < reading_word a) e l in absurd (let y : ⊥ = omega arith in y)
      split (Err r) e l =
          let k = ending.refused_end_keeps (so_far_in text) area f c s (text_ended (so_far_in text) area f c s) refl r e in
          (ap (λ (a : Reading). counts_after a counts) e, k.0, k.1, k.2)

  pub end_refused : 0 < x.read.word → (x.read.counts ≡ counts) × (x.read.facts ≡ f) × (x.read.costs ≡ c) × (x.read.shares ≡ s)
  end_refused =
      subst LeftAlone (sym said)
      (by_order (length text) text_words
      (λ l. subst LeftAlone (end_short text area counts f c s (refused_word TableTooShort) (is_short text l) refl) short_alone)
      (λ l.
      by_order (length counts) counts_row
      (λ n. subst LeftAlone (end_few text area counts f c s (refused_word TableTooShort) (not_short text l) n refl) short_alone)
      (λ n. subst LeftAlone (sym (answers_as text area counts f c s l n)) answered_alone)))
