-- Laws of what a start or an offer hands back: the test of the length of lent memory, and each outcome from the facts that a way through the code has.
-- Assumes nothing.
use Prim.Native.Nat.{ℕ, ◌≤◌, ◌<◌}
use mathlib.Core.Path.{◌≡◌, refl, ap, sym, ◌∙◌}
use mathlib.Core.Bool.{Bool, true, false, ◌||◌, false≢true}
use mathlib.Core.List.{List}
use lib.Dec.{ltb}
use lib.ListN.{length}
use borrow.Author.Tests.{lt-ltb, le-ltb, ltb-false}
use Rattle.std.specs.Prelude.{Result, Ok, Err}
use Rattle.refusals.specs.declared.Refusal.{Refusal}
use Rattle.refusals.specs.declared.Refusal.TheVariants.{TableTooShort}
use Rattle.tables.specs.Layout.{Tables}
use Rattle.ledger.specs.declared.Run.{Run}
use Rattle.ledger.specs.declared.Answer.{Answer}
use Rattle.ledger.specs.declared.Answer.TheVariants.{Accepted, Repeated}
use Rattle.ledger.specs.declared.Offered.{Offered}
use Rattle.ledger.specs.Ledger.{offered}
use Rattle.words.specs.Words.{refused_word, answer_word}
use Rattle.lent_runs.specs.Lent.{run_bytes, run_words, bytes_with, words_with}
use Rattle.lent_runs.specs.Left.{RunLeft, run_left, left_by, handed, run_short, unless_short}

-- ---- is the memory of a run long enough?

neither_true : (a b : Bool) → (a || b) ≡ false → (a ≡ false) × (b ≡ false)
neither_true false b p = (refl, p)
neither_true true b p = absurd (false≢true (sym p))

module _ (bytes words : List ℕ) where
  pub short_bytes : length bytes < run_bytes → true ≡ run_short bytes words
  unfolding run_short
  short_bytes h = rw (lt-ltb (length bytes) run_bytes h) refl

  pub short_words : (b : Bool) → run_bytes ≤ length bytes → b ≡ ltb (length words) run_words → b ≡ run_short bytes words
  unfolding run_short
  short_words b h p = rw (le-ltb (length bytes) run_bytes h) p

  pub long_enough : run_short bytes words ≡ false → (run_bytes ≤ length bytes) × (run_words ≤ length words)
  unfolding run_short
  long_enough p =
      let q = neither_true (ltb (length bytes) run_bytes) (ltb (length words) run_words) p in
      (ltb-false (length bytes) run_bytes q.0, ltb-false (length words) run_words q.1)

  pub not_short : run_bytes ≤ length bytes → run_words ≤ length words → run_short bytes words ≡ false
  unfolding run_short
  not_short h g = rw (le-ltb (length bytes) run_bytes h, le-ltb (length words) run_words g) refl

-- ---- a start or an offer

-- which answer it is, where the code told it apart
module _ {x : Result Answer Refusal} where
  pub answer_is : (a b : Answer) → x ≡ Ok a → a ≡ b → x ≡ Ok b
  answer_is a b p q = p ∙ ap (λ (a : Answer). Ok a) q

  pub repeated_other : x ≡ Ok Repeated → x ≡ Ok Accepted → ⊥
  repeated_other p q = let e = sym p ∙ q in cc

  pub refused_other : (f : Refusal) → x ≡ Err f → x ≡ Ok Accepted → ⊥
  refused_other f p q = let e = sym p ∙ q in cc

-- where the answer is another than accepted nothing moves
kept : (a : Result Answer Refusal) (r : Run) (bytes words : List ℕ) → (a ≡ Ok Accepted → ⊥) → run_left (answer_word a) bytes words ≡ left_by a r bytes words
kept (Ok Accepted) r bytes words n = absurd (n refl)
kept (Ok Repeated) r bytes words n = refl
kept (Err f) r bytes words n = refl

module _ (o : Offered) (bytes words : List ℕ) (w : ℕ) (b n : List ℕ) (told : w ≡ answer_word o.answer) where
  pub handed_accepted : o.answer ≡ Ok Accepted → b ≡ bytes_with o.run bytes → n ≡ words_with o.run words
      → run_left w b n ≡ handed o bytes words
  unfolding handed
  handed_accepted e p q = rw (told, p, q, e) refl

  pub handed_else : (o.answer ≡ Ok Accepted → ⊥) → b ≡ bytes → n ≡ words → run_left w b n ≡ handed o bytes words
  unfolding handed
  handed_else e p q = rw (told, p, q) (kept o.answer o.run bytes words e)

-- what an entry hands back, too short or not
module _ (o : Offered) (bytes words : List ℕ) where
  pub left_short : (w : ℕ) → run_short bytes words ≡ true → w ≡ refused_word TableTooShort → run_left w bytes words ≡ unless_short o bytes words
  left_short w p e = rw (p, e) refl

  pub left_long : (x : Offered) (y : RunLeft) → run_short bytes words ≡ false → x ≡ o → y ≡ handed x bytes words
      → y ≡ unless_short o bytes words
  left_long x y p e h = rw (p, ← e) h

-- an offer to the run that stands in lent memory
pub offered_in : (t : Tables) (r q : Run) (number o : ℕ) (x : Offered) → x ≡ offered t r number o → r ≡ q → x ≡ offered t q number o
offered_in t r q number o x p e = p ∙ ap (λ (z : Run). offered t z number o) e
