-- A text that ends inside a word, where a number should begin or right after a line end, whatever stood before: 2 in the line where it ends, which after a
-- line end is the next one; an empty text in line 1. But a digit run that stands at the end is judged first, and is 3 outside its range.
-- By the byte that is asked for there. Assumes nothing.
use Prim.Native.Nat.{ℕ, ◌+◌}
use mathlib.Core.Path.{◌≡◌, refl, ap}
use mathlib.Core.Bool.{false}
use mathlib.Core.List.{List, [], ◌∷◌, ◌++◌, append-nil}
use native.Mathlib.Omega.{arith}
use borrow.Author.Tests.{eq-eqb}
use Rattle.refusals.specs.declared.Refusal.TheVariants.{OffForm, OutOfRange}
use Rattle.tables.specs.Layout.{Tables}
use Rattle.grammar.specs.Fields.{line_end}
use Rattle.grammar.specs.Grammar.{refused, Rest, Part, ◌▸◌, demand, lit, fits, numeral, end_of_line, edition_line, text_line, task_lines, verdict}
use Rattle.grammar.specs.Spelling.{digits}
use Rattle.grammar.proofs.Runs.{formed_nil, nil}
use Rattle.grammar.proofs.Decimal.{Reads, digits_read}

module _ (l : ℕ) (T : Tables) (k : Rest) where
  -- inside a word, and where a number should begin
  pub word_cut : (xs ys : List ℕ) (b : ℕ) → lit (xs ++ b ∷ ys) xs l T k ≡ refused (OffForm l)
  unfolding lit ◌▸◌ demand
  word_cut [] ys b = ap (λ (x : ℕ). refused (OffForm x)) (omega arith)
  word_cut (x ∷ xs) ys b = rw (eq-eqb x x refl) (word_cut xs ys b)

  pub number_cut : (least limit : ℕ) (p : ℕ → Part) → numeral least limit p [] l T k ≡ refused (OffForm l)
  unfolding numeral ◌▸◌ demand
  number_cut least limit p = rw formed_nil refl

  -- a number at the end
  pub run_judged : (least limit v : ℕ) (p : ℕ → Part) → fits v least limit ≡ false → numeral least limit p (digits v) l T k ≡ refused (OutOfRange l)
  unfolding numeral ◌▸◌ demand
  run_judged least limit v p out =
      let r : Reads v (digits v) [] = rw (append-nil (digits v)) at (digits_read v [] nil) in
      rw (r.form, r.says, out) refl

-- after a line end the next line is told
pub line_cut : (b : ℕ) (bs : List ℕ) (l : ℕ) (T : Tables) (k : Rest) → (end_of_line ▸ lit (b ∷ bs)) (line_end ∷ []) l T k ≡ refused (OffForm (l + 1))
unfolding end_of_line lit ◌▸◌ demand
line_cut b bs l T k = ap (λ (x : ℕ). refused (OffForm x)) (omega arith)

pub empty_text : verdict [] ≡ refused (OffForm 1)
unfolding verdict task_lines edition_line text_line lit ◌▸◌
empty_text = refl
