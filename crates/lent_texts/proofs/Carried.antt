-- A text so far in lent words is the desk's: what is written is what is taken out again; its end moves nothing but that it has ended; and no place beyond its
-- words, and no length, ever changes. Assumes nothing.
use Prim.Native.Nat.{ℕ, ◌+◌, ◌-◌, ◌≤◌}
use mathlib.Core.Path.{◌≡◌, refl, ◌∙◌}
use mathlib.Core.Bool.{Bool, true, false, not}
use mathlib.Core.List.{List, [], ◌∷◌}
use native.Mathlib.Omega.{arith}
use lib.Dec.{eqb}
use lib.ListN.{length, get_or, drop, length-set, length-drop}
use lib.Seq.{get_or-append-add, get_or-drop, get_or-set_other}
use Rattle.text.specs.declared.Halt.{Halt}
use Rattle.text.specs.declared.Halt.TheVariants.{Going, Form, Range, Order, Missing, States, Idle}
use Rattle.pieces.specs.declared.SoFar.{SoFar}
use Rattle.pieces.specs.Pieces.{so_far}
use Rattle.lent_texts.specs.Lent.{text_words, ended_word, halt_word, halt_of, so_far_in, words_of, words_with, words_ended}

-- WHY A READING STOPPED is told again by its word
pub halt_back : (k : Halt) → halt_of (halt_word k) ≡ k
unfolding halt_of
halt_back Going = refl
halt_back Form = refl
halt_back Range = refl
halt_back Order = refl
halt_back Missing = refl
halt_back States = refl
halt_back Idle = refl

-- and so is whether the text has ended
ended_told : (e : Bool) → not (eqb (ended_word e) 0) ≡ e
ended_told false = refl
ended_told true = refl

-- WHAT IS WRITTEN IS WHAT IS TAKEN OUT, whatever the words held
pub taken_back : (s : SoFar) (words : List ℕ) → so_far_in (words_with s words) ≡ s
unfolding so_far_in words_with words_of
taken_back s words = rw (halt_back s.at.halt, ended_told s.ended) refl

-- THE END moves nothing but that it has ended
pub ended_back : (words : List ℕ) → text_words ≤ length words → so_far_in (words_ended words) ≡ so_far (so_far_in words).at (so_far_in words).bytes true
unfolding so_far_in words_ended
ended_back [] h = absurd (let n : ⊥ = omega arith in n)
ended_back (w ∷ words) h = refl

-- AND BEYOND ITS WORDS nothing moves
module _ (words : List ℕ) (long : text_words ≤ length words) where
  pub lengths_kept : (s : SoFar) → (length (words_with s words) ≡ length words) × (length (words_ended words) ≡ length words)
  unfolding words_with words_of words_ended
  lengths_kept s = (omega (arith, length-drop text_words words), length-set words 0 1)

  pub beyond_kept : (s : SoFar) (k : ℕ) → text_words ≤ k → (get_or (words_with s words) k 0 ≡ get_or words k 0) × (get_or (words_ended words) k 0 ≡ get_or words k 0)
  unfolding words_with words_of words_ended
  beyond_kept s k h =
      let e : text_words + (k - text_words) ≡ k = omega arith in (
        rw (← e) (get_or-append-add (words_of s) (drop text_words words) (k - text_words) 0 ∙ get_or-drop text_words words (k - text_words) 0),
        get_or-set_other words 0 k 1 0 (λ p. let n : ⊥ = omega arith in n),
      )
