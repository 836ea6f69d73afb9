-- A text so far in lent words: what stands where, how it is taken out, and how it is written back.
use Rattle.std.specs.Prelude.{ℕ, List, [], ◌∷◌, ◌++◌, Bool, true, false, not, cond, ltb, eqb, length, get_or, drop, set}
use Rattle.text.specs.declared.Halt.{Halt}
use Rattle.text.specs.declared.Halt.TheVariants.{Going, Form, Range, Order, Missing, States, Idle}
use Rattle.text.specs.declared.Ctrl.{Ctrl}
use Rattle.pieces.specs.declared.SoFar.{SoFar}

-- how many words a text so far takes
abbrev pub text_words : ℕ
text_words = 20

-- there are too few
unfoldable pub text_short : List ℕ → Bool
text_short w = ltb (length w) text_words

-- whether it has ended: 0 if not, any other word if so
abbrev pub ended_at : ℕ
ended_at = 0

abbrev pub ended_word : Bool → ℕ
ended_word false = 0
ended_word true = 1

-- why the reading stopped: 0 while it goes on; a word above 6 is as 1, off the form
abbrev pub halt_word : Halt → ℕ
halt_word Going = 0
halt_word Form = 1
halt_word Range = 2
halt_word Order = 3
halt_word Missing = 4
halt_word States = 5
halt_word Idle = 6

unfoldable pub halt_of : ℕ → Halt
halt_of n =
    cond (eqb n 0) Going
    (cond (eqb n 2) Range (cond (eqb n 3) Order (cond (eqb n 4) Missing (cond (eqb n 5) States (cond (eqb n 6) Idle Form)))))

-- TAKEN OUT: ended, the bytes, why it stopped, and then the control's numbers in their order
abbrev pub ctrl_in : List ℕ → Ctrl
ctrl_in w =
    record {
      line = get_or w 3 0;
      spot = record { part = get_or w 4 0; field = get_or w 5 0; key = get_or w 6 0; row = get_or w 7 0 };
      digits = record { run = get_or w 8 0; val = get_or w 9 0 };
      turn = record { var = get_or w 10 0; least = get_or w 11 0; item = get_or w 12 0 };
      seen = record { mask = get_or w 13 0; prod = get_or w 14 0 };
      counts = record { vars = get_or w 15 0; ops = get_or w 16 0; maps = get_or w 17 0; edition = get_or w 18 0; quota = get_or w 19 0 };
      halt = halt_of (get_or w 2 0);
    }

unfoldable pub so_far_in : List ℕ → SoFar
so_far_in w = record { at = ctrl_in w; bytes = get_or w 1 0; ended = not (eqb (get_or w ended_at 0) 0) }

-- WRITTEN BACK: the same places; those beyond stay
unfoldable pub words_of : SoFar → List ℕ
words_of s =
    let c = s.at in
    ended_word s.ended
    ∷ s.bytes
    ∷ halt_word c.halt
    ∷ c.line
    ∷ c.spot.part
    ∷ c.spot.field
    ∷ c.spot.key
    ∷ c.spot.row
    ∷ c.digits.run
    ∷ c.digits.val
    ∷ c.turn.var
    ∷ c.turn.least
    ∷ c.turn.item
    ∷ c.seen.mask
    ∷ c.seen.prod
    ∷ c.counts.vars
    ∷ c.counts.ops
    ∷ c.counts.maps
    ∷ c.counts.edition
    ∷ c.counts.quota
    ∷ []

unfoldable pub words_with : SoFar → List ℕ → List ℕ
words_with s w = words_of s ++ drop text_words w

-- ended, and nothing else moves
unfoldable pub words_ended : List ℕ → List ℕ
words_ended w = set w ended_at 1
