-- A text written byte by byte into a buffer. Past the buffer's end nothing is written.
use Rattle.std.specs.Prelude.{ℕ, zero, suc, ◌+◌, ◌<◌, Bool, true, false, cond, ◌≡◌, List, [], ◌∷◌, ◌++◌, ltb, length, set}
use Rattle.meaning.specs.Sas.{Facts}
use Rattle.writer.specs.declared.pen as declared
use Rattle.grammar.specs.Fields.{comma}
use Rattle.grammar.specs.Spelling.{fact, more_facts, some_facts}

-- the place of the next byte, and what stands in the buffer
pub record Pen : Type 0 where
  pub at : ℕ
  pub bytes : List ℕ

abbrev pub pen : ℕ → List ℕ → Pen
pen n b = record { at = n; bytes = b }

-- one byte more, if there is a place for it
unfoldable pub stroke : Pen → ℕ → Pen
stroke p b = cond (ltb p.at (length p.bytes)) (pen (p.at + 1) (set p.bytes p.at b)) p

-- the bytes of a text, one after the other
unfoldable pub inked : Pen → List ℕ → Pen
inked p [] = p
inked p (b ∷ x) = inked (stroke p b) x

-- from p on the text is written, and that leaves q
pub record Writes (p : Pen) (text : List ℕ) (q : Pen) : Type 0 where
  pub leaves : q ≡ inked p text

-- what the code's pen holds: the place of the next byte, and what stands in the buffer that it is lent
abbrev pub held : declared.Pen.Pen → Pen
held p = pen p.at p.out.now

-- the code's pen p puts the text down, and that leaves it as q, in the same buffer
pub record Puts (p : declared.Pen.Pen) (text : List ℕ) (q : declared.Pen.Pen) : Type 0 where
  pub writes : Writes (held p) text (held q)
  pub same_buffer : q.out.ghost_name ≡ p.out.ghost_name

-- what a closure answers at each of the first n places is the number that f has there
abbrev pub Gives : (ℕ → ℕ → Type 0) → ℕ → (ℕ → ℕ) → Type 0
Gives post n f = (i x : ℕ) → i < n → post i x → x ≡ f i

-- a list of facts once some were written, or none: what is left of it from variable v on, with n variables to come
unfoldable pub facts_left : Bool → Facts → ℕ → ℕ → List ℕ
facts_left some F n v = cond some (more_facts F n v) (some_facts F n v)

-- the comma before a fact, where some were written
unfoldable pub comma_if : Bool → List ℕ
comma_if true = comma ∷ []
comma_if false = []

-- what is said of a variable, after a comma where some facts were written; a place that holds 0 says nothing
unfoldable pub said_of : Bool → ℕ → ℕ → List ℕ
said_of some zero v = []
said_of some (suc k) v = comma_if some ++ fact v k
