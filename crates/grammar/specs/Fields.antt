-- What the grammar of the task text and the spelling share: the bytes; and what a reading leaves behind.
use Rattle.grammar.specs.Readings.{Reading}
use Rattle.std.specs.Prelude.{ℕ, ◌-◌, List, [], ◌∷◌, ◌++◌, Bool, false, cond, length, replicate, ltb, leb, Err}
use Prim.Native.Char.{code}
use Prim.Native.String.{String, [] as []ˢ, ◌∷◌ as ◌∷ˢ◌}
use Rattle.refusals.specs.declared.Refusal.TheVariants.{TextTooLong, TableTooShort}
use Rattle.meaning.specs.Limits.{most_bytes}
use Rattle.tables.specs.Layout.{facts_room, costs_room, shares_room}

-- the bytes 0 to 9
abbrev pub zero_digit : ℕ
zero_digit = code "0"

abbrev pub nine_digit : ℕ
nine_digit = code "9"

unfoldable pub is_digit : ℕ → Bool
is_digit b = cond (leb zero_digit b) (leb b nine_digit) false

-- the bytes of a text that is written out
abbrev pub bytes_of : String → List ℕ
bytes_of []ˢ = []
bytes_of (c ∷ˢ s) = code c ∷ bytes_of s

-- the marks between numbers
abbrev pub line_end : ℕ
line_end = code "\n"

abbrev pub comma : ℕ
comma = code ","

abbrev pub dash : ℕ
dash = code "-"

abbrev pub slash : ℕ
slash = code "/"

abbrev pub colon : ℕ
colon = code ":"

abbrev pub semicolon : ℕ
semicolon = code ";"

-- what a reading leaves behind: the answer, and the three lent tables
pub record Outcome : Type 0 where
  pub answer : Reading
  pub facts : List ℕ
  pub costs : List ℕ
  pub shares : List ℕ

abbrev pub leaves : Reading → List ℕ → List ℕ → List ℕ → Outcome
leaves a f c s = record { answer = a; facts = f; costs = c; shares = s }

-- the numbers in the first places of a lent table, and 0 in every place beyond
unfoldable pub filled : ℕ → List ℕ → List ℕ → List ℕ
filled room xs lent = xs ++ replicate (length lent - room) 0

-- 8 for a lent table shorter than its room, then 1 for a text above the limit, then what the text itself gives
unfoldable pub admitted : List ℕ → List ℕ → List ℕ → List ℕ → Outcome → Outcome
admitted text f c s o =
    cond (ltb (length f) facts_room)
    (leaves (Err TableTooShort) f c s)
    (cond (ltb (length c) costs_room)
    (leaves (Err TableTooShort) f c s)
    (cond (ltb (length s) shares_room)
    (leaves (Err TableTooShort) f c s)
    (cond (ltb most_bytes (length text)) (leaves (Err TextTooLong) f c s) o)))
