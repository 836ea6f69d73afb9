-- THE TEXT IN PIECES: what taking a piece leaves behind, and what the end does, over whatever state and area are handed in. For a state and an area that are handed
-- on as they were left no reader needs to know the machine inside (`feed`, `machine_end`): by `in_pieces` (proofs/Whole.antt) the end leaves behind exactly what
-- `read_text` says of the pieces put together.
use Rattle.grammar.specs.Readings.{Reading}
use Rattle.scan.specs.Found.{Found, clean}
use Rattle.std.specs.Prelude.{ℕ, ◌+◌, min, List, ◌++◌, Bool, true, false, cond, ◌||◌, length, take, drop, replicate, ltb, eqb, Err}
use Rattle.refusals.specs.declared.Refusal.TheVariants.{TextTooLong, OffForm, TableTooShort}
use Rattle.meaning.specs.Limits.{most_bytes}
use Rattle.tables.specs.Layout.{facts_room, costs_room, shares_room}
use Rattle.grammar.specs.Fields.{Outcome, leaves}
use Rattle.text.specs.declared.Ctrl.{Ctrl}
use Rattle.text.specs.Inside.Area.{area_room}
use Rattle.text.specs.Inside.Control.{St, mk, start}
use Rattle.text.specs.Inside.Steps.{feed}
use Rattle.text.specs.Inside.End.{machine_end}
use Rattle.pieces.specs.declared.SoFar.{SoFar}

-- the least length of a lent work area; its first area_room bytes are used, and the others neither read nor written
abbrev pub area_lent : ℕ
area_lent = 8192

-- a text so far: where its reading stands, its bytes, and whether it has ended
abbrev pub so_far : Ctrl → ℕ → Bool → SoFar
so_far c n e = record { at = c; bytes = n; ended = e }

-- BEFORE THE FIRST PIECE
unfoldable pub begun_text : SoFar
begun_text = so_far start 0 false

-- the bytes so far and k more; one too many stands for all numbers above the most
unfoldable pub bytes_with : ℕ → ℕ → ℕ
bytes_with n k = min (n + k) (most_bytes + 1)

-- what the reading goes on in: as long as no byte was read, zeros, whatever the area holds
unfoldable pub area_used : SoFar → List ℕ → List ℕ
area_used s w = cond (eqb s.bytes 0) (replicate area_room 0) (take area_room w)

-- A PIECE leaves behind the text so far, whether it was taken, and the lent area
pub record PieceLeft : Type 0 where
  pub text : SoFar
  pub answer : Found
  pub area : List ℕ

abbrev pub piece_left : SoFar → Found → List ℕ → PieceLeft
piece_left s a w = record { text = s; answer = a; area = w }

-- it is taken: the machine that stands in x has read its k bytes
abbrev pub gone_on : SoFar → List ℕ → ℕ → St → PieceLeft
gone_on s w k x = piece_left (so_far x.ctrl (bytes_with s.bytes k) false) clean (x.area ++ drop area_room w)

-- 8 for a short area, then 2 at place 0 after the end, and else it is taken
unfoldable pub piece_taken : SoFar → List ℕ → List ℕ → PieceLeft
piece_taken s w p =
    cond (ltb (length w) area_lent)
    (piece_left s (Err TableTooShort) w)
    (cond s.ended (piece_left s (Err (OffForm 0)) w) (gone_on s w (length p) (feed (mk s.at (area_used s w)) p)))

-- THE END leaves behind the text so far, the answer, and the three lent tables
pub record EndLeft : Type 0 where
  pub text : SoFar
  pub answer : Reading
  pub facts : List ℕ
  pub costs : List ℕ
  pub shares : List ℕ

abbrev pub end_left : SoFar → Reading → List ℕ → List ℕ → List ℕ → EndLeft
end_left s a f c h = record { text = s; answer = a; facts = f; costs = c; shares = h }

-- what a reading leaves behind, beside the text so far
abbrev pub ends_as : SoFar → Outcome → EndLeft
ends_as s o = end_left s o.answer o.facts o.costs o.shares

-- the area or a table is too short
unfoldable pub lent_short : List ℕ → List ℕ → List ℕ → List ℕ → Bool
lent_short w f c h = ltb (length w) area_lent || ltb (length f) facts_room || ltb (length c) costs_room || ltb (length h) shares_room

-- 1 for a text above the limit, before any fault in it, and else what the machine says
unfoldable pub read_so_far : SoFar → List ℕ → List ℕ → List ℕ → List ℕ → Outcome
read_so_far s w f c h = cond (ltb most_bytes s.bytes) (leaves (Err TextTooLong) f c h) (machine_end (mk s.at (take area_room w)) f c h)

-- 8 for a short area or table, and it isn't the end; then 2 at place 0 for a second end; else the text has ended
unfoldable pub text_ended : SoFar → List ℕ → List ℕ → List ℕ → List ℕ → EndLeft
text_ended s w f c h =
    cond (lent_short w f c h)
    (end_left s (Err TableTooShort) f c h)
    (cond s.ended (end_left s (Err (OffForm 0)) f c h) (ends_as (so_far s.at s.bytes true) (read_so_far s w f c h)))
