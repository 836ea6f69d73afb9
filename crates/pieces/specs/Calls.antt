-- CALLS BEFORE THE END, as a bench may make them: pieces of any size, empty ones too, and among them calls that are refused because something lent is too short. Of
-- each call nothing is asked but that it meets its entry's contract, and that text so far and area are handed on as they were left.
use Rattle.scan.specs.Found.{Found}
use Rattle.std.specs.Prelude.{ℕ, ◌≤◌, ◌<◌, ◌≡◌, true, List, [], ◌++◌, length, get_or}
use Rattle.pieces.specs.declared.SoFar.{SoFar}
use Rattle.pieces.specs.Pieces.{area_lent, begun_text, piece_left, piece_taken, lent_short, EndLeft, text_ended}

-- every place holds a byte, as in any slice of bytes
abbrev pub OfBytes : List ℕ → Type 0
OfBytes p = (i : ℕ) → i < length p → get_or p i 0 < 256

-- the pieces taken so far are, put together, this text; and the text so far and the area that stand there then
pub data Calls : List ℕ → SoFar → List ℕ → Type 0 where
  -- no call yet; the area may hold anything
  begun : (w : List ℕ) → area_lent ≤ length w → Calls [] begun_text w
  -- a piece
  piece : {text w v : List ℕ} {s t : SoFar} → Calls text s w → (p : List ℕ) → OfBytes p → (a : Found) → piece_left t a v ≡ piece_taken s w p → Calls (text ++ p) t v
  -- a piece that is handed another area, too short
  other_area : {text w : List ℕ} {s t : SoFar} → Calls text s w → (p u v : List ℕ) → length u < area_lent → (a : Found) → piece_left t a v ≡ piece_taken s u p → Calls text t w
  -- a piece that is handed a part of the area, too short
  part_of_area : {text w : List ℕ} {s t : SoFar} → Calls text s w → (p front u v back : List ℕ) → w ≡ front ++ u ++ back → length u < area_lent → (a : Found)
      → piece_left t a v ≡ piece_taken s u p → Calls text t (front ++ v ++ back)
  -- the end, if the area or a table that it is handed is too short
  short_end : {text w : List ℕ} {s : SoFar} → Calls text s w → (u f c h : List ℕ) → lent_short u f c h ≡ true → (x : EndLeft) → x ≡ text_ended s u f c h → Calls text x.text w
