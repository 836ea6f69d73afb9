-- WHAT OF THE AREA COUNTS, for whatever text so far and area are handed in: the bytes beyond the first 3,352 are neither read nor changed, by a piece and by the end;
-- and before the first byte of a text a piece reads none of it. Together with the contracts, which are equations: a changed area or text so far has one outcome too,
-- which rests on the text so far and those bytes alone. Assumes nothing.
use Prim.Native.Nat.{ℕ, ◌≤◌}
use native.Mathlib.Omega.{arith}
use mathlib.Core.Path.{◌≡◌, refl, sym, ap, ◌∙◌, subst}
use mathlib.Core.List.{List}
use mathlib.Core.Bool.{Bool, true, false}
use lib.ListN.{length, take, drop, length-append, length-replicate, length-drop}
use lib.Seq.{length-take-le, take_at, drop_at}
use borrow.Author.Tests.{le-ltb}
use Rattle.std.specs.Prelude.{Err}
use Rattle.scan.specs.Found.{clean}
use Rattle.refusals.specs.declared.Refusal.TheVariants.{OffForm}
use Rattle.meaning.proofs.Facts.{by_order}
use Rattle.text.specs.Inside.Area.{area_room}
use Rattle.text.specs.Inside.Control.{St, mk}
use Rattle.text.specs.Inside.Steps.{feed}
use Rattle.pieces.specs.declared.SoFar.{SoFar}
use Rattle.pieces.specs.Pieces.{area_lent, so_far, bytes_with, area_used, PieceLeft, piece_left, gone_on, piece_taken, EndLeft, lent_short, read_so_far, text_ended}
use Rattle.pieces.proofs.Answers.{used_blank, used_kept, short_area, piece_after_end, piece_taken_lem}
use Rattle.pieces.proofs.Keeping.{feed_length}

-- ---- a piece that is taken

by_zero : {A : Type 0} (n : ℕ) → (n ≡ 0 → A) → ((n ≡ 0 → ⊥) → A) → A
by_zero n a b = by_order 0 n (λ l. b (λ e. omega arith)) (λ l. a (omega arith))

used_length : (s : SoFar) (w : List ℕ) → area_lent ≤ length w → length (area_used s w) ≡ area_room
used_length s w l =
    by_zero s.bytes (λ e. ap length (used_blank s w e) ∙ length-replicate {A = ℕ} area_room 0)
    (λ n. ap length (used_kept s w n) ∙ length-take-le area_room w (omega arith))

-- the machine after it
abbrev after : SoFar → List ℕ → List ℕ → St
after s w p = feed (mk s.at (area_used s w)) p

module _ (s : SoFar) (w p : List ℕ) (long : area_lent ≤ length w) (going : s.ended ≡ false) where
  taken_room : length (after s w p).area ≡ area_room
  taken_room = feed_length (mk s.at (area_used s w)) p ∙ used_length s w long

  taken_beyond : drop area_room (piece_taken s w p).area ≡ drop area_room w
  taken_beyond = ap (λ (x : PieceLeft). drop area_room x.area) (piece_taken_lem s w p long going) ∙ drop_at (after s w p).area (drop area_room w) area_room taken_room

  taken_length : length (piece_taken s w p).area ≡ length w
  taken_length =
      ap (λ (x : PieceLeft). length x.area) (piece_taken_lem s w p long going)
      ∙ length-append (after s w p).area (drop area_room w)
      ∙ (let r = taken_room in let d = length-drop area_room w in omega arith)

-- ---- WHAT IS KEPT

module _ (s : SoFar) (w p : List ℕ) where
  kept : (P : List ℕ → Type 0) → P w → (area_lent ≤ length w → s.ended ≡ false → P (piece_taken s w p).area) → P (piece_taken s w p).area
  kept P here taken =
      by_order (length w) area_lent (λ l. subst P (sym (ap (λ (x : PieceLeft). x.area) (short_area s w p l))) here) (λ l. split l s.ended refl)
    where
      split : area_lent ≤ length w → (b : Bool) → s.ended ≡ b → P (piece_taken s w p).area
      split l true e = subst P (sym (ap (λ (x : PieceLeft). x.area) (piece_after_end s w p l e))) here
      split l false e = taken l e

module _ (s : SoFar) (w p : List ℕ) (x : PieceLeft) (said : x ≡ piece_taken s w p) where
  pub beyond_kept : drop area_room x.area ≡ drop area_room w
  beyond_kept =
      ap (λ (y : PieceLeft). drop area_room y.area) said ∙ kept s w p (λ u. drop area_room u ≡ drop area_room w) refl (taken_beyond s w p)

  pub area_as_long : length x.area ≡ length w
  area_as_long = ap (λ (y : PieceLeft). length y.area) said ∙ kept s w p (λ u. length u ≡ length w) refl (taken_length s w p)

-- ---- WHAT IS NOT READ

-- what a piece left, without the bytes beyond
abbrev pub in_use : PieceLeft → PieceLeft
in_use x = piece_left x.text x.answer (take area_room x.area)

-- a piece that is taken leaves there what the machine has read
taken_in_use : (s : SoFar) (w p : List ℕ) → area_lent ≤ length w → s.ended ≡ false
    → in_use (piece_taken s w p) ≡ piece_left (gone_on s w (length p) (after s w p)).text clean (after s w p).area
taken_in_use s w p long going =
    ap in_use (piece_taken_lem s w p long going)
    ∙ ap (λ (u : List ℕ). piece_left (gone_on s w (length p) (after s w p)).text clean u) (take_at (after s w p).area (drop area_room w) area_room (taken_room s w p long going))

module _ (s : SoFar) (w v p : List ℕ) (long : area_lent ≤ length w) (as_long : area_lent ≤ length v) where
  same_used : area_used s w ≡ area_used s v → s.ended ≡ false → in_use (piece_taken s w p) ≡ in_use (piece_taken s v p)
  same_used e going =
      taken_in_use s w p long going
      ∙ ap (λ (u : List ℕ). let y = feed (mk s.at u) p in piece_left (so_far y.ctrl (bytes_with s.bytes (length p)) false) clean y.area) e
      ∙ sym (taken_in_use s v p as_long going)

  pub beyond_unread : take area_room w ≡ take area_room v → (x y : PieceLeft) → x ≡ piece_taken s w p → y ≡ piece_taken s v p → in_use x ≡ in_use y
  beyond_unread e x y a b = ap in_use a ∙ split s.ended refl ∙ sym (ap in_use b)
    where
      split : (b : Bool) → s.ended ≡ b → in_use (piece_taken s w p) ≡ in_use (piece_taken s v p)
      split true q =
          ap in_use (piece_after_end s w p long q) ∙ ap (λ (u : List ℕ). piece_left s (Err (OffForm 0)) u) e ∙ sym (ap in_use (piece_after_end s v p as_long q))
      split false q =
          same_used (by_zero s.bytes (λ z. used_blank s w z ∙ sym (used_blank s v z)) (λ n. used_kept s w n ∙ e ∙ sym (used_kept s v n))) q

  -- before the first byte, none of the area
  pub blank_unread : s.bytes ≡ 0 → s.ended ≡ false → (x y : PieceLeft) → x ≡ piece_taken s w p → y ≡ piece_taken s v p → in_use x ≡ in_use y
  blank_unread e q x y a b = ap in_use a ∙ same_used (used_blank s w e ∙ sym (used_blank s v e)) q ∙ sym (ap in_use b)

-- the end reads no more of it
pub beyond_unread_by_end : (s : SoFar) (w v f c h : List ℕ) → area_lent ≤ length w → area_lent ≤ length v → take area_room w ≡ take area_room v → (x y : EndLeft)
    → x ≡ text_ended s w f c h → y ≡ text_ended s v f c h → x ≡ y
unfolding text_ended lent_short read_so_far
beyond_unread_by_end s w v f c h l m e x y a b = a ∙ (rw (le-ltb _ _ l, le-ltb _ _ m, e)) ∙ sym b
