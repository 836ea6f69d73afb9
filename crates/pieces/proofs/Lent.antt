-- What the functions do to lent bytes: their first part cleared, a piece read in it, and the end. Assumes nothing.
use Prim.Native.Nat.{ℕ, ◌≤◌, ◌<◌}
use mathlib.Core.Path.{◌≡◌, sym, ap, ◌∙◌}
use mathlib.Core.List.{List, ◌++◌}
use mathlib.Core.Bool.{true, false}
use lib.ListN.{length, take, drop, replicate, length-replicate}
use lib.Seq.{length-take-le, length_front, take_at, drop_at}
use Rattle.std.specs.Prelude.{Err}
use Rattle.grammar.specs.Readings.{Reading}
use Rattle.scan.specs.Found.{clean}
use Rattle.grammar.specs.Fields.{Outcome, leaves}
use Rattle.meaning.specs.Limits.{most_bytes}
use Rattle.refusals.specs.declared.Refusal.TheVariants.{TextTooLong}
use Rattle.text.specs.declared.Ctrl.{Ctrl}
use Rattle.text.specs.Inside.Area.{area_room}
use Rattle.text.specs.Inside.Control.{St, mk}
use Rattle.text.specs.Inside.Steps.{feed}
use Rattle.text.specs.Inside.End.{machine_end}
use Rattle.pieces.specs.declared.SoFar.{SoFar}
use Rattle.pieces.proofs.Answers.{piece_taken_lem, end_read, too_long, not_too_long}
use Rattle.pieces.specs.Pieces.{area_lent, so_far, bytes_with, area_used, lent_short, PieceLeft, piece_left, piece_taken, end_left, ends_as, read_so_far, text_ended}

-- the first part v of an area, cleared, and the area u with it
pub part_cleared : (w v u : List ℕ) → area_room ≤ length w → u ≡ v ++ drop area_room w → v ≡ replicate (length (take area_room w)) 0
    → (take area_room u ≡ replicate area_room 0) × (drop area_room u ≡ drop area_room w) × (length u ≡ length w)
part_cleared w v u h e z =
    let long : length v ≡ area_room = ap length z ∙ length-replicate (length (take area_room w)) 0 ∙ length-take-le area_room w h in (
      ap (take area_room) e ∙ take_at v (drop area_room w) area_room long ∙ z ∙ ap (λ (n : ℕ). replicate n 0) (length-take-le area_room w h),
      ap (drop area_room) e ∙ drop_at v (drop area_room w) area_room long,
      ap length e ∙ length_front w v area_room (long ∙ sym (length-take-le area_room w h)),
    )

-- a piece is read: u is the area before its bytes are, k and x what the machine has come to
module _ (s : SoFar) (w p : List ℕ) where
  abbrev gone_to : ℕ → St → PieceLeft
  gone_to n y = piece_left (so_far y.ctrl n false) clean (y.area ++ drop area_room w)

  pub piece_read : area_lent ≤ length w → s.ended ≡ false → (u x : List ℕ) (k : Ctrl) (n : ℕ) → take area_room u ≡ area_used s w → drop area_room u ≡ drop area_room w
      → mk k x ≡ feed (mk s.at (take area_room u)) p → n ≡ bytes_with s.bytes (length p) → piece_left (so_far k n false) clean (x ++ drop area_room u) ≡ piece_taken s w p
  piece_read h e u x k n used beyond fed count =
      ap (λ (d : List ℕ). piece_left (so_far k n false) clean (x ++ d)) beyond
      ∙ ap (λ (i : ℕ). gone_to i (mk k x)) count
      ∙ ap (λ (y : St). gone_to (bytes_with s.bytes (length p)) y) (fed ∙ ap (λ (v : List ℕ). feed (mk s.at v) p) used)
      ∙ sym (piece_taken_lem s w p h e)

-- the end is answered, by the count or by the machine
module _ (s : SoFar) (w f c h : List ℕ) (long : lent_short w f c h ≡ false) (going : s.ended ≡ false) where
  answered : (o : Outcome) → read_so_far s w f c h ≡ o → ends_as (so_far s.at s.bytes true) o ≡ text_ended s w f c h
  answered o e = sym (end_read s w f c h long going ∙ ap (λ (x : Outcome). ends_as (so_far s.at s.bytes true) x) e)

  pub answered_by_count : most_bytes < s.bytes → end_left (so_far s.at s.bytes true) (Err TextTooLong) f c h ≡ text_ended s w f c h
  answered_by_count l = answered _ (too_long s w f c h l)

  pub answered_by_machine : s.bytes ≤ most_bytes → (r : Reading) (f' c' h' : List ℕ) → leaves r f' c' h' ≡ machine_end (mk s.at (take area_room w)) f c h
      → end_left (so_far s.at s.bytes true) r f' c' h' ≡ text_ended s w f c h
  answered_by_machine l r f' c' h' m = answered (leaves r f' c' h') (not_too_long s w f c h l ∙ sym m)
