-- Refused, or the bytes are read in the area's first part, which is cleared before the first byte.
use Rattle.std.proofs.Common.{◌≡◌, ◌∙◌, take, drop, sym, ap, arith}
use lib.Seq.{length-take-le}
use Rattle.text.specs.Inside.Area.{area_room}
use Rattle.pieces.specs.Pieces.{area_used}
use Rattle.pieces.proofs.Answers.{used_blank, used_kept, short_area, piece_after_end}
use Rattle.pieces.proofs.Lent.{part_cleared, piece_read}
use Rattle.pieces.proofs.take_piece.Goals as goal
use Rattle.pieces.proofs.take_piece.Goals.{then-unread, else-unread}

pub returns-then-area-lt-AREA_LENT : goal.returns-then-area-lt-AREA_LENT
returns-then-area-lt-AREA_LENT c = sym (short_area _ _ _ c.if-area-lt-AREA_LENT.true)

pub returns-then-s : goal.returns-then-s
returns-then-s c = sym (piece_after_end _ _ _ c.if-area-lt-AREA_LENT.false c.if-s.true)

pub slice_bounds-fill-end-then-unread : goal.slice_bounds-fill-end-then-unread
slice_bounds-fill-end-then-unread c = let long = c.if-area-lt-AREA_LENT.false in sym (length-take-le area_room c.args.area.now (omega arith))

pub slice_bounds-feed_piece-end-2 : goal.slice_bounds-feed_piece-end-2
slice_bounds-feed_piece-end-2 c = sym (length-take-le area_room c.if-unread.area (omega (arith, c.if-unread.auto.area, c.if-area-lt-AREA_LENT.false)))

pub returns : goal.returns
returns c =
    let s = c.args.s in
    let w = c.args.area.now in
    let long = c.if-area-lt-AREA_LENT.false in
    let u = c.if-unread.area in
    -- before the bytes are read: what they are read in, and what is beyond
    let ready : (take area_room u ≡ area_used s w) × (drop area_room u ≡ drop area_room w) =
    elim c.if-unread.branch [
      | then-unread x ↦ let p = part_cleared w _ _ (omega arith) x.area-is (x.fill.ensures.after (λ y e. e)) in (p.0 ∙ sym (used_blank s w x.if-unread.true), p.1)
      | else-unread x ↦ (ap (take area_room) x.area-is ∙ sym (used_kept s w x.if-unread.false), ap (drop area_room) x.area-is)
    ] in
    piece_read _ _ _ long c.if-s.false u _ _ _ ready.0 ready.1 c.feed_piece-on.ensures c.more_bytes.ensures
