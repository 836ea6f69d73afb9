-- Refused, or answered from the area's first part.
use Rattle.std.proofs.Common.{ℕ, ◌≡◌, ◌∙◌, List, false, length, take, sym, arith}
use lib.Seq.{length-take-le}
use Rattle.text.specs.Inside.Area.{area_room}
use Rattle.pieces.specs.Pieces.{lent_short}
use Rattle.pieces.proofs.Answers.{long_enough, short_end, second_end}
use Rattle.pieces.proofs.Lent.{answered_by_count, answered_by_machine}
use Rattle.pieces.proofs.end_text.Goals as goal

-- where nothing is too short, the end reads all of the area's first part
part : (w f k h : List ℕ) → lent_short w f k h ≡ false → length (take area_room w) ≡ area_room
part w f k h e = let l = (long_enough w f k h e).area in length-take-le area_room w (omega arith)

pub returns-then-lent_short : goal.returns-then-lent_short
returns-then-lent_short c = sym (short_end _ _ _ _ _ (sym c.lent_short.ensures ∙ c.if-lent_short.true))

pub returns-then-s : goal.returns-then-s
returns-then-s c = sym (second_end _ _ _ _ _ (sym c.lent_short.ensures ∙ c.if-lent_short.false) c.if-s.true)

pub returns-then-s-gt-BYTES_MOST : goal.returns-then-s-gt-BYTES_MOST
returns-then-s-gt-BYTES_MOST c = answered_by_count _ _ _ _ _ (sym c.lent_short.ensures ∙ c.if-lent_short.false) c.if-s.false c.if-s-gt-BYTES_MOST.true

pub slice_bounds-finish-end : goal.slice_bounds-finish-end
slice_bounds-finish-end c = sym (part _ _ _ _ (sym c.lent_short.ensures ∙ c.if-lent_short.false))

pub finish-requires : goal.finish-requires
finish-requires c =
    let long = sym c.lent_short.ensures ∙ c.if-lent_short.false in
    let e = long_enough _ _ _ _ long in
    (part _ _ _ _ long, e.facts, e.costs, e.shares)

pub returns : goal.returns
returns c = answered_by_machine _ _ _ _ _ (sym c.lent_short.ensures ∙ c.if-lent_short.false) c.if-s.false c.if-s-gt-BYTES_MOST.false _ _ _ _ c.finish.ensures
