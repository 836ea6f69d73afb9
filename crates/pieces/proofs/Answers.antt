-- WHAT ONE CALL ANSWERS, for whatever text so far and area are handed in: 8 at place 0 before all else, and it changes nothing and isn't the end; then 2 at place 0
-- after the end, and it changes nothing; else a piece is taken, and the end ends the text, with 1 before any fault in it. By the tests of an entry, one after another.
-- Assumes nothing.
use Prim.Native.Nat.{ℕ, ◌+◌, ◌<◌, ◌≤◌, min}
use native.Mathlib.Omega.{arith}
use mathlib.Core.Path.{◌≡◌, refl, ◌∙◌}
use mathlib.Core.List.{List, []}
use mathlib.Core.Bool.{Bool, true, false, ◌||◌, or-true}
use lib.Dec.{ltb}
use lib.ListN.{length, take, replicate, take-append-drop}
use borrow.Author.Tests.{lt-ltb, le-ltb, eq-eqb, ne_eqb, ltb-false}
use Rattle.std.specs.Prelude.{Err}
use Rattle.scan.specs.Found.{clean}
use Rattle.refusals.specs.declared.Refusal.TheVariants.{TextTooLong, OffForm, TableTooShort}
use Rattle.refusals.specs.Listed.{number_of, place_of}
use Rattle.meaning.specs.Limits.{most_bytes}
use Rattle.tables.specs.Layout.{facts_room, costs_room, shares_room}
use Rattle.grammar.specs.Fields.{leaves}
use Rattle.grammar.proofs.Runs.{clash}
use Rattle.text.specs.Inside.Area.{area_room}
use Rattle.text.specs.Inside.Control.{mk}
use Rattle.text.specs.Inside.Steps.{feed}
use Rattle.text.specs.Inside.End.{machine_end}
use Rattle.pieces.specs.declared.SoFar.{SoFar}
use Rattle.pieces.specs.Pieces.{area_lent, so_far, bytes_with, area_used, piece_left, gone_on, piece_taken, end_left, ends_as, lent_short, read_so_far, text_ended}

-- ---- numbers and places
pub one_at_zero : (number_of TextTooLong ≡ 1) × (place_of TextTooLong ≡ 0)
one_at_zero = (refl, refl)

pub two_at_zero : (number_of (OffForm 0) ≡ 2) × (place_of (OffForm 0) ≡ 0)
two_at_zero = (refl, refl)

pub eight_at_zero : (number_of TableTooShort ≡ 8) × (place_of TableTooShort ≡ 0)
eight_at_zero = (refl, refl)

-- ---- A PIECE

module _ (s : SoFar) (w p : List ℕ) where
  -- 8, before all else; text so far and area are as they were
  pub short_area : length w < area_lent → piece_taken s w p ≡ piece_left s (Err TableTooShort) w
  unfolding piece_taken
  short_area h = rw (lt-ltb _ _ h)

  module _ (long : area_lent ≤ length w) where
    -- 2 at place 0; text so far and area are as they were
    pub piece_after_end : s.ended ≡ true → piece_taken s w p ≡ piece_left s (Err (OffForm 0)) w
    unfolding piece_taken
    piece_after_end e = rw (le-ltb _ _ long, e)

    pub piece_taken_lem : s.ended ≡ false → piece_taken s w p ≡ gone_on s w (length p) (feed (mk s.at (area_used s w)) p)
    unfolding piece_taken
    piece_taken_lem e = rw (le-ltb _ _ long, e)

-- what a piece is read in: before the first byte zeros, then the area's first bytes
module _ (s : SoFar) (w : List ℕ) where
  pub used_blank : s.bytes ≡ 0 → area_used s w ≡ replicate area_room 0
  unfolding area_used
  used_blank e = rw (eq-eqb _ _ e)

  pub used_kept : (s.bytes ≡ 0 → ⊥) → area_used s w ≡ take area_room w
  unfolding area_used
  used_kept n = rw (ne_eqb _ _ n)

-- AN EMPTY PIECE leaves the count of bytes, and after the first byte it changes nothing
pub empty_count : (n : ℕ) → n ≤ most_bytes + 1 → bytes_with n 0 ≡ n
unfolding bytes_with
empty_count n few = omega arith

pub empty_piece : (s : SoFar) (w : List ℕ) → area_lent ≤ length w → s.ended ≡ false → 0 < s.bytes → s.bytes ≤ most_bytes + 1 → piece_taken s w [] ≡ piece_left s clean w
unfolding feed
empty_piece s w long e some few =
    piece_taken_lem s w [] long e ∙ rw (used_kept s w (λ q. omega arith), take-append-drop area_room w, empty_count s.bytes few, ← e)

-- the bytes are counted up to one too many: what comes later counts as at once
pub bytes_counted : (n k : ℕ) → bytes_with (min n (most_bytes + 1)) k ≡ min (n + k) (most_bytes + 1)
unfolding bytes_with
bytes_counted n k = omega arith

-- ---- THE END

-- the area and the tables are long enough
pub record LongEnough (w f c h : List ℕ) : Type 0 where
  pub area : area_lent ≤ length w
  pub facts : facts_room ≤ length f
  pub costs : costs_room ≤ length c
  pub shares : shares_room ≤ length h

neither : (a b : Bool) → (a || b) ≡ false → (a ≡ false) × (b ≡ false)
neither true b e = clash refl e
neither false b e = (refl, e)

module _ (w f c h : List ℕ) where
  pub none_short : LongEnough w f c h → lent_short w f c h ≡ false
  unfolding lent_short
  none_short l = rw (le-ltb _ _ l.area, le-ltb _ _ l.facts, le-ltb _ _ l.costs, le-ltb _ _ l.shares)

  -- each of the four is told
  pub area_short : length w < area_lent → lent_short w f c h ≡ true
  unfolding lent_short
  area_short l = rw (lt-ltb _ _ l)

  pub facts_short : length f < facts_room → lent_short w f c h ≡ true
  unfolding lent_short
  facts_short l = rw (lt-ltb _ _ l, or-true (ltb (length w) area_lent))

  pub costs_short : length c < costs_room → lent_short w f c h ≡ true
  unfolding lent_short
  costs_short l = rw (lt-ltb _ _ l, or-true (ltb (length w) area_lent || ltb (length f) facts_room))

  pub shares_short : length h < shares_room → lent_short w f c h ≡ true
  unfolding lent_short
  shares_short l = rw (lt-ltb _ _ l, or-true (ltb (length w) area_lent || ltb (length f) facts_room || ltb (length c) costs_room))

  pub long_enough : lent_short w f c h ≡ false → LongEnough w f c h
  unfolding lent_short
  long_enough e =
      let p = neither _ _ e in
      let q = neither _ _ p.0 in
      let r = neither _ _ q.0 in
      record { area = ltb-false _ _ r.0; facts = ltb-false _ _ r.1; costs = ltb-false _ _ q.1; shares = ltb-false _ _ p.1 }

module _ (s : SoFar) (w f c h : List ℕ) where
  -- 8, before all else: it isn't the end, and text so far and tables are as they were
  pub short_end : lent_short w f c h ≡ true → text_ended s w f c h ≡ end_left s (Err TableTooShort) f c h
  unfolding text_ended
  short_end e = rw e

  module _ (long : lent_short w f c h ≡ false) where
    -- 2 at place 0; text so far and tables are as they were
    pub second_end : s.ended ≡ true → text_ended s w f c h ≡ end_left s (Err (OffForm 0)) f c h
    unfolding text_ended
    second_end e = rw (long, e)

    pub end_read : s.ended ≡ false → text_ended s w f c h ≡ ends_as (so_far s.at s.bytes true) (read_so_far s w f c h)
    unfolding text_ended
    end_read e = rw (long, e)

  -- 1 comes before any fault in the text; up to the limit the machine answers
  pub too_long : most_bytes < s.bytes → read_so_far s w f c h ≡ leaves (Err TextTooLong) f c h
  unfolding read_so_far
  too_long l = rw (lt-ltb _ _ l)

  pub not_too_long : s.bytes ≤ most_bytes → read_so_far s w f c h ≡ machine_end (mk s.at (take area_room w)) f c h
  unfolding read_so_far
  not_too_long l = rw (le-ltb _ _ l)
