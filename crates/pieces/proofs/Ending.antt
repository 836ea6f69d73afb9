-- THE END, for whatever text so far, area and tables are handed in: refused, every table is as it was; accepted, no table is longer or shorter; 8 is told exactly if
-- the area or a table is too short, and then it isn't the end; any other answer ends the text. So tables are written at the end alone, and only if the text is
-- accepted. Assumes nothing.
use Prim.Native.Nat.{ℕ, zero, suc, ◌≤◌}
use native.Mathlib.Omega.{arith}
use mathlib.Core.Path.{◌≡◌, refl, sym, ap, ◌∙◌, subst}
use mathlib.Core.List.{List}
use mathlib.Core.Bool.{Bool, true, false}
use lib.Dec.{eqb}
use lib.ListN.{length, take}
use lib.Seq.{length-take-le}
use borrow.Author.Tests.{eqb-false}
use Rattle.std.specs.Prelude.{Ok, Err}
use Rattle.scan.specs.Found.{Found, clean}
use Rattle.refusals.specs.declared.Refusal.{Refusal}
use Rattle.refusals.specs.declared.Refusal.TheVariants.{TextTooLong, OffForm, TableTooShort, SharesAboveCost}
use Rattle.refusals.specs.Listed.{number_of}
use Rattle.meaning.specs.Limits.{most_bytes}
use Rattle.meaning.proofs.Facts.{by_order}
use Rattle.tables.specs.declared.Counts.{Counts}
use Rattle.tables.specs.Layout.{facts_room, costs_room, shares_room}
use Rattle.scan.specs.Scan.{unless, ◌then◌, each}
use Rattle.grammar.specs.Readings.{Reading}
use Rattle.grammar.specs.Fields.{Outcome, leaves}
use Rattle.text.specs.declared.Halt.{Halt}
use Rattle.text.specs.declared.Halt.TheVariants.{Going, Form, Range, Order, Missing, States, Idle}
use Rattle.text.specs.Inside.Area.{area_room, threes, costs_byte, shares_byte}
use Rattle.text.specs.Inside.Control.{St, mk}
use Rattle.text.specs.Inside.Steps.{ended}
use Rattle.text.proofs.Filling.{filled_length, threes_length}
use Rattle.text.specs.Inside.End.{refusal_of, over, last_fault, written, left_behind, settled_as, machine_end}
use Rattle.pieces.specs.declared.SoFar.{SoFar}
use Rattle.pieces.specs.Pieces.{area_lent, so_far, piece_left, piece_taken, EndLeft, end_left, ends_as, lent_short, read_so_far, text_ended}
use Rattle.pieces.proofs.Answers.{LongEnough, long_enough, piece_after_end, short_end, second_end, end_read, too_long, not_too_long}
use Rattle.pieces.proofs.Keeping.{ended_length}

-- ---- which reading answers, and which of the entry's tests decides
module _ (s : SoFar) (w f c h : List ℕ) where
  read_by : (P : Outcome → Type 0) → P (leaves (Err TextTooLong) f c h) → P (machine_end (mk s.at (take area_room w)) f c h) → P (read_so_far s w f c h)
  read_by P a b = by_order most_bytes s.bytes (λ l. subst P (sym (too_long s w f c h l)) a) (λ l. subst P (sym (not_too_long s w f c h l)) b)

  end_by : (P : EndLeft → Type 0) → (lent_short w f c h ≡ true → P (end_left s (Err TableTooShort) f c h))
      → (lent_short w f c h ≡ false → s.ended ≡ true → P (end_left s (Err (OffForm 0)) f c h))
      → (lent_short w f c h ≡ false → P (ends_as (so_far s.at s.bytes true) (read_so_far s w f c h)))
      → P (text_ended s w f c h)
  end_by P a b d = split (lent_short w f c h) s.ended refl refl
    where
      split : (p q : Bool) → lent_short w f c h ≡ p → s.ended ≡ q → P (text_ended s w f c h)
      split true q e k = subst P (sym (short_end s w f c h e)) (a e)
      split false true e k = subst P (sym (second_end s w f c h e k)) (b e k)
      split false false e k = subst P (sym (end_read s w f c h e k)) (d e)

-- ---- refused, nothing is written

not_refused : {A : Type 0} {r : Refusal} {n : Counts} → Ok n ≡ Err r → A
not_refused p = let z : ◌≡◌ {A = ℕ} 0 1 = cc in absurd (let n : ⊥ = omega arith in n)

-- what is left behind on a refusal
Keeps : List ℕ → List ℕ → List ℕ → Outcome → Type 0
Keeps f c h o = (r : Refusal) → o.answer ≡ Err r → (o.facts ≡ f) × (o.costs ≡ c) × (o.shares ≡ h)

settled_keeps : (e : St) (d : Found) (f c h : List ℕ) → Keeps f c h (left_behind d e f c h)
unfolding Keeps written
settled_keeps e (Ok tt) f c h r q = not_refused q
settled_keeps e (Err x) f c h r q = (refl, refl, refl)

reading_keeps : (s : SoFar) (w f c h : List ℕ) → Keeps f c h (read_so_far s w f c h)
unfolding Keeps machine_end settled_as
reading_keeps s w f c h =
    let e = ended (mk s.at (take area_room w)) in read_by s w f c h (Keeps f c h) (λ r q. (refl, refl, refl)) (settled_keeps e (last_fault e) f c h)

-- ---- no fault of a text has number 8
data OfText : Found → Type 0 where
  found_clean : OfText clean
  fault : {r : Refusal} → eqb (number_of r) 8 ≡ false → OfText (Err r)

both_of_text : (a b : Found) → OfText a → OfText b → OfText (a then b)
both_of_text (Ok tt) b p q = q
both_of_text (Err r) b p q = p

halt_of_text : (k : Halt) (l : ℕ) → OfText (refusal_of k l)
halt_of_text Going l = found_clean
halt_of_text Form l = fault refl
halt_of_text Range l = fault refl
halt_of_text Order l = fault refl
halt_of_text Missing l = fault refl
halt_of_text States l = fault refl
halt_of_text Idle l = fault refl

share_of_text : (b : Bool) (l : ℕ) → OfText (unless b (SharesAboveCost l))
share_of_text true l = found_clean
share_of_text false l = fault refl

each_of_text : (f : ℕ → Found) → ((i : ℕ) → OfText (f i)) → (n i : ℕ) → OfText (each f n i)
unfolding each
each_of_text f h zero i = found_clean
each_of_text f h (suc n) i = both_of_text (f i) (each f n (suc i)) (h i) (each_of_text f h n (suc i))

over_of_text : (e : St) → OfText (over e)
unfolding over
over_of_text e = search (each_of_text, share_of_text)

fault_of_text : (e : St) → OfText (last_fault e)
unfolding last_fault
fault_of_text e = both_of_text (refusal_of e.ctrl.halt e.ctrl.line) (over e) (halt_of_text e.ctrl.halt e.ctrl.line) (over_of_text e)

unlike : (r : Refusal) → eqb (number_of r) 8 ≡ false → ◌≡◌ {A = Reading} (Err r) (Err TableTooShort) → ⊥
unlike r n q = eqb-false (number_of r) 8 n (ap number_of (let y : r ≡ TableTooShort = cc in y))

not_eight : (e : St) (d : Found) (f c h : List ℕ) → OfText d → (left_behind d e f c h).answer ≡ Err TableTooShort → ⊥
unfolding written
not_eight e (Ok tt) f c h k q = not_refused q
not_eight e (Err r) f c h (fault n) q = unlike r n q

Unlike8 : Outcome → Type 0
Unlike8 o = o.answer ≡ Err TableTooShort → ⊥

reading_not_eight : (s : SoFar) (w f c h : List ℕ) → Unlike8 (read_so_far s w f c h)
unfolding Unlike8 machine_end settled_as
reading_not_eight s w f c h =
    let e = ended (mk s.at (take area_room w)) in
    read_by s w f c h Unlike8 (λ q. unlike TextTooLong refl q) (not_eight e (last_fault e) f c h (fault_of_text e))

-- ---- accepted, no table is longer or shorter
-- the tables are as long as those lent
SameLengths : List ℕ → List ℕ → List ℕ → Outcome → Type 0
SameLengths f c h o = (length o.facts ≡ length f) × (length o.costs ≡ length c) × (length o.shares ≡ length h)

module _ (w f c h : List ℕ) (long : LongEnough w f c h) where
  settled_lengths : (e : St) (d : Found) → length e.area ≡ area_room → SameLengths f c h (left_behind d e f c h)
  unfolding SameLengths written
  settled_lengths e (Err r) l = (refl, refl, refl)
  settled_lengths e (Ok tt) l = (
    filled_length facts_room (take facts_room e.area) f (length-take-le facts_room e.area (omega arith)) long.facts,
    filled_length costs_room (threes costs_room costs_byte e.area) c (threes_length costs_room costs_byte e.area) long.costs,
    filled_length shares_room (threes shares_room shares_byte e.area) h (threes_length shares_room shares_byte e.area) long.shares,
  )

  reading_lengths : (s : SoFar) → SameLengths f c h (read_so_far s w f c h)
  unfolding SameLengths machine_end settled_as
  reading_lengths s =
      let x = mk s.at (take area_room w) in
      let room = ended_length x ∙ length-take-le area_room w (omega (arith, long.area)) in
      read_by s w f c h (SameLengths f c h) (refl, refl, refl) (settled_lengths (ended x) (last_fault (ended x)) room)

-- ---- THE END, whatever was handed in
module _ (s : SoFar) (w f c h : List ℕ) (x : EndLeft) (said : x ≡ text_ended s w f c h) where
  by_tests : (P : EndLeft → Type 0) → (lent_short w f c h ≡ true → P (end_left s (Err TableTooShort) f c h))
      → (lent_short w f c h ≡ false → s.ended ≡ true → P (end_left s (Err (OffForm 0)) f c h))
      → (lent_short w f c h ≡ false → P (ends_as (so_far s.at s.bytes true) (read_so_far s w f c h))) → P x
  by_tests P a b d = subst P (sym said) (end_by s w f c h P a b d)

  -- refused, for whatever number, every table is as it was
  pub refused_end_keeps : (r : Refusal) → x.answer ≡ Err r → (x.facts ≡ f) × (x.costs ≡ c) × (x.shares ≡ h)
  unfolding Keeps
  refused_end_keeps =
      by_tests (λ y. (r : Refusal) → y.answer ≡ Err r → (y.facts ≡ f) × (y.costs ≡ c) × (y.shares ≡ h)) (λ l r e. (refl, refl, refl)) (λ l k r e. (refl, refl, refl))
      (λ l. reading_keeps s w f c h)

  -- whatever the answer, no table is longer or shorter
  pub end_lengths : (length x.facts ≡ length f) × (length x.costs ≡ length c) × (length x.shares ≡ length h)
  unfolding SameLengths
  end_lengths =
      by_tests (λ y. (length y.facts ≡ length f) × (length y.costs ≡ length c) × (length y.shares ≡ length h)) (λ l. (refl, refl, refl)) (λ l k. (refl, refl, refl))
      (λ l. reading_lengths w f c h (long_enough w f c h l) s)

  -- 8 exactly if the area or a table is too short; and then it isn't the end
  pub eight_if_short : lent_short w f c h ≡ true → x.answer ≡ Err TableTooShort
  eight_if_short e = ap (λ (y : EndLeft). y.answer) (said ∙ short_end s w f c h e)

  pub short_if_eight : x.answer ≡ Err TableTooShort → lent_short w f c h ≡ true
  unfolding Unlike8
  short_if_eight =
      by_tests (λ y. y.answer ≡ Err TableTooShort → lent_short w f c h ≡ true) (λ l e. l) (λ l k e. absurd (unlike (OffForm 0) refl e))
      (λ l e. absurd (reading_not_eight s w f c h e))

  pub eight_isnt_the_end : x.answer ≡ Err TableTooShort → x.text ≡ s
  eight_isnt_the_end e = ap (λ (y : EndLeft). y.text) (said ∙ short_end s w f c h (short_if_eight e))

  -- answered with anything else, the text has ended; and nothing else of the text so far is changed
  module _ (answered : x.answer ≡ Err TableTooShort → ⊥) where
    pub answered_ended : x.text ≡ so_far s.at s.bytes true
    answered_ended =
        by_tests (λ y. y.answer ≡ x.answer → y.text ≡ so_far s.at s.bytes true) (λ l e. absurd (answered (sym e)))
        (λ l k e. ap (λ (b : Bool). so_far s.at s.bytes b) k) (λ l e. refl) refl

    has_ended : x.text.ended ≡ true
    has_ended = ap (λ (t : SoFar). t.ended) answered_ended

    -- AFTER THAT a piece and a second end are refused with 2 at place 0; text so far, area and tables are as they were
    pub then_piece : (v p : List ℕ) → area_lent ≤ length v → piece_taken x.text v p ≡ piece_left x.text (Err (OffForm 0)) v
    then_piece v p l = piece_after_end x.text v p l has_ended

    pub then_end : (v g d k : List ℕ) → lent_short v g d k ≡ false → text_ended x.text v g d k ≡ end_left x.text (Err (OffForm 0)) g d k
    then_end v g d k l = second_end x.text v g d k l has_ended
