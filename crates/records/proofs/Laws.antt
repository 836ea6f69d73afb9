-- Laws of records laid into the tables: a turn of each walk and its end; and what the entry answers is what judging answers over the row's tables.
-- Assumes nothing.
use Prim.Native.Nat.{ℕ, zero, suc, ◌+◌, ◌*◌, ◌≤◌, ◌<◌}
use mathlib.Core.Path.{◌≡◌, refl, ap, sym, ◌∙◌}
use mathlib.Core.List.{List}
use native.Mathlib.Numerals.{add-one}
use native.Mathlib.Omega.{arith}
use lib.Dec.{leb}
use lib.ListN.{length, get_or, set, take, replicate, length-set, length-replicate}
use Rattle.std.proofs.Common.{append-nil}
use Rattle.std.proofs.lemmas.List.{take-append-drop}
use lib.Seq.{paste, paste-suc, length-take-le, take_all, get_or-take, ext_get_or}
use borrow.Author.Tests.{le-leb, lt-leb, leb-true, leb-false}
use mathlib.Core.Bool.{true, ◌&&◌}
use Rattle.meaning.proofs.Facts.{and_left, by_cases}
use Rattle.meaning.specs.Limits.{most_vars, most_ops}
use Rattle.refusals.specs.declared.Refusal.TheVariants.{TableTooShort}
use Rattle.tables.specs.declared.Counts.{Counts}
use Rattle.tables.specs.Layout.{pre_row, eff_row, mark_place, facts_room, costs_room, place, Tables, shares_room}
use Rattle.tables.specs.Task.{state_of, tables}
use Rattle.tables.specs.Steps.{overwritten}
use Rattle.scan.specs.Scan.{roomy, tables_fault, input_fault}
use Rattle.tables.proofs.Laws.{filled_at, length_filled}
use Rattle.std.specs.Prelude.{min, Result, Err}
use Rattle.refusals.specs.declared.Refusal.{Refusal}
use Rattle.sequences.specs.Judging.{judged_of}
use Rattle.records.specs.declared.OpRecord.{OpRecord}
use Rattle.records.specs.declared.laying.Laid.{Laid}
use Rattle.records.specs.Records.{record_at, counted, row_laid, laid_one, laid_of, blank, records_tables}
use Rattle.records.specs.Inside.Parts.{copy_of, laid_judged}

-- ---- a row of facts, place by place

-- it is written at once
pub row_pasted : (facts values : List ℕ) (row n : ℕ) → place row n ≤ length facts → n ≤ length values → row_laid facts row values n ≡ paste facts (row * 8) values n
unfolding row_laid
row_pasted facts values row zero h g =
    let e : row * 8 + 0 ≡ row * 8 = omega arith in
    rw (e, append-nil) (sym (take-append-drop (row * 8) facts))
row_pasted facts values row (suc n) h g =
    ap (λ (l : List ℕ). set l (place row n) (get_or values n 0)) (row_pasted facts values row n (omega arith) (omega arith))
    ∙ paste-suc facts (row * 8) values n 0 (omega arith) (omega arith)

-- ---- the records, one after the other

pub laid_none : (rows : List OpRecord) (t : Laid) → t ≡ laid_of rows 0 t
unfolding laid_of
laid_none rows t = refl

pub laid_next : (rows : List OpRecord) (t u w : Laid) (o : ℕ) → u ≡ laid_of rows o t → w ≡ laid_one u o (record_at rows o) → w ≡ laid_of rows (o + 1) t
unfolding laid_of
laid_next rows t u w o p q = rw (add-one, ← p, q) refl

-- ---- the copy

-- a copy as far as a table goes has its room exactly if what is copied has
pub take_room : (l : List ℕ) (m : ℕ) → leb m (length l) ≡ leb m (length (take m l))
take_room l m =
    by_cases (leb m (length l)) (λ e. rw (length-take-le m l (leb-true m (length l) e), e) (sym (le-leb m m (omega arith))))
    (λ e. rw (take_all m l (omega (arith, leb-false m (length l) e))) refl)

-- tables that have their rooms have it for the facts
pub room_facts : (t : Tables) → roomy t ≡ true → facts_room ≤ length t.facts
unfolding roomy
room_facts t e =
    let both = leb facts_room (length t.facts) && leb costs_room (length t.costs) in
    leb-true facts_room (length t.facts)
    (and_left (leb facts_room (length t.facts)) (leb costs_room (length t.costs)) (and_left both (leb shares_room (length t.shares)) e))

-- ---- nothing changes its length

pub length_row : (facts values : List ℕ) (row n : ℕ) → length (row_laid facts row values n) ≡ length facts
unfolding row_laid
length_row facts values row zero = refl
length_row facts values row (suc n) =
    length-set (row_laid facts row values n) (place row n) (get_or values n 0) ∙ length_row facts values row n

pub length_laid_facts : (rows : List OpRecord) (n : ℕ) (t : Laid) → length (laid_of rows n t).facts ≡ length t.facts
unfolding laid_of laid_one
length_laid_facts rows zero t = refl
length_laid_facts rows (suc o) t =
    let u = laid_of rows o t in
    let asked = row_laid u.facts (pre_row o) (record_at rows o).pre most_vars in
    length-set (row_laid asked (eff_row o) (record_at rows o).eff most_vars) (mark_place o) (record_at rows o).mark
    ∙ length_row asked (record_at rows o).eff (eff_row o) most_vars
    ∙ length_row u.facts (record_at rows o).pre (pre_row o) most_vars
    ∙ length_laid_facts rows o t

pub length_laid_costs : (rows : List OpRecord) (n : ℕ) (t : Laid) → length (laid_of rows n t).costs ≡ length t.costs
unfolding laid_of laid_one
length_laid_costs rows zero t = refl
length_laid_costs rows (suc o) t = length-set (laid_of rows o t).costs o (record_at rows o).cost ∙ length_laid_costs rows o t

-- ---- the entry

-- a copy of facts that have their room is what the row's tables start from
copied_taken : (l : List ℕ) (n : ℕ) → n ≤ length l → overwritten (state_of l) (replicate n 0) n ≡ take n l
copied_taken l n h =
    let e : length (overwritten (state_of l) (replicate n 0) n) ≡ n = length_filled (state_of l) (replicate n 0) n ∙ length-replicate n 0 in
    ext_get_or 0 (overwritten (state_of l) (replicate n 0) n) (take n l) (e ∙ sym (length-take-le n l h))
    (λ i g. filled_at (state_of l) (replicate n 0) n i (omega arith) (omega (arith, length-replicate {A = ℕ} n 0)) ∙ sym (get_or-take n l i 0 (omega arith)))

copied_blank : (facts : List ℕ) → facts_room ≤ length facts → copy_of facts ≡ blank facts
copied_blank facts h = ap (λ (x : List ℕ). record { facts = x; costs = replicate costs_room 0 }) (copied_taken facts facts_room h)

-- facts that don't have their room are refused as such
short_refused : (c : Counts) (facts shares s ops : List ℕ) (rows : List OpRecord) → length facts < facts_room
    → judged_of (records_tables c facts shares rows) s ops ≡ Err TableTooShort
unfolding records_tables judged_of input_fault tables_fault roomy
short_refused c facts shares s ops rows h =
    let e : length (laid_of rows (min (length rows) most_ops) (blank facts)).facts ≡ length facts
    = length_laid_facts rows (min (length rows) most_ops) (blank facts) ∙ ap length (take_all facts_room facts (omega arith)) in
    rw (e, lt-leb facts_room (length facts) h)

module _ (c : Counts) (facts shares s ops : List ℕ) (rows : List OpRecord) where
  laid_judged_lem : laid_judged c (length facts) (length rows) (laid_of rows (min (length rows) most_ops) (copy_of facts)) shares s ops
      ≡ judged_of (records_tables c facts shares rows) s ops
  unfolding laid_judged records_tables
  laid_judged_lem =
      by_cases (leb facts_room (length facts))
      (λ e. rw e (ap (λ (b : Laid). let t = laid_of rows (min (length rows) most_ops) b in judged_of (tables (counted c (length rows)) t.facts t.costs shares) s ops)
      (copied_blank facts (leb-true facts_room (length facts) e))))
      (λ e. rw e (sym (short_refused c facts shares s ops rows (omega (arith, leb-false facts_room (length facts) e)))))

  -- the answer from what the three calls answered
  pub judged_records : (t g : Laid) (r : Result ℕ Refusal) → t ≡ copy_of facts → g ≡ laid_of rows (min (length rows) most_ops) t
      → r ≡ laid_judged c (length facts) (length rows) g shares s ops → r ≡ judged_of (records_tables c facts shares rows) s ops
  judged_records t g r p q e =
      e ∙ ap (λ (x : Laid). laid_judged c (length facts) (length rows) x shares s ops) (q ∙ ap (laid_of rows (min (length rows) most_ops)) p) ∙ laid_judged_lem
