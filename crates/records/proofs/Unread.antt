-- Beside the row only a task's own places are read, and none of the operators' rows and marks of the lent facts: facts and shares that agree there, and states that agree at
-- the variables, are judged the same. (That the lent count of operators isn't read is seen in `records_tables`.) Assumes nothing.
use Prim.Native.Nat.{ℕ, zero, suc, ◌≤◌, ◌<◌}
use mathlib.Core.Path.{◌≡◌, refl, ap, ap₂, sym, ◌∙◌}
use mathlib.Core.Bool.{true, ◌&&◌}
use mathlib.Core.List.{List}
use native.Mathlib.Omega.{arith}
use lib.Dec.{leb}
use lib.ListN.{length, get_or, set, take}
use lib.Seq.{get_or-take}
use Rattle.meaning.specs.Limits.{most_vars, most_ops}
use Rattle.tables.specs.declared.Counts.{Counts}
use Rattle.tables.specs.Layout.{facts_room, costs_room, dom_at, cost_at, dom_place, init_place, goal_place, class_place}
use Rattle.tables.specs.Editions.{read_in}
use Rattle.tables.specs.Task.{tables}
use Rattle.scan.specs.Scan.{roomy}
use Rattle.scan.specs.Own.{OwnState}
use Rattle.scan.proofs.Unread.{Agree, read_alike}
use Rattle.std.specs.Prelude.{min}
use Rattle.sequences.specs.Judging.{judged_of}
use Rattle.sequences.proofs.Unread.{judged_alike}
use Rattle.records.specs.declared.OpRecord.{OpRecord}
use Rattle.records.specs.declared.laying.Laid.{Laid}
use Rattle.records.specs.Records.{record_at, laid_one, laid_of, blank, counted, records_tables}
use Rattle.records.specs.Own.{OwnBeside}
use Rattle.records.proofs.Laws.{take_room, room_facts, length_laid_facts}
use Rattle.records.proofs.Places.{Outside, before_rows, after_rows, laid_other, laid_pre, laid_eff, laid_mark}

costs_same : (rows : List OpRecord) (m : ℕ) (t u : Laid) → t.costs ≡ u.costs → (laid_of rows m t).costs ≡ (laid_of rows m u).costs
unfolding laid_of laid_one
costs_same rows zero t u e = e
costs_same rows (suc o) t u e = ap (λ (l : List ℕ). set l o (record_at rows o).cost) (costs_same rows o t u e)

module _ (c : Counts) (f g s z : List ℕ) (rows : List OpRecord) (O : OwnBeside c (length rows) f g s z) where
  abbrev n : ℕ
  n = min (length rows) most_ops

  abbrev d : Counts
  d = counted c (length rows)

  abbrev F : Laid
  F = laid_of rows n (blank f)

  abbrev G : Laid
  G = laid_of rows n (blank g)

  few : n ≤ most_ops
  few = omega arith

  -- as much room as was lent
  laid_room : (l : List ℕ) → leb facts_room (length (laid_of rows n (blank l)).facts) ≡ leb facts_room (length l)
  laid_room l = ap (leb facts_room) (length_laid_facts rows n (blank l)) ∙ sym (take_room l facts_room)

  room_same : roomy (tables d F.facts F.costs s) ≡ roomy (tables d G.facts G.costs z)
  unfolding roomy
  room_same =
      ap₂ ◌&&◌
      (ap₂ ◌&&◌ (laid_room f ∙ O.facts_room_lem ∙ sym (laid_room g)) (ap (λ (l : List ℕ). leb costs_room (length l)) (costs_same rows n (blank f) (blank g) refl)))
      O.shares_room_lem

  module _ (long : facts_room ≤ length F.facts) (long' : facts_room ≤ length G.facts) where
    far : facts_room ≤ length (take facts_room f)
    far = omega (arith, length_laid_facts rows n (blank f))

    far' : facts_room ≤ length (take facts_room g)
    far' = omega (arith, length_laid_facts rows n (blank g))

    -- a place outside the operators' rows is as it was lent
    other : (q : ℕ) → q < facts_room → Outside q → get_or f q 0 ≡ get_or g q 0 → get_or F.facts q 0 ≡ get_or G.facts q 0
    other q l h e =
        laid_other rows (blank f) n q few h ∙ get_or-take facts_room f q 0 l ∙ e ∙ sym (laid_other rows (blank g) n q few h ∙ get_or-take facts_room g q 0 l)

    -- an operator within the limit is laid
    laid : (o : ℕ) → o < d.ops → o < most_ops → o < n
    laid o l h = omega arith

    -- the number of values of a variable is as it was lent
    dom_lent : (v : ℕ) → v < most_vars → dom_at F.facts v ≡ dom_at f v
    dom_lent v l =
        laid_other rows (blank f) n (dom_place v) few (before_rows (dom_place v) (omega arith)) ∙ get_or-take facts_room f (dom_place v) 0 (omega arith)

    agree : c.vars ≤ most_vars → Agree d F.facts G.facts F.costs G.costs s z
    agree fits =
        record {
          dom = λ v l. other (dom_place v) (omega arith) (before_rows (dom_place v) (omega arith)) (O.dom v l);
          init = λ v l. other (init_place v) (omega arith) (before_rows (init_place v) (omega arith)) (O.init v l);
          goal = λ v l. other (goal_place v) (omega arith) (before_rows (goal_place v) (omega arith)) (O.goal v l);
          pre =
              λ o v lo h l.
              laid_pre rows (blank f) n o v few (laid o lo h) (omega arith) far ∙ sym (laid_pre rows (blank g) n o v few (laid o lo h) (omega arith) far');
          eff =
              λ o v lo h l.
              laid_eff rows (blank f) n o v few (laid o lo h) (omega arith) far ∙ sym (laid_eff rows (blank g) n o v few (laid o lo h) (omega arith) far');
          class =
              λ m v x lm a l h b.
              other (class_place m v x) (omega arith) (after_rows (class_place m v x) (omega arith) (omega arith)) (O.class m v x lm l (omega (arith, dom_lent v (omega arith))));
          cost = λ o l h. ap (λ (k : List ℕ). cost_at k o) (costs_same rows n (blank f) (blank g) refl);
          share = λ m o lm l. O.share m o lm (omega arith);
          mark =
              λ o lo h.
              ap (read_in c.edition) (laid_mark rows (blank f) n o few (laid o lo h) far ∙ sym (laid_mark rows (blank g) n o few (laid o lo h) far'));
        }

  from_room : roomy (tables d F.facts F.costs s) ≡ true → c.vars ≤ most_vars → Agree d F.facts G.facts F.costs G.costs s z
  from_room e =
      agree (room_facts (tables d F.facts F.costs s) e) (room_facts (tables d G.facts G.costs z) (sym room_same ∙ e))

  pub records_own : (x y ops : List ℕ) → OwnState c x y → judged_of (records_tables c f s rows) x ops ≡ judged_of (records_tables c g z rows) y ops
  unfolding records_tables
  records_own x y ops S =
      judged_alike (read_alike d F.facts G.facts F.costs G.costs s z room_same from_room) x y
      (record { room = S.room; values = S.values }) ops
