-- What the contract of the entry over records gives: no second answer meets it; and a row that spells the operators of tables is judged as the tables are.
-- (That a row's length above the limit is refused as any such number is: Many.antt.) Assumes nothing.
use Prim.Native.Nat.{ℕ, ◌≤◌, ◌<◌}
use mathlib.Core.Path.{◌≡◌, refl, ap, ap₂, sym, ◌∙◌}
use mathlib.Core.Bool.{Bool, true, ◌&&◌}
use mathlib.Core.List.{List}
use native.Mathlib.Omega.{arith}
use lib.Dec.{leb}
use lib.ListN.{length, get_or, take, length-replicate}
use lib.Seq.{length-take-le, get_or-take}
use borrow.Author.Tests.{le-leb}
use Rattle.meaning.specs.Limits.{most_vars, most_ops}
use Rattle.tables.specs.declared.Counts.{Counts}
use Rattle.tables.specs.Layout.{Tables, facts_room, costs_room, shares_room, pre_at, eff_at, cost_at, mark_of, dom_place, init_place, goal_place, class_place}
use Rattle.tables.specs.Editions.{read_in}
use Rattle.tables.specs.Task.{tables}
use Rattle.scan.specs.Scan.{roomy}
use Rattle.scan.proofs.Unread.{Agree, read_alike, state_own}
use Rattle.std.specs.Prelude.{min, Result}
use Rattle.refusals.specs.declared.Refusal.{Refusal}
use Rattle.sequences.specs.Judging.{judged_of}
use Rattle.sequences.proofs.Unread.{judged_alike}
use Rattle.records.specs.declared.OpRecord.{OpRecord}
use Rattle.records.specs.declared.laying.Laid.{Laid}
use Rattle.records.specs.Records.{record_at, laid_of, blank, more_ops, counted, records_tables}
use Rattle.records.proofs.Laws.{take_room, room_facts, length_laid_facts, length_laid_costs}
use Rattle.records.proofs.Places.{Outside, before_rows, after_rows, laid_other, laid_pre, laid_eff, laid_mark, laid_cost}

-- ---- no second answer

pub judge_records_unique : (c : Counts) (facts shares s ops : List ℕ) (rows : List OpRecord) (r r' : Result ℕ Refusal)
    → r ≡ judged_of (records_tables c facts shares rows) s ops → r' ≡ judged_of (records_tables c facts shares rows) s ops → r ≡ r'
judge_records_unique c facts shares s ops rows r r' p q = p ∙ sym q

-- ---- the same answers

-- the row spells the operators of the tables t: as many, each with its cost, with its facts at the task's variables, and in edition 2 with its mark; and t's costs
-- have their room, as a row has it always
pub record Spells (t : Tables) (rows : List OpRecord) : Type 0 where
  pub number : length rows ≡ t.counts.ops
  pub few : t.counts.ops ≤ most_ops
  pub cost : (o : ℕ) → o < t.counts.ops → (record_at rows o).cost ≡ cost_at t.costs o
  pub pre : (o v : ℕ) → o < t.counts.ops → v < t.counts.vars → get_or (record_at rows o).pre v 0 ≡ pre_at t.facts o v
  pub eff : (o v : ℕ) → o < t.counts.ops → v < t.counts.vars → get_or (record_at rows o).eff v 0 ≡ eff_at t.facts o v
  pub mark : (o : ℕ) → o < t.counts.ops → read_in t.counts.edition (record_at rows o).mark ≡ mark_of t.counts t.facts o
  pub room : costs_room ≤ length t.costs

module _ (t : Tables) (rows : List OpRecord) (h : Spells t rows) where
  abbrev n : ℕ
  n = t.counts.ops

  abbrev laid : Laid
  laid = laid_of rows n (blank t.facts)

  room_same : roomy t ≡ roomy (tables t.counts laid.facts laid.costs t.shares)
  unfolding roomy
  room_same =
      ap (λ (b : Bool). b && leb shares_room (length t.shares))
      (ap₂ ◌&&◌ (take_room t.facts facts_room ∙ ap (leb facts_room) (sym (length_laid_facts rows n (blank t.facts))))
      (le-leb costs_room (length t.costs) h.room ∙ sym (le-leb costs_room (length laid.costs)
      (omega (arith, length_laid_costs rows n (blank t.facts), length-replicate {A = ℕ} costs_room 0)))))

  agree : roomy t ≡ true → t.counts.vars ≤ most_vars → Agree t.counts t.facts laid.facts t.costs laid.costs t.shares t.shares
  agree e few =
      let long = room_facts t e in
      let whole : length (take facts_room t.facts) ≡ facts_room = length-take-le facts_room t.facts long in
      let other : (q : ℕ) → q < facts_room → Outside q → get_or t.facts q 0 ≡ get_or laid.facts q 0 = λ q l out. sym (laid_other rows (blank t.facts) n q h.few out
      ∙ get_or-take facts_room t.facts q 0 l) in
      record {
        dom = λ v g. other (dom_place v) (omega arith) (before_rows (dom_place v) (omega arith));
        init = λ v g. other (init_place v) (omega arith) (before_rows (init_place v) (omega arith));
        goal = λ v g. other (goal_place v) (omega arith) (before_rows (goal_place v) (omega arith));
        pre = λ o v l lo g. sym (laid_pre rows (blank t.facts) n o v h.few l (omega arith) (omega arith) ∙ h.pre o v l g);
        eff = λ o v l lo g. sym (laid_eff rows (blank t.facts) n o v h.few l (omega arith) (omega arith) ∙ h.eff o v l g);
        class = λ m v x lm a l d b. other (class_place m v x) (omega arith) (after_rows (class_place m v x) (omega arith) (omega arith));
        cost = λ o l lo. sym (laid_cost rows (blank t.facts) n o l (omega (arith, length-replicate {A = ℕ} costs_room 0)) ∙ h.cost o l);
        share = λ m o lm l. refl;
        mark = λ o l lo. sym (ap (read_in t.counts.edition) (laid_mark rows (blank t.facts) n o h.few l (omega arith)) ∙ h.mark o l);
      }

  counts_same : counted t.counts n ≡ t.counts
  counts_same =
      let c = t.counts in
      ap (λ (x : ℕ). record { vars = c.vars; ops = x; maps = c.maps; edition = c.edition; quota = c.quota }) (let e : min n more_ops ≡ n = omega (arith, h.few) in e)

  pub records_agree : (s ops : List ℕ) → judged_of (records_tables t.counts t.facts t.shares rows) s ops ≡ judged_of t s ops
  unfolding records_tables
  records_agree s ops =
      let e : min n most_ops ≡ n = omega (arith, h.few) in
      rw (h.number, e, counts_same)
      (sym (judged_alike (read_alike t.counts t.facts laid.facts t.costs laid.costs t.shares t.shares room_same agree) s s (state_own t.counts s) ops))
