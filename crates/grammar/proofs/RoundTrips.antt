-- ROUND TRIPS: writing what was read gives the same bytes; reading a task's text gives the same tables, their unused places 0.
-- What a reading leaves agrees with the tables that the text spells at every place, and tables that agree at a task's own places have one text. Assumes nothing.
use Prim.Native.Nat.{ℕ, ◌≤◌, ◌<◌}
use native.Mathlib.Omega.{arith}
use mathlib.Core.Path.{◌≡◌, refl, sym, ap, ap₂, ◌∙◌, subst}
use mathlib.Core.Bool.{true}
use mathlib.Core.List.{List}
use lib.Dec.{eqb}
use lib.ListN.{length, get_or}
use lib.Seq.{ext_get_or}
use borrow.Author.Tests.{le-leb, eqb-true, eqb-false}
use Rattle.std.specs.Prelude.{Ok}
use Rattle.scan.specs.Found.{clean}
use Rattle.meaning.proofs.Facts.{by_cases, by_order}
use Rattle.tables.specs.declared.Counts.{Counts}
use Rattle.tables.specs.Layout.{Tables, facts_room, costs_room, shares_room, dom_place, init_place, goal_place, pre_place, eff_place, class_place, mark_place, share_place, mark_at, quota_of}
use Rattle.tables.specs.Editions.{read_in}
use Rattle.tables.specs.Task.{tables, task_of}
use Rattle.tables.proofs.Editions.{has_read}
use Rattle.scan.specs.Scan.{roomy, tables_fault}
use Rattle.scan.specs.Own.{SameCounts, OwnSame}
use Rattle.scan.proofs.Unread.{own_alike}
use Rattle.grammar.specs.Fields.{Outcome, leaves}
use Rattle.grammar.specs.Grammar.{outcome, read_text}
use Rattle.grammar.specs.Spelling.{text_of, tables_of, canon}
use Rattle.grammar.specs.Writing.{text_room, page, over, write_text}
use Rattle.grammar.proofs.Editions.{OnlySecond, tables_by_edition, read_whole}
use Rattle.grammar.proofs.SpellAccepted.{read_own, accepted_clean, spells_accepted, own_roomy}
use Rattle.grammar.proofs.SpellBeyond.{NotOwn}
use Rattle.grammar.proofs.SpellRead.{read_spelled, read_accepted}
use Rattle.grammar.proofs.SpellLeft.{filled_at, rooms, Named, accepted_named}
use Rattle.grammar.proofs.Unread.{own_text}
use Rattle.grammar.proofs.Writing.{tables_written}

same_counts : {c d : Counts} → c ≡ d → SameCounts c d
same_counts p =
    record {
      vars = ap (λ (c : Counts). c.vars) p;
      ops = ap (λ (c : Counts). c.ops) p;
      maps = ap (λ (c : Counts). c.maps) p;
      edition = ap (λ (c : Counts). c.edition) p;
      quota = ap quota_of p;
    }

-- the tables that a reading leaves, with the counts that it answers
abbrev pub tables_left : Counts → Outcome → Tables
tables_left n o = tables n o.facts o.costs o.shares

-- ---- WRITING WHAT WAS READ

module _ (x f c s : List ℕ) (n : Counts) (h : (read_text x f c s).answer ≡ Ok n) where
  abbrev o : Outcome
  o = read_text x f c s

  -- the tables that the text spells
  abbrev spelt : Tables
  spelt = (read_accepted f c s x n h).tables

  left_facts : (p : ℕ) → get_or o.facts p 0 ≡ get_or spelt.facts p 0
  unfolding outcome
  left_facts p = ap (λ (u : Outcome). get_or u.facts p 0) (read_accepted f c s x n h).left ∙ filled_at facts_room spelt.facts f p

  left_costs : (p : ℕ) → get_or o.costs p 0 ≡ get_or spelt.costs p 0
  unfolding outcome
  left_costs p = ap (λ (u : Outcome). get_or u.costs p 0) (read_accepted f c s x n h).left ∙ filled_at costs_room spelt.costs c p

  left_shares : (p : ℕ) → get_or o.shares p 0 ≡ get_or spelt.shares p 0
  unfolding outcome
  left_shares p = ap (λ (u : Outcome). get_or u.shares p 0) (read_accepted f c s x n h).left ∙ filled_at shares_room spelt.shares s p

  left_roomy : roomy (tables_left n o) ≡ true
  unfolding roomy
  left_roomy =
      let r = rooms x f c s n h in
      let R = read_accepted f c s x n h in
      let N = accepted_named x f c s n h (task_of spelt) (sym R.spells.text) (tables_by_edition spelt) in
      rw (
        le-leb facts_room (length o.facts) (omega (arith, r.0, N.facts_length)),
        le-leb costs_room (length o.costs) (omega (arith, r.1, N.costs_length)),
        le-leb shares_room (length o.shares) (omega (arith, r.2, N.shares_length)),
      ) refl

  left_own : OwnSame (tables_left n o) spelt
  left_own =
      let R = read_accepted f c s x n h in
      record {
        counts = same_counts (sym R.counts);
        room = left_roomy ∙ sym (own_roomy spelt R.spells.own);
        dom = λ v l. left_facts (dom_place v);
        init = λ v l. left_facts (init_place v);
        goal = λ v l. left_facts (goal_place v);
        pre = λ i v k l. left_facts (pre_place i v);
        eff = λ i v k l. left_facts (eff_place i v);
        class = λ m v y k l g. left_facts (class_place m v y);
        cost = λ i l. left_costs i;
        share = λ m i k l. left_shares (share_place m i);
        mark = λ i l. ap₂ (λ (u : Counts) (y : ℕ). read_in u.edition y) (sym R.counts) (left_facts (mark_place i));
      }

  -- they are accepted, and spell the text
  pub left_clean : tables_fault (tables_left n o) ≡ clean
  left_clean =
      let R = read_accepted f c s x n h in
      (own_alike (tables_left n o) spelt left_own).fault ∙ accepted_clean x spelt (spells_accepted x spelt R.spells)

  pub left_text : text_of (tables_left n o) ≡ x
  left_text = own_text (tables_left n o) spelt left_own ∙ (read_accepted f c s x n h).spells.text

  pub write_read : (b : List ℕ) → text_room ≤ length b → write_text (tables_left n o) b ≡ page (Ok (length x)) (over x b)
  write_read b l = tables_written (tables_left n o) b l left_clean ∙ ap (λ (y : List ℕ). page (Ok (length y)) (over y b)) left_text

-- ---- READING WHAT WAS WRITTEN

-- every place of the tables that isn't the task's own holds 0, and in edition 1 the quota is 0
pub record UnusedZero (t : Tables) : Type 0 where
  pub quota : OnlySecond t.counts.edition t.counts.quota
  pub facts : (p : ℕ) → NotOwn (task_of t) p → get_or t.facts p 0 ≡ 0
  pub costs : (i : ℕ) → t.counts.ops ≤ i → get_or t.costs i 0 ≡ 0
  pub shares : (p : ℕ) → ((m i : ℕ) → m < t.counts.maps → i < t.counts.ops → p ≡ share_place m i → ⊥) → get_or t.shares p 0 ≡ 0

-- what differs at a place says so of no other
differs : {a b : ℕ} (P : Type 0) → ((a ≡ b → ⊥) → P) → (P → a ≡ b) → a ≡ b
differs {a = a} {b = b} P at so =
    by_cases (eqb a b) (eqb-true a b) (λ q. absurd (eqb-false a b q (so (at (eqb-false a b q)))))

module _ (t : Tables) (f c s : List ℕ) (o : Outcome) (N : Named (task_of t) f c s o) (U : UnusedZero t) where
  same_fact : (p : ℕ) → get_or o.facts p 0 ≡ get_or t.facts p 0
  unfolding tables_of
  same_fact p =
      let edition = t.counts.edition in
      let at : (q : ℕ) → get_or o.facts q 0 ≡ get_or t.facts q 0 → p ≡ q → get_or o.facts p 0 ≡ get_or t.facts p 0 =
      λ q g e. subst (λ (k : ℕ). get_or o.facts k 0 ≡ get_or t.facts k 0) (sym e) g in
      differs (NotOwn (task_of t) p)
      (λ no.
      record {
        dom = λ v l e. no (at (dom_place v) (N.own.dom v l) e);
        init = λ v l e. no (at (init_place v) (N.own.init v l) e);
        goal = λ v l e. no (at (goal_place v) (N.own.goal v l) e);
        pre = λ i v k l e. no (at (pre_place i v) (N.own.pre i v k l) e);
        eff = λ i v k l e. no (at (eff_place i v) (N.own.eff i v k l) e);
        class = λ m v y k l g e. no (at (class_place m v y) (N.own.class m v y k l g) e);
        mark = λ i k h e. no (at (mark_place i) (sym (has_read edition (mark_at o.facts i) h) ∙ N.own.mark i k ∙ has_read edition (mark_at t.facts i) h) e);
      })
      (λ k. N.facts_beyond p k ∙ sym (U.facts p k))

  same_cost : (i : ℕ) → get_or o.costs i 0 ≡ get_or t.costs i 0
  same_cost i = by_order i t.counts.ops (N.own.cost i) (λ l. N.costs_beyond i l ∙ sym (U.costs i l))

  same_share : (p : ℕ) → get_or o.shares p 0 ≡ get_or t.shares p 0
  same_share p =
      differs ((m i : ℕ) → m < t.counts.maps → i < t.counts.ops → p ≡ share_place m i → ⊥)
      (λ no m i k l e. no (subst (λ (q : ℕ). get_or o.shares q 0 ≡ get_or t.shares q 0) (sym e) (N.own.share m i k l)))
      (λ k. N.shares_beyond p k ∙ sym (U.shares p k))

  pub same_bytes : length f ≡ length t.facts → length c ≡ length t.costs → length s ≡ length t.shares
      → o ≡ leaves (Ok t.counts) t.facts t.costs t.shares
  unfolding tables_of
  same_bytes p q r =
      let e = t.counts.edition in
      let whole : read_in e (read_in e t.counts.quota) ≡ t.counts.quota = read_own e _ _ (read_whole e _ U.quota) U.quota in
      let answer : o.answer ≡ Ok t.counts = N.answer ∙ ap (λ (y : ℕ). Ok (with_quota y)) whole in
      let x : o.facts ≡ t.facts = ext_get_or 0 o.facts t.facts (N.facts_length ∙ p) (λ i l. same_fact i) in
      let y : o.costs ≡ t.costs = ext_get_or 0 o.costs t.costs (N.costs_length ∙ q) (λ i l. same_cost i) in
      let z : o.shares ≡ t.shares = ext_get_or 0 o.shares t.shares (N.shares_length ∙ r) (λ i l. same_share i) in
      λ i. leaves (answer i) (x i) (y i) (z i)
    where
      with_quota : ℕ → Counts
      with_quota y = record { vars = t.counts.vars; ops = t.counts.ops; maps = t.counts.maps; edition = t.counts.edition; quota = y }

-- a clean task's text, read into tables of enough room
module _ (t : Tables) (p : tables_fault t ≡ clean) (f c s : List ℕ) (a : facts_room ≤ length f) (b : costs_room ≤ length c) (d : shares_room ≤ length s) where
  read_answer : (read_text (text_of t) f c s).answer ≡ Ok (canon t).counts
  unfolding outcome
  read_answer = ap (λ (o : Outcome). o.answer) (read_spelled f c s t p a b d)

  -- the counts, the task's own numbers, and 0 in every other place
  pub spelled_named : Named (task_of t) f c s (read_text (text_of t) f c s)
  spelled_named = accepted_named (text_of t) f c s (canon t).counts read_answer (task_of t) refl (tables_by_edition t)

  -- where the unused places were 0 already, exactly the same tables
  pub spelled_same : UnusedZero t → length f ≡ length t.facts → length c ≡ length t.costs → length s ≡ length t.shares
      → read_text (text_of t) f c s ≡ leaves (Ok t.counts) t.facts t.costs t.shares
  spelled_same U = same_bytes t f c s (read_text (text_of t) f c s) spelled_named U
