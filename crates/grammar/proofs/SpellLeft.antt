-- What an accepted text leaves, place by place: the number that the text names in each of the task's own places, 0 in every other, and no lent table longer or
-- shorter. The tables of the task that the text spells are there, and zeros after them. Assumes nothing.
use Prim.Native.Nat.{ℕ, zero, suc, ◌-◌, ◌≤◌, ◌<◌}
use native.Mathlib.Omega.{arith}
use mathlib.Core.Path.{◌≡◌, refl, sym, ap, ◌∙◌, subst}
use mathlib.Core.Bool.{Bool, true, false, cond}
use mathlib.Core.List.{List, [], ◌∷◌, ◌++◌}
use lib.Dec.{ltb}
use lib.ListN.{length, get_or, replicate, length-append, length-replicate}
use Rattle.std.specs.Prelude.{Ok, Err}
use Rattle.scan.specs.Found.{clean}
use Rattle.refusals.specs.declared.Refusal.TheVariants.{TextTooLong, TableTooShort}
use Rattle.meaning.specs.Limits.{most_bytes}
use Rattle.meaning.specs.Split.{Task, Valid}
use Rattle.meaning.proofs.Facts.{by_order}
use Rattle.tables.specs.declared.Counts.{Counts}
use Rattle.tables.specs.Layout.{Tables, facts_room, costs_room, shares_room, dom_place, init_place, goal_place, pre_place, eff_place, class_place, mark_place, share_place}
use Rattle.tables.specs.Editions.{read_in}
use Rattle.tables.specs.Task.{tables, task_of}
use Rattle.scan.specs.Scan.{task_fault}
use Rattle.grammar.specs.Fields.{Outcome, leaves, filled, admitted}
use Rattle.grammar.specs.Grammar.{Verdict, accepted, refused, outcome, verdict, read_text}
use Rattle.grammar.specs.Spelling.{spelled, tables_of}
use Rattle.grammar.proofs.Editions.{ByEdition, tables_by_edition}
use Rattle.grammar.proofs.Admission.{not_accepted, facts_short, costs_short, shares_short, accepted_outcome}
use Rattle.grammar.proofs.SpellTables.{zeros, long_row}
use Rattle.grammar.proofs.SpellOwn.{long_facts_of, long_shares_of}
use Rattle.grammar.proofs.SpellTask.{spelled_judged}
use Rattle.grammar.proofs.SpellAccepted.{Agree, own_numbers, clean_small, judged_accepted, spells_accepted}
use Rattle.grammar.proofs.SpellBeyond.{NotOwn, facts_beyond, costs_beyond, shares_beyond}
use Rattle.grammar.proofs.SpellShort.{spelled_short}
use Rattle.grammar.proofs.SpellRead.{read_accepted}

-- ---- a lent table that is filled

zeros_append : (xs : List ℕ) (n p : ℕ) → get_or (xs ++ replicate n 0) p 0 ≡ get_or xs p 0
zeros_append [] n p = zeros n p
zeros_append (x ∷ xs) n zero = refl
zeros_append (x ∷ xs) n (suc p) = zeros_append xs n p

pub filled_at : (room : ℕ) (xs lent : List ℕ) (p : ℕ) → get_or (filled room xs lent) p 0 ≡ get_or xs p 0
unfolding filled
filled_at room xs lent p = zeros_append xs (length lent - room) p

filled_length : (room : ℕ) (xs lent : List ℕ) → length xs ≡ room → room ≤ length lent → length (filled room xs lent) ≡ length lent
unfolding filled
filled_length room xs lent e h =
    length-append xs (replicate (length lent - room) 0) ∙ omega (arith, length-replicate {A = ℕ} (length lent - room) 0)

-- a task's tables fill the room of the largest
module _ (τ : Task) where
  facts_room_lem : length (tables_of τ).facts ≡ facts_room
  unfolding tables_of
  facts_room_lem = long_facts_of τ _ ∙ length-replicate {A = ℕ} facts_room 0

  costs_room_lem : length (tables_of τ).costs ≡ costs_room
  unfolding tables_of
  costs_room_lem = long_row (λ o. o) τ.sas.cost τ.sas.ops _ ∙ length-replicate {A = ℕ} costs_room 0

  shares_room_lem : length (tables_of τ).shares ≡ shares_room
  unfolding tables_of
  shares_room_lem = long_shares_of τ _ ∙ length-replicate {A = ℕ} shares_room 0

-- what a text names: for the task τ that it spells the counts, its number in each of its own places, 0 in every other place of the lent tables, beyond the room
-- of the largest task too, and each table as long as it was
pub record Named (τ : Task) (f c s : List ℕ) (o : Outcome) : Type 0 where
  pub answer : o.answer ≡ Ok (tables_of τ).counts
  pub own : Agree (task_of (tables (tables_of τ).counts o.facts o.costs o.shares)) τ
  pub facts_beyond : (p : ℕ) → NotOwn τ p → get_or o.facts p 0 ≡ 0
  pub costs_beyond : (i : ℕ) → τ.sas.ops ≤ i → get_or o.costs i 0 ≡ 0
  pub shares_beyond : (p : ℕ) → ((m i : ℕ) → m < τ.maps → i < τ.sas.ops → p ≡ share_place m i → ⊥) → get_or o.shares p 0 ≡ 0
  pub facts_length : length o.facts ≡ length f
  pub costs_length : length o.costs ≡ length c
  pub shares_length : length o.shares ≡ length s

-- ---- what is accepted was lent with room

module _ (x f c s : List ℕ) (n : Counts) (h : (read_text x f c s).answer ≡ Ok n) where
  -- the outcome has this answer, whatever it is shown to be
  so : (o : Outcome) → read_text x f c s ≡ o → o.answer ≡ Ok n
  so o e = ap (λ (u : Outcome). u.answer) (sym e) ∙ h

  pub rooms : (facts_room ≤ length f) × (costs_room ≤ length c) × (shares_room ≤ length s)
  rooms =
      let a : facts_room ≤ length f = by_order (length f) facts_room (λ l. not_accepted (so _ (facts_short x f c s l))) (λ g. g) in
      let b : costs_room ≤ length c = by_order (length c) costs_room (λ l. not_accepted (so _ (costs_short x f c s a l))) (λ g. g) in
      (a, b, by_order (length s) shares_room (λ l. not_accepted (so _ (shares_short x f c s a b l))) (λ g. g))

  -- ---- THE TASK THAT THE TEXT SPELLS
  module _ (τ : Task) (e : x ≡ spelled τ) (by : ByEdition τ) where
    spelled_own : (task_fault τ ≡ clean) × (verdict x ≡ accepted (tables_of τ))
    spelled_own =
        let R = read_accepted f c s x n h in
        let v = spells_accepted x R.tables R.spells in
        let j = judged_accepted (task_fault τ) (tables_of τ) R.tables (sym (spelled_judged τ by) ∙ ap verdict (sym e) ∙ v) in
        (j.0, v ∙ ap accepted (sym j.1))

    named_left : Named τ f c s (outcome (accepted (tables_of τ)) f c s)
    unfolding outcome
    named_left =
        let t = tables_of τ in
        let a = own_numbers τ (clean_small τ spelled_own.0) by in
        let fact = filled_at facts_room t.facts f in
        let r = rooms in
        record {
          answer = refl;
          own =
              record {
                dom = λ v l. fact (dom_place v) ∙ a.dom v l;
                init = λ v l. fact (init_place v) ∙ a.init v l;
                goal = λ v l. fact (goal_place v) ∙ a.goal v l;
                quota = a.quota;
                cost = λ o l. filled_at costs_room t.costs c o ∙ a.cost o l;
                pre = λ o v lo l. fact (pre_place o v) ∙ a.pre o v lo l;
                eff = λ o v lo l. fact (eff_place o v) ∙ a.eff o v lo l;
                mark = λ o l. ap (read_in t.counts.edition) (fact (mark_place o)) ∙ a.mark o l;
                class = λ m v y lm l g. fact (class_place m v y) ∙ a.class m v y lm l g;
                share = λ m o lm l. filled_at shares_room t.shares s (share_place m o) ∙ a.share m o lm l;
              };
          facts_beyond = λ p k. fact p ∙ facts_beyond τ p k;
          costs_beyond = λ i l. filled_at costs_room t.costs c i ∙ costs_beyond τ i l;
          shares_beyond = λ p k. filled_at shares_room t.shares s p ∙ shares_beyond τ p k;
          facts_length = filled_length facts_room t.facts f (facts_room_lem τ) r.0;
          costs_length = filled_length costs_room t.costs c (costs_room_lem τ) r.1;
          shares_length = filled_length shares_room t.shares s (shares_room_lem τ) r.2;
        }

    pub accepted_named : Named τ f c s (read_text x f c s)
    accepted_named =
        subst (Named τ f c s) (sym (accepted_outcome x f c s n h ∙ ap (λ (v : Verdict). outcome v f c s) spelled_own.1)) named_left

-- there is such a task, and it is valid: an accepted text spells one, and so has at most 10,588 bytes
pub accepted_task_of : (x f c s : List ℕ) (n : Counts) → (read_text x f c s).answer ≡ Ok n → (τ : Task) × (x ≡ spelled τ) × Valid τ × ByEdition τ
accepted_task_of x f c s n h =
    let R = read_accepted f c s x n h in
    (task_of R.tables, sym R.spells.text, R.spells.valid, tables_by_edition R.tables)

pub accepted_short : (x f c s : List ℕ) (n : Counts) → (read_text x f c s).answer ≡ Ok n → length x ≤ 10588
accepted_short x f c s n h =
    let t = accepted_task_of x f c s n h in
    subst (λ (y : List ℕ). length y ≤ 10588) (sym t.1) (spelled_short t.0 t.2)

-- ---- WHAT STOOD IN THE LENT TABLES DOESN'T MATTER: tables of the same lengths get the same answer, and the same numbers where it is accepted

module _ (x f f' c c' s s' : List ℕ) (p : length f ≡ length f') (q : length c ≡ length c') (r : length s ≡ length s') where
  outcome_answer : (v : Verdict) → (outcome v f c s).answer ≡ (outcome v f' c' s').answer
  unfolding outcome
  outcome_answer (accepted T) = refl
  outcome_answer (refused w) = refl

  -- by the four tests before the text
  tested_answer : (a b d e : Bool) (o u : Outcome) → o.answer ≡ u.answer
      → (cond a (leaves (Err TableTooShort) f c s)
      (cond b (leaves (Err TableTooShort) f c s) (cond d (leaves (Err TableTooShort) f c s) (cond e (leaves (Err TextTooLong) f c s) o)))).answer
      ≡ (cond a (leaves (Err TableTooShort) f' c' s')
      (cond b (leaves (Err TableTooShort) f' c' s') (cond d (leaves (Err TableTooShort) f' c' s') (cond e (leaves (Err TextTooLong) f' c' s') u)))).answer
  tested_answer true b d e o u h = refl
  tested_answer false true d e o u h = refl
  tested_answer false false true e o u h = refl
  tested_answer false false false true o u h = refl
  tested_answer false false false false o u h = h

  pub read_answer_same : (read_text x f c s).answer ≡ (read_text x f' c' s').answer
  unfolding read_text admitted
  read_answer_same =
      rw (p, q, r)
      (tested_answer (ltb (length f') facts_room) (ltb (length c') costs_room) (ltb (length s') shares_room) (ltb most_bytes (length x)) (outcome (verdict x) f c s) (outcome (verdict x) f' c' s')
      (outcome_answer (verdict x)))

  pub read_accepted_same : (n : Counts) → (read_text x f c s).answer ≡ Ok n → read_text x f c s ≡ read_text x f' c' s'
  unfolding outcome filled
  read_accepted_same n h =
      let R = read_accepted f c s x n h in
      accepted_outcome x f c s n h ∙ ap (λ (v : Verdict). outcome v f c s) (spells_accepted x R.tables R.spells) ∙ filled_alike R.tables
      ∙ sym
      (accepted_outcome x f' c' s' n (sym read_answer_same ∙ h) ∙ ap (λ (v : Verdict). outcome v f' c' s') (spells_accepted x R.tables R.spells))
    where
      filled_alike : (T : Tables) → outcome (accepted T) f c s ≡ outcome (accepted T) f' c' s'
      filled_alike T = rw (p, q, r) refl
