-- The scan accepts tables exactly if there is room and the task that they spell is valid, and a state exactly if it is long enough and one of
-- the task's; any two results that meet a contract of the scan are equal. Assumes nothing.
use Prim.Native.Nat.{ℕ, ◌≤◌}
use mathlib.Core.Path.{◌≡◌, sym, ◌∙◌}
use mathlib.Core.Bool.{true, ◌&&◌}
use mathlib.Core.List.{List}
use mathlib.Core.Logic.{◌↔◌}
use lib.Dec.{leb}
use lib.ListN.{length}
use borrow.Author.Tests.{leb-true}
use Rattle.scan.specs.Found.{Found, clean}
use Rattle.refusals.specs.declared.Refusal.TheVariants.{TableTooShort, ValueOutside}
use Rattle.meaning.specs.Sas.{IsState}
use Rattle.meaning.specs.Split.{Task, Valid}
use Rattle.meaning.proofs.Facts.{and_left, and_right}
use Rattle.tables.specs.declared.Counts.{Counts}
use Rattle.tables.specs.Layout.{Tables, dom_at, facts_room, costs_room, shares_room}
use Rattle.tables.specs.Task.{task_of, sas_of, state_of}
use Rattle.scan.specs.Scan.{task_fault, roomy, tables_fault, state_fault}
use Rattle.scan.proofs.Walks.{rule_is, then_is, walk_is}
use Rattle.scan.proofs.Rules.{le_is, lt_is, task_is}

task_valid : (T : Task) → (task_fault T ≡ clean) ↔ Valid T
task_valid T = (
  λ p.
      let q = (task_is T).0 p in
      let head = q.0 in
      let lines = q.1.0 in
      record {
        edition = head.0;
        vars = head.1.0;
        values = λ v i. (head.1.1.0 v i).1;
        proper =
            record {
              values = λ v i. (head.1.1.0 v i).0;
              init = head.1.1.1.0;
              goal = head.1.1.1.1.0;
              pre = λ o v i. (lines.0 o i).1.0 v;
              eff = λ o v i. (lines.0 o i).1.1.0 v;
            };
        quota = head.1.1.1.1.1.0;
        ops = head.1.1.1.1.1.1;
        costs = λ o i. (lines.0 o i).0;
        marks = λ o i. (lines.0 o i).1.1.1.0;
        none_idle = λ o i. (lines.0 o i).1.1.1.1;
        maps = lines.1.0;
        classes = λ m v x i j. ((lines.1.1 m i).0 v j).0 x;
        none_missing = λ m v c i j. ((lines.1.1 m i).0 v j).1 c;
        few_states = λ m i. (lines.1.1 m i).1;
        shares = λ m o i. q.1.1.0 m i o;
        split = q.1.1.1;
      },
  λ h.
      let p = h.proper in
      (task_is T).1 (
        (h.edition, (h.vars, (λ v i. (p.values v i, h.values v i), (p.init, (p.goal, (h.quota, h.ops)))))),
        (
          (
            λ o i. (h.costs o i, (λ v. p.pre o v i, (λ v. p.eff o v i, (h.marks o i, h.none_idle o i)))),
            (h.maps, λ m i. (λ v j. (λ x. h.classes m v x i j, λ c. h.none_missing m v c i j), h.few_states m i)),
          ),
          (λ m i o. h.shares m o i, h.split),
        ),
      ),
)

module _ (t : Tables) where
  -- ACCEPTED EXACTLY IF THE TASK IS VALID, where there is room
  pub accepted : (tables_fault t ≡ clean) ↔ ((roomy t ≡ true) × Valid (task_of t))
  unfolding tables_fault
  accepted = then_is (rule_is TableTooShort (λ p. p, λ p. p)) (task_valid (task_of t))

  pub clean_valid : tables_fault t ≡ clean → Valid (task_of t)
  clean_valid p = (accepted.0 p).1

  -- their lengths, for who reads a place as it stands
  pub clean_room : tables_fault t ≡ clean → (facts_room ≤ length t.facts) × (costs_room ≤ length t.costs) × (shares_room ≤ length t.shares)
  unfolding roomy
  clean_room p =
      let f = leb facts_room (length t.facts) in
      let c = leb costs_room (length t.costs) in
      let s = leb shares_room (length t.shares) in
      let r = (accepted.0 p).0 in
      let q = and_left (f && c) s r in (
        leb-true facts_room (length t.facts) (and_left f c q),
        leb-true costs_room (length t.costs) (and_right f c q),
        leb-true shares_room (length t.shares) (and_right (f && c) s r),
      )

  pub valid_clean : roomy t ≡ true → Valid (task_of t) → tables_fault t ≡ clean
  valid_clean r h = accepted.1 (r, h)

  -- a state is accepted exactly if it has a place a variable and is one of the task's
  pub state_clean : (s : List ℕ) → (state_fault t.counts t.facts s ≡ clean) ↔ ((t.counts.vars ≤ length s) × IsState (sas_of t) (state_of s))
  unfolding state_fault
  state_clean s =
      then_is (rule_is TableTooShort (le_is t.counts.vars (length s)))
      (walk_is _ t.counts.vars (λ v. rule_is (ValueOutside v) (lt_is (state_of s v) (dom_at t.facts v))))

-- what is found is settled by the contract
pub tables_fault_unique : (t : Tables) (r r' : Found) → r ≡ tables_fault t → r' ≡ tables_fault t → r ≡ r'
tables_fault_unique t r r' p q = p ∙ sym q

pub state_fault_unique : (c : Counts) (facts s : List ℕ) (r r' : Found) → r ≡ state_fault c facts s → r' ≡ state_fault c facts s → r ≡ r'
state_fault_unique c facts s r r' p q = p ∙ sym q
