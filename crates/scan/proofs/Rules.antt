-- What it says of a task that a part of the scan is clean: exactly that the rules of document 01 hold that the part asks for.
-- Assumes nothing.
use Prim.Native.Nat.{ℕ, zero, suc, ◌≤◌, ◌<◌}
use mathlib.Core.Path.{◌≡◌, ap, sym, ◌∙◌}
use mathlib.Core.Bool.{true, false≢true, or-true}
use mathlib.Core.Logic.{◌↔◌}
use native.Mathlib.Omega.{arith}
use lib.Dec.{leb, ltb}
use borrow.Author.Tests.{leb-true, le-leb, ltb-true, ltb-false, lt-ltb, eqb-true, eq-eqb}
use Rattle.scan.specs.Found.{clean}
use Rattle.refusals.specs.declared.Refusal.TheVariants.{OutOfRange, ClassMissing, SharesAboveCost, TooManyStates, IdleOperator}
use Rattle.meaning.specs.Sas.{Facts, IsState, Idle}
use Rattle.meaning.specs.Limits.{most_vars, most_values, most_ops, most_cost, most_maps, most_states, most_edition, most_quota, most_mark}
use Rattle.meaning.specs.Views.{abstract_states}
use Rattle.meaning.specs.Split.{Task, count_of, sum, view}
use Rattle.meaning.proofs.Facts.{and_left, and_right, every_true, true_every, by_cases}
use Rattle.meaning.proofs.Idle.{not_idle_is}
use Rattle.scan.specs.Scan.{◌then◌, within, facts_fault, operator_fault, classes_fault, map_fault, shares_fault, split_fault, task_fault}
use Rattle.scan.specs.Inside.Parts.{head_fault, lines_fault, charges_fault, body_fault}
use Rattle.scan.proofs.Walks.{then_then, rule_is, then_is, walk_is}
use Rattle.tables.specs.Classes.{some_has, none_missing}
use Rattle.tables.specs.Lines.{line_of_edition, line_of_vars, line_of_dom, line_of_init, line_of_goal, line_of_quota, line_of_ops, line_of_op, line_of_maps, line_of_map, line_of_shares}

-- ---- tests and what they say

pub within_says : (lo hi x : ℕ) → within lo hi x ≡ true → (lo ≤ x) × (x ≤ hi)
within_says lo hi x p =
    (leb-true lo x (and_left (leb lo x) (leb x hi) p), leb-true x hi (and_right (leb lo x) (leb x hi) p))

within_is : (lo hi x : ℕ) → (within lo hi x ≡ true) ↔ ((lo ≤ x) × (x ≤ hi))
within_is lo hi x = (within_says lo hi x, λ p. rw (le-leb lo x p.0, le-leb x hi p.1))

pub le_is : (m n : ℕ) → (leb m n ≡ true) ↔ (m ≤ n)
le_is m n = (leb-true m n, le-leb m n)

pub lt_is : (m n : ℕ) → (ltb m n ≡ true) ↔ (m < n)
lt_is m n = (ltb-true m n, lt-ltb m n)

-- some of the first n values has the class exactly if there is one that has it; so no class is missing exactly if each has a value
module _ (class : ℕ → ℕ) where
  some_has_lem : (n c : ℕ) → some_has class n c ≡ true → (x : ℕ) × (x < n) × (class x ≡ c)
  some_has_lem zero c p = absurd (false≢true p)
  some_has_lem (suc n) c p =
      by_cases (some_has class n c)
      (λ e.
      let w = some_has_lem n c e in
      (w.0, omega arith, w.2))
      (λ e. (n, omega arith, eqb-true (class n) c (rw e at p)))

  has_some : (n c x : ℕ) → x < n → class x ≡ c → some_has class n c ≡ true
  has_some zero c x l p = absurd (let z : ⊥ = omega arith in z)
  has_some (suc n) c x l p =
      by_cases (ltb x n) (λ e. rw (has_some n c x (ltb-true x n e) p))
      (λ e.
      let s : x ≡ n = omega (arith, ltb-false x n e) in
      rw (eq-eqb (class n) c (sym (ap class s) ∙ p)) (or-true (some_has class n c)))

  none_missing_is : (n : ℕ) → (none_missing class n ≡ true) ↔ ((c : ℕ) → c < count_of class n → (x : ℕ) × (x < n) × (class x ≡ c))
  none_missing_is n = (
    λ p c l. some_has_lem n c (every_true (some_has class n) (count_of class n) p c l),
    λ h. true_every (some_has class n) (count_of class n) (λ c l. let w = h c l in has_some n c w.0 w.1 w.2),
  )

-- ---- what each line asks for

module _ (T : Task) where
  abbrev pub FactsOk : Facts → Type 0
  FactsOk F = (v : ℕ) → v < T.sas.vars → F v ≤ T.sas.dom v

  abbrev pub OperatorOk : ℕ → Type 0
  OperatorOk o =
      (T.sas.cost o ≤ most_cost)
      × (FactsOk (T.sas.pre o) × (FactsOk (T.sas.eff o) × ((T.mark o ≤ most_mark) × (Idle T.sas o → ⊥))))

  abbrev pub ClassesOk : ℕ → ℕ → Type 0
  ClassesOk m v =
      ((x : ℕ) → x < T.sas.dom v → T.class m v x < T.sas.dom v)
      × ((c : ℕ) → c < (view T m).classes v → (x : ℕ) × (x < T.sas.dom v) × (T.class m v x ≡ c))

  abbrev pub MapOk : ℕ → Type 0
  MapOk m = ((v : ℕ) → v < T.sas.vars → ClassesOk m v) × (abstract_states T.sas (view T m) ≤ most_states)

  abbrev pub HeadOk : Type 0
  HeadOk =
      ((1 ≤ T.edition) × (T.edition ≤ most_edition))
      × (((1 ≤ T.sas.vars) × (T.sas.vars ≤ most_vars))
      × (((v : ℕ) → v < T.sas.vars → (1 ≤ T.sas.dom v) × (T.sas.dom v ≤ most_values))
      × (IsState T.sas T.sas.init × (FactsOk T.sas.goal × ((T.quota ≤ most_quota) × (T.sas.ops ≤ most_ops))))))

  abbrev pub LinesOk : Type 0
  LinesOk =
      ((o : ℕ) → o < T.sas.ops → OperatorOk o)
      × (((1 ≤ T.maps) × (T.maps ≤ most_maps)) × ((m : ℕ) → m < T.maps → MapOk m))

  abbrev pub ChargesOk : Type 0
  ChargesOk =
      ((m : ℕ) → m < T.maps → (o : ℕ) → o < T.sas.ops → T.share m o ≤ most_cost)
      × ((o : ℕ) → o < T.sas.ops → sum (λ m. T.share m o) T.maps ≤ T.sas.cost o)

  -- ---- a part is clean exactly if what it asks for holds

  facts_is : (F : Facts) (line : ℕ) → (facts_fault T F line ≡ clean) ↔ FactsOk F
  unfolding facts_fault
  facts_is F line = walk_is _ T.sas.vars (λ v. rule_is (OutOfRange line) (le_is (F v) (T.sas.dom v)))

  operator_is : (o : ℕ) → (operator_fault T o ≡ clean) ↔ OperatorOk o
  unfolding operator_fault
  operator_is o =
      let line = line_of_op T.edition o in
      then_is (rule_is (OutOfRange line) (le_is (T.sas.cost o) most_cost))
      (then_is (facts_is (T.sas.pre o) line) (then_is (facts_is (T.sas.eff o) line)
      (then_is (rule_is (OutOfRange line) (le_is (T.mark o) most_mark)) (rule_is (IdleOperator line) (not_idle_is T.sas o)))))

  classes_is : (m line v : ℕ) → (classes_fault T m line v ≡ clean) ↔ ClassesOk m v
  unfolding classes_fault
  classes_is m line v =
      then_is (walk_is _ (T.sas.dom v) (λ x. rule_is (OutOfRange line) (lt_is (T.class m v x) (T.sas.dom v))))
      (rule_is (ClassMissing line) (none_missing_is (T.class m v) (T.sas.dom v)))

  map_is : (m : ℕ) → (map_fault T m ≡ clean) ↔ MapOk m
  unfolding map_fault
  map_is m =
      let line = line_of_map T.edition T.sas.ops m in
      then_is (walk_is _ T.sas.vars (classes_is m line)) (rule_is (TooManyStates line) (le_is (abstract_states T.sas (view T m)) most_states))

  head_is : (head_fault T ≡ clean) ↔ HeadOk
  unfolding head_fault
  head_is =
      then_is (rule_is (OutOfRange line_of_edition) (within_is 1 most_edition T.edition))
      (then_is (rule_is (OutOfRange line_of_vars) (within_is 1 most_vars T.sas.vars))
      (then_is (walk_is _ T.sas.vars (λ v. rule_is (OutOfRange line_of_dom) (within_is 1 most_values (T.sas.dom v))))
      (then_is (walk_is _ T.sas.vars (λ v. rule_is (OutOfRange line_of_init) (lt_is (T.sas.init v) (T.sas.dom v))))
      (then_is (facts_is T.sas.goal line_of_goal)
      (then_is (rule_is (OutOfRange line_of_quota) (le_is T.quota most_quota)) (rule_is (OutOfRange (line_of_ops T.edition)) (le_is T.sas.ops most_ops)))))))

  lines_is : (lines_fault T ≡ clean) ↔ LinesOk
  unfolding lines_fault
  lines_is =
      then_is (walk_is _ T.sas.ops operator_is)
      (then_is (rule_is (OutOfRange (line_of_maps T.edition T.sas.ops)) (within_is 1 most_maps T.maps)) (walk_is _ T.maps map_is))

  charges_is : (charges_fault T ≡ clean) ↔ ChargesOk
  unfolding shares_fault split_fault
  charges_is =
      then_is (walk_is _ T.maps (λ m. walk_is _ T.sas.ops (λ o. rule_is (OutOfRange (line_of_shares T.edition T.sas.ops T.maps m)) (le_is (T.share m o) most_cost))))
      (walk_is _ T.sas.ops (λ o. rule_is (SharesAboveCost (line_of_op T.edition o)) (le_is (sum (λ m. T.share m o) T.maps) (T.sas.cost o))))

  -- ---- THE WHOLE TASK IS ITS PARTS

  pub in_parts : task_fault T ≡ head_fault T then body_fault T
  unfolding task_fault head_fault lines_fault
  in_parts = simp then_then

  pub task_is : (task_fault T ≡ clean) ↔ (HeadOk × (LinesOk × ChargesOk))
  task_is = let w = then_is head_is (then_is lines_is charges_is) in (λ p. w.0 (sym in_parts ∙ p), λ h. in_parts ∙ w.1 h)

  -- ---- what the code's bounds rest on

  module _ (head : head_fault T ≡ clean) where
    pub few_vars : T.sas.vars ≤ most_vars
    few_vars = (head_is.0 head).1.0.1

    pub few_values : (v : ℕ) → v < T.sas.vars → T.sas.dom v ≤ most_values
    few_values v l = ((head_is.0 head).1.1.0 v l).1

    pub few_ops : T.sas.ops ≤ most_ops
    few_ops = (head_is.0 head).1.1.1.1.1.1

  pub few_maps : lines_fault T ≡ clean → T.maps ≤ most_maps
  few_maps p = (lines_is.0 p).1.0.1
