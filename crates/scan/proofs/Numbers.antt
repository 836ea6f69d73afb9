-- Tables get number 3, 5, 6, 7, 8 or 18, and no other: each rule of the scan has one of these numbers, and the first fault is that of a rule. Assumes nothing.
use Prim.Native.Nat.{ℕ, zero, suc}
use mathlib.Core.Path.{◌≡◌, refl, subst}
use mathlib.Core.Bool.{Bool, true, false, not}
use mathlib.Core.Logic.{◌⊎◌, inl, inr}
use native.Mathlib.Omega.{arith}
use lib.Dec.{leb, ltb}
use Rattle.std.specs.Prelude.{Ok, Err}
use Rattle.scan.specs.Found.{Found, clean}
use Rattle.meaning.specs.Limits.{most_vars, most_values, most_ops, most_cost, most_maps, most_states, most_edition, most_quota, most_mark}
use Rattle.refusals.specs.declared.Refusal.{Refusal}
use Rattle.refusals.specs.declared.Refusal.TheVariants.{OutOfRange, ClassMissing, SharesAboveCost, TooManyStates, TableTooShort, IdleOperator}
use Rattle.refusals.specs.Listed.{number_of}
use Rattle.meaning.specs.Sas.{Facts}
use Rattle.meaning.specs.Views.{abstract_states, idle}
use Rattle.meaning.specs.Split.{Task, sum, view}
use Rattle.tables.specs.Layout.{Tables}
use Rattle.tables.specs.Task.{task_of}
use Rattle.tables.specs.Classes.{none_missing}
use Rattle.tables.specs.Lines.{line_of_op, line_of_maps, line_of_map, line_of_shares, line_of_edition, line_of_vars, line_of_dom, line_of_init, line_of_goal, line_of_quota, line_of_ops}
use Rattle.scan.specs.Scan.{unless, ◌then◌, each, within, facts_fault, operator_fault, classes_fault, map_fault, shares_fault, split_fault, task_fault, roomy, tables_fault}

-- a refusal of a task: 3, 5, 6, 7 or 18
abbrev pub OfTask : Refusal → Type 0
OfTask r = (number_of r ≡ 3) ⊎ (number_of r ≡ 5) ⊎ (number_of r ≡ 6) ⊎ (number_of r ≡ 7) ⊎ (number_of r ≡ 18)

-- of the lent tables: 8, or that of a task
abbrev pub OfTables : Refusal → Type 0
OfTables r = (number_of r ≡ 8) ⊎ OfTask r

data Kind : Found → Type 0 where
  nothing : Kind clean
  fault : {r : Refusal} → OfTask r → Kind (Err r)

rule : (b : Bool) (r : Refusal) → OfTask r → Kind (unless b r)
rule true r k = nothing
rule false r k = fault k

both : (f g : Found) → Kind f → Kind g → Kind (f then g)
both (Ok tt) g p q = q
both (Err r) g p q = p

walk : (f : ℕ → Found) → ((i : ℕ) → Kind (f i)) → (n i : ℕ) → Kind (each f n i)
unfolding each
walk f h zero i = nothing
walk f h (suc n) i = both (f i) (each f n (suc i)) (h i) (walk f h n (suc i))

range : (b : Bool) (l : ℕ) → Kind (unless b (OutOfRange l))
range b l = rule b (OutOfRange l) (inl refl)

ranges : (test : ℕ → Bool) (l n : ℕ) → Kind (each (λ i. unless (test i) (OutOfRange l)) n 0)
ranges test l n = walk (λ i. unless (test i) (OutOfRange l)) (λ i. range (test i) l) n 0

module _ (T : Task) where
  of_facts : (F : Facts) (l : ℕ) → Kind (facts_fault T F l)
  unfolding facts_fault
  of_facts F l = ranges (λ v. leb (F v) (T.sas.dom v)) l T.sas.vars

  of_operator : (o : ℕ) → Kind (operator_fault T o)
  unfolding operator_fault
  of_operator o =
      let l = line_of_op T.edition o in
      both _ _ (range (leb (T.sas.cost o) most_cost) l)
      (both _ _ (of_facts (T.sas.pre o) l)
      (both _ _ (of_facts (T.sas.eff o) l)
      (both _ _ (range (leb (T.mark o) most_mark) l) (rule (not (idle T.sas o)) (IdleOperator l) (inr (inr (inr (inr refl))))))))

  of_classes : (m l v : ℕ) → Kind (classes_fault T m l v)
  unfolding classes_fault
  of_classes m l v =
      both _ _ (ranges (λ x. ltb (T.class m v x) (T.sas.dom v)) l (T.sas.dom v))
      (rule (none_missing (T.class m v) (T.sas.dom v)) (ClassMissing l) (inr (inl refl)))

  of_map : (m : ℕ) → Kind (map_fault T m)
  unfolding map_fault
  of_map m =
      let l = line_of_map T.edition T.sas.ops m in
      let few = leb (abstract_states T.sas (view T m)) most_states in
      both _ _ (walk (classes_fault T m l) (of_classes m l) T.sas.vars 0)
      (rule few (TooManyStates l) (inr (inr (inr (inl refl)))))

  of_shares : (m : ℕ) → Kind (shares_fault T m)
  unfolding shares_fault
  of_shares m = ranges (λ o. leb (T.share m o) most_cost) (line_of_shares T.edition T.sas.ops T.maps m) T.sas.ops

  of_split : (o : ℕ) → Kind (split_fault T o)
  unfolding split_fault
  of_split o = rule (leb (sum (λ m. T.share m o) T.maps) (T.sas.cost o)) (SharesAboveCost (line_of_op T.edition o)) (inr (inr (inl refl)))

  of_task : Kind (task_fault T)
  unfolding task_fault
  of_task =
      both _ _ (range (within 1 most_edition T.edition) line_of_edition)
      (both _ _ (range (within 1 most_vars T.sas.vars) line_of_vars)
      (both _ _ (ranges (λ v. within 1 most_values (T.sas.dom v)) line_of_dom T.sas.vars)
      (both _ _ (ranges (λ v. ltb (T.sas.init v) (T.sas.dom v)) line_of_init T.sas.vars)
      (both _ _ (of_facts T.sas.goal line_of_goal)
      (both _ _ (range (leb T.quota most_quota) line_of_quota)
      (both _ _ (range (leb T.sas.ops most_ops) (line_of_ops T.edition))
      (both _ _ (walk (operator_fault T) of_operator T.sas.ops 0)
      (both _ _ (range (within 1 most_maps T.maps) (line_of_maps T.edition T.sas.ops))
      (both _ _ (walk (map_fault T) of_map T.maps 0)
      (both _ _ (walk (shares_fault T) of_shares T.maps 0) (walk (split_fault T) of_split T.sas.ops 0)))))))))))

-- ---- THE NUMBERS OF A TASK AND OF TABLES

fault_of : (f : Found) (r : Refusal) → Kind f → f ≡ Err r → OfTask r
fault_of (Ok tt) r k e = absurd (let z : ◌≡◌ {A = ℕ} 0 1 = cc in omega arith)
fault_of (Err q) r (fault k) e = let z : q ≡ r = cc in subst OfTask z k

pub task_refused : (T : Task) (r : Refusal) → task_fault T ≡ Err r → OfTask r
task_refused T r e = fault_of (task_fault T) r (of_task T) e

pub tables_refused : (t : Tables) (r : Refusal) → tables_fault t ≡ Err r → OfTables r
unfolding tables_fault
tables_refused t r e = at (roomy t) e
  where
    at : (b : Bool) → unless b TableTooShort then task_fault (task_of t) ≡ Err r → OfTables r
    at true e = inr (task_refused (task_of t) r e)
    at false e = let z : TableTooShort ≡ r = cc in subst OfTables z (inl refl)
