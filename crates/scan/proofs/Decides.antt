-- The first fault of an operator's line, and of the lines of operators and maps: which part decides. Assumes nothing.
use Prim.Native.Nat.{ℕ, ◌≤◌, ◌<◌}
use mathlib.Core.Path.{◌≡◌, refl, sym, ap, ◌∙◌}
use mathlib.Core.Bool.{Bool, true, false, ◌&&◌, not}
use lib.Dec.{leb}
use borrow.Author.Tests.{lt-leb, le-leb}
use Rattle.std.specs.Prelude.{Err}
use Rattle.scan.specs.Found.{Found, clean}
use Rattle.refusals.specs.declared.Refusal.{Refusal}
use Rattle.refusals.specs.declared.Refusal.TheVariants.{OutOfRange, TooManyStates, IdleOperator}
use Rattle.meaning.specs.Limits.{most_cost, most_maps, most_states, most_mark}
use Rattle.meaning.specs.Views.{abstract_states, idle}
use Rattle.meaning.specs.Split.{Task, view}
use Rattle.scan.specs.Scan.{unless, ◌then◌, each, within, facts_fault, operator_fault, classes_fault, map_fault}
use Rattle.scan.specs.Inside.Parts.{lines_fault}
use Rattle.scan.proofs.Walks.{then_then, tests, one_walk, walk_here}
use Rattle.tables.specs.Lines.{line_of_op, line_of_maps, line_of_map}

module _ (T : Task) where
  -- ---- an operator's line: its cost, then its facts, then its mark, then whether it is idle

  abbrev line : ℕ → ℕ
  line o = line_of_op T.edition o

  pub cost_decides : (o : ℕ) → most_cost < T.sas.cost o → operator_fault T o ≡ Err (OutOfRange (line o))
  unfolding operator_fault
  cost_decides o h = rw (lt-leb (T.sas.cost o) most_cost h)

  -- its facts in one walk
  abbrev facts_walked : ℕ → Found
  facts_walked o =
      each (tests (λ v. leb (T.sas.pre o v) (T.sas.dom v) && leb (T.sas.eff o v) (T.sas.dom v)) (λ v. OutOfRange (line o))) T.sas.vars 0

  in_one_walk : (o : ℕ) → T.sas.cost o ≤ most_cost
      → operator_fault T o
      ≡ facts_walked o
      then unless (leb (T.mark o) most_mark) (OutOfRange (line o))
      then unless (not (idle T.sas o)) (IdleOperator (line o))
  unfolding operator_fault facts_fault
  in_one_walk o h =
      let end = unless (leb (T.mark o) most_mark) (OutOfRange (line o)) then unless (not (idle T.sas o)) (IdleOperator (line o)) in
      rw (le-leb (T.sas.cost o) most_cost h)
      (sym (then_then (facts_fault T (T.sas.pre o) (line o)) (facts_fault T (T.sas.eff o) (line o)) end)
      ∙ ap (λ (f : Found). f then end)
      (one_walk (λ v. leb (T.sas.pre o v) (T.sas.dom v)) (λ v. leb (T.sas.eff o v) (T.sas.dom v)) (OutOfRange (line o)) T.sas.vars))

  module _ (o : ℕ) (h : T.sas.cost o ≤ most_cost) where
    pub fact_decides : (r : Refusal) → facts_walked o ≡ Err r → operator_fault T o ≡ Err r
    fact_decides r p = in_one_walk o h ∙ rw p refl

    pub mark_decides : facts_walked o ≡ clean → most_mark < T.mark o → operator_fault T o ≡ Err (OutOfRange (line o))
    mark_decides p l = in_one_walk o h ∙ rw (p, lt-leb (T.mark o) most_mark l) refl

    pub idle_decides : {b : Bool} → facts_walked o ≡ clean → T.mark o ≤ most_mark → b ≡ idle T.sas o
        → operator_fault T o ≡ unless (not b) (IdleOperator (line o))
    idle_decides p l q = in_one_walk o h ∙ rw (p, le-leb (T.mark o) most_mark l, ← q) refl

  -- ---- a map's line: its variables, then how many abstract states

  module _ (m : ℕ) {line : ℕ} (at : line ≡ line_of_map T.edition T.sas.ops m) where
    pub classes_decide : (r : Refusal) → each (classes_fault T m line) T.sas.vars 0 ≡ Err r → Err r ≡ map_fault T m
    unfolding map_fault
    classes_decide r p = sym (rw (← at, p))

    pub states_decide : {n : ℕ} → each (classes_fault T m line) T.sas.vars 0 ≡ clean → n ≡ abstract_states T.sas (view T m)
        → unless (leb n most_states) (TooManyStates line) ≡ map_fault T m
    unfolding map_fault
    states_decide p q = sym (rw (← at, p, ← q))

  -- ---- the lines: the operators, how many maps, the maps

  -- the first faulty operator
  pub operator_decides : (o : ℕ) (r : Refusal) → each (operator_fault T) o 0 ≡ clean → o < T.sas.ops → operator_fault T o ≡ Err r → lines_fault T ≡ Err r
  unfolding lines_fault
  operator_decides o r p l h = rw (walk_here (operator_fault T) T.sas.ops o r p l h)

  module _ (operators : each (operator_fault T) T.sas.ops 0 ≡ clean) where
    pub count_decides : within 1 most_maps T.maps ≡ false → lines_fault T ≡ Err (OutOfRange (line_of_maps T.edition T.sas.ops))
    unfolding lines_fault
    count_decides q = rw (operators, q)

    pub maps_decide : (r : Found) → within 1 most_maps T.maps ≡ true → each (map_fault T) T.maps 0 ≡ r → lines_fault T ≡ r
    unfolding lines_fault
    maps_decide r q s = rw (operators, q, s)
