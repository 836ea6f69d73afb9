-- A map's line on what is spelled: the rules of its variables' classes, then that of its abstract states, and the classes in their places.
-- The classes just read stand in the tables, so that the scan's rule of them is asked of the task's own. Assumes nothing.
use Prim.Native.Nat.{ℕ, zero, suc, ◌+◌, ◌<◌}
use native.Mathlib.Omega.{arith}
use native.Mathlib.Numerals.{add-one}
use mathlib.Core.Path.{◌≡◌, refl, ap, ◌∙◌}
use mathlib.Core.List.{List, [], ◌++◌}
use mathlib.Core.Bool.{Bool, false}
use lib.Dec.{leb, ltb}
use lib.ListN.{length, set}
use Rattle.refusals.specs.declared.Refusal.TheVariants.{OutOfRange, ClassMissing, TooManyStates}
use Rattle.meaning.specs.Limits.{most_states}
use Rattle.meaning.specs.Numbering.{size}
use Rattle.meaning.specs.Views.{abstract_states}
use Rattle.meaning.specs.Split.{Task, count_of, view}
use Rattle.tables.specs.Layout.{Tables, facts_room, dom_at, class_at, class_place}
use Rattle.tables.specs.Task.{sas_of, task_of}
use Rattle.tables.specs.Classes.{none_missing}
use Rattle.scan.specs.Scan.{unless, ◌then◌, each, classes_fault}
use Rattle.grammar.specs.Fields.{is_digit, comma, slash}
use Rattle.grammar.specs.Grammar.{Rest, Part, ◌▸◌, nothing, ask, demand, fits, parted, number_row, put_fact, class_list, class_lists, map_classes}
use Rattle.grammar.specs.Spelling.{digits, gap, joined, numbers, map_text, changed, row_put, map_rows}
use Rattle.grammar.proofs.Runs.{Stop, other}
use Rattle.grammar.proofs.SpellParts.{judged, next, Told, asked_told, parted_told, row_told, joined_none, joined_front}
use Rattle.grammar.proofs.SpellFacts.{within_below, on, on_changed, Knows, knows_set, knows_row, knows_changed}
use Rattle.grammar.proofs.SpellTables.{long_row, writes_row}
use Rattle.grammar.proofs.SpellOwn.{Small, long_map, map_class}
use Rattle.grammar.proofs.SpellClasses.{Same, count_same, missing_same, size_same}

slash_no_digit : is_digit slash ≡ false
unfolding is_digit
slash_no_digit = refl

-- what stands after a variable's classes
stop_slash : (n : ℕ) (xs u : List ℕ) → Stop u → (n ≡ 0 → xs ≡ []) → Stop (gap slash n ++ (xs ++ u))
unfolding gap
stop_slash zero xs u s e = rw (e refl) s
stop_slash (suc n) xs u s e = other slash_no_digit

-- A ROW of numbers in their places, as many as the tables so far say
module _ (least : ℕ) (limit : ℕ → Tables → ℕ) (place f : ℕ → ℕ) (test : ℕ → Bool) (P : Tables → Type 0) (N : ℕ)
    (keeps : (i : ℕ) (T : Tables) → i < N → P T → P (put_fact (place i) (f i) T))
    (tests : (i : ℕ) (T : Tables) → i < N → P T → fits (f i) least (limit i T) ≡ test i) where
  pub row_told_put : (count : Tables → ℕ) (rest : List ℕ) → Stop rest → (l : ℕ) (T : Tables) → count T ≡ N → P T
      → Told (ask (λ U. number_row least limit (λ i x. put_fact (place i) x) (count U) 0)) (numbers f N) rest l T (each (λ i. unless (test i) (OutOfRange l)) N 0) (on (row_put place f N) T)
  unfolding ask numbers row_put
  row_told_put count rest s l T e p k =
      let part : ℕ → Part = λ n. number_row least limit (λ i x. put_fact (place i) x) n 0 in
      ap (λ (n : ℕ). part n (joined comma (λ i. digits (f i)) N 0 ++ rest) l T k) e
      ∙ row_told least limit (λ i x. put_fact (place i) x) f test P N keeps tests N 0 (omega arith) rest s l T p k
      ∙ ap (λ (U : Tables). judged (each (λ i. unless (test i) (OutOfRange l)) N 0) (k rest l U)) (on_changed (λ i w. set w (place i) (f i)) N 0 T)

-- the tables so far say the variables' values, and have room for the facts
abbrev pub Ready : Task → Tables → Type 0
Ready τ T = Knows τ.sas.vars τ.sas.dom T × (length T.facts ≡ facts_room)

pub ready_map : (τ : Task) (m : ℕ) (T : Tables) → Ready τ T → Ready τ (on (map_rows τ m) T)
unfolding map_rows
ready_map τ m T w = (
  knows_changed (λ v. row_put (class_place m v) (τ.class m v) (τ.sas.dom v)) (λ v U. knows_row (class_place m v) (τ.class m v) (λ j. omega arith) (τ.sas.dom v) U) τ.sas.vars 0 T w.0,
  long_map τ m T.facts ∙ w.1,
)

module _ (τ : Task) (s : Small τ) (m : ℕ) (a : m < τ.maps) (l : ℕ) where
  abbrev classes_in : ℕ → List ℕ → List ℕ
  classes_in v = row_put (class_place m v) (τ.class m v) (τ.sas.dom v)

  ready_next : (v : ℕ) (T : Tables) → Ready τ T → Ready τ (on (classes_in v) T)
  ready_next v T w =
      (knows_row (class_place m v) (τ.class m v) (λ j. omega arith) (τ.sas.dom v) T w.0, long_row (class_place m v) (τ.class m v) (τ.sas.dom v) T.facts ∙ w.1)

  -- a variable's classes, each in its range, and at their end none missing
  classes_told : (v : ℕ) → v < τ.sas.vars → (rest : List ℕ) → Stop rest → (T : Tables) → Ready τ T
      → Told (class_list m v) (numbers (τ.class m v) (τ.sas.dom v)) rest l T (classes_fault τ m l v) (on (classes_in v) T)
  unfolding class_list classes_fault ◌▸◌
  classes_told v h rest st T w k =
      let c = τ.class m v in
      let d = τ.sas.dom v in
      let U = on (classes_in v) T in
      let e : dom_at U.facts v ≡ d = (ready_next v T w).0.doms v h in
      let own : Same (class_at U.facts m v) c d = λ x g.
      let x₁ = s.vars in let x₂ = s.doms v h in let x₃ = s.maps in
      writes_row (class_place m v) c d x g (λ j q. omega arith) T.facts (omega (arith, w.1)) in
      next (each (λ x. unless (ltb (c x) d) (OutOfRange l)) d 0) (unless (none_missing c d) (ClassMissing l)) _
      (row_told_put 0 (λ x U. dom_at U.facts v) (class_place m v) c (λ x. ltb (c x) d) (Knows τ.sas.vars τ.sas.dom) d
      (λ x U g p. knows_set U (class_place m v x) (c x) (omega arith) p) (λ x U g p. within_below (c x) (dom_at U.facts v) ∙ ap (ltb (c x)) (p.doms v h))
      (λ U. dom_at U.facts v) rest st l T (w.0.doms v h) w.0 _)
      (λ q. asked_told (λ U. none_missing (class_at U.facts m v) (dom_at U.facts v)) ClassMissing (none_missing c d) rest l U k
      (ap (none_missing (class_at U.facts m v)) e ∙ missing_same (class_at U.facts m v) c d own))

  module _ (rest : List ℕ) (st : Stop rest) where
    -- the variables one after another
    lists_told : (n v : ℕ) → v + n ≡ τ.sas.vars → (T : Tables) → Ready τ T
        → Told (class_lists m n v) (joined slash (λ u. numbers (τ.class m u) (τ.sas.dom u)) n v) rest l T (each (classes_fault τ m l) n v) (on (changed classes_in n v) T)
    unfolding class_lists each changed nothing ◌▸◌
    lists_told zero v e T w k = rw (joined_none slash (λ u. numbers (τ.class m u) (τ.sas.dom u)) 0 v refl) refl
    lists_told (suc n) v e T w k =
        let text : ℕ → List ℕ = λ u. numbers (τ.class m u) (τ.sas.dom u) in
        let tail = joined slash text n (suc v) in
        let U = on (classes_in v) T in
        next {B = parted n slash (gap slash n ++ (tail ++ rest)) l U (λ u i W. class_lists m n (v + 1) u i W k)}
        (classes_fault τ m l v) (each (classes_fault τ m l) n (suc v)) _
        (ap (λ (t : List ℕ). class_lists m (suc n) v t l T k) (joined_front slash text n v rest)
        ∙ classes_told v (omega arith) (gap slash n ++ (tail ++ rest)) (stop_slash n tail rest st (joined_none slash text n (suc v))) T w _)
        (λ q. parted_told n slash (tail ++ rest) l U _
        ∙ ap (λ (y : ℕ). class_lists m n y (tail ++ rest) l U k) (add-one v)
        ∙ lists_told n (suc v) (omega arith) U (ready_next v T w) k)

    -- and at their end not too many abstract states
    pub classes_of_map : (T : Tables) → Ready τ T
        → Told (map_classes m) (map_text τ m) rest l T
        (each (classes_fault τ m l) τ.sas.vars 0 then unless (leb (abstract_states τ.sas (view τ m)) most_states) (TooManyStates l)) (on (map_rows τ m) T)
    unfolding map_classes map_text map_rows ask ◌▸◌
    classes_of_map T w k =
        let N = τ.sas.vars in
        let U = on (map_rows τ m) T in
        let known = (ready_map τ m T w).0 in
        let few : Tables → Bool = λ X. leb (abstract_states (sas_of X) (view (task_of X) m)) most_states in
        let go : Rest = λ u i X. ask (λ Y. demand (few Y) TooManyStates) u i X k in
        let states : abstract_states (sas_of U) (view (task_of U) m) ≡ abstract_states τ.sas (view τ m) =
        ap (size (view (task_of U) m).classes) w.0.vars ∙ size_same (view (task_of U) m).classes (view τ m).classes N
        (λ v h. ap (count_of (class_at U.facts m v)) (known.doms v h) ∙ count_same (class_at U.facts m v) (τ.class m v) (τ.sas.dom v) (λ x g. map_class τ s m v x a h g T.facts w.1)) in
        next (each (classes_fault τ m l) N 0) (unless (leb (abstract_states τ.sas (view τ m)) most_states) (TooManyStates l)) _
        (ap (λ (n : ℕ). class_lists m n 0 (map_text τ m ++ rest) l T go) w.0.vars ∙ lists_told N 0 (omega arith) T w go)
        (λ q. asked_told few TooManyStates _ rest l U k (ap (λ (n : ℕ). leb n most_states) states))
