-- Back from an accepted line: each line of the text is the spelling of the numbers that it leaves in the tables.
-- Its parts one after another, each by its own way back. Assumes nothing.
use Prim.Native.Nat.{ℕ, zero, suc, ◌+◌, ◌<◌}
use native.Mathlib.Omega.{arith}
use native.Mathlib.Numerals.{add-one}
use mathlib.Core.Path.{◌≡◌, refl, sym, ap, ◌∙◌}
use mathlib.Core.List.{List, [], ◌∷◌, ◌++◌, append_assoc}
use mathlib.Core.Bool.{Bool, not}
use lib.Dec.{leb}
use lib.ListN.{set}
use Rattle.refusals.specs.declared.Refusal.{Refusal}
use Rattle.refusals.specs.declared.Refusal.TheVariants.{ClassMissing, TooManyStates, IdleOperator}
use Rattle.meaning.specs.Sas.{Facts}
use Rattle.meaning.specs.Views.{abstract_states, idle}
use Rattle.meaning.specs.Split.{view}
use Rattle.tables.specs.Task.{sas_of, task_of}
use Rattle.tables.specs.Classes.{none_missing}
use Rattle.tables.specs.Layout.{Tables, dom_at, class_at, pre_place, eff_place, class_place, mark_place, share_place}
use Rattle.tables.specs.Editions.{has_quota}
use Rattle.grammar.specs.Fields.{dash, slash, semicolon}
use Rattle.meaning.specs.Limits.{most_cost, most_states, most_mark}
use Rattle.meaning.proofs.Facts.{by_cases}
use Rattle.grammar.specs.Grammar.{accepted, Rest, Part, ◌▸◌, nothing, ask, keep, demand, number_row, put_fact, put_cost, put_share}
use Rattle.grammar.specs.Grammar.{mark_field, operator_fields, class_list, class_lists, map_classes, amounts}
use Rattle.grammar.specs.Spelling.{digits, joined, numbers, some_facts, spelled_in, share_text, changed, row_put, fact_row, mark_put}
use Rattle.grammar.proofs.Editions.{OnlySecond, second_reads, first_reads_nothing, second_spells, first_spells_nothing, second_put, first_put}
use Rattle.grammar.proofs.Runs.{clash}
use Rattle.grammar.proofs.SpellParts.{joined_none}
use Rattle.grammar.proofs.SpellFacts.{on, on_changed, Knows, knows_row}
use Rattle.grammar.proofs.SpellLines.{on_shares, shares_changed}
use Rattle.grammar.proofs.SpellBack.{BackOf, demand_back, lit_back, number_back, parted_back, row_back, at, joined_at, changed_at}
use Rattle.grammar.proofs.SpellBackFacts.{facts_back}

-- ---- a row of numbers in their places

pub row_back_put : (least : ℕ) (limit : ℕ → Tables → ℕ) (place : ℕ → ℕ) (count : Tables → ℕ) (N l : ℕ) (T : Tables) → count T ≡ N
    → BackOf (ℕ → ℕ) (ask (λ U. number_row least limit (λ i x. put_fact (place i) x) (count U) 0)) l l T (λ f. numbers f N) (λ f. on (row_put place f N) T)
unfolding ask numbers row_put
row_back_put least limit place count N l T e t k W h =
    let part : ℕ → Part = λ n. number_row least limit (λ i x. put_fact (place i) x) n 0 in
    let a = row_back least limit (λ i x. put_fact (place i) x) N 0 l T t k W (ap (λ (n : ℕ). part n t l T k) (sym e) ∙ h) in
    record {
      what = a.what;
      rest = a.rest;
      says = a.says;
      then = ap (k a.rest l) (sym (on_changed (λ i w. set w (place i) (a.what i)) N 0 T)) ∙ a.then;
    }

-- what is demanded of the tables so far
asked_back : (test : Tables → Bool) (r : ℕ → Refusal) (t : List ℕ) (l : ℕ) (T : Tables) (k : Rest) (W : Tables) → ask (λ U. demand (test U) r) t l T k ≡ accepted W → k t l T ≡ accepted W
unfolding ask
asked_back test r t l T k W h = (demand_back (test T) r t l T k W h).1

-- ---- a map

module _ (m N : ℕ) (dom : ℕ → ℕ) where
  abbrev classes_put : ℕ → (ℕ → ℕ) → List ℕ → List ℕ
  classes_put v c = row_put (class_place m v) c (dom v)

  classes_back : (v : ℕ) → v < N → (l : ℕ) (T : Tables) → Knows N dom T
      → BackOf (ℕ → ℕ) (class_list m v) l l T (λ c. numbers c (dom v)) (λ c. on (classes_put v c) T)
  unfolding class_list ◌▸◌
  classes_back v e l T w t k W h =
      let a = row_back_put 0 (λ x U. dom_at U.facts v) (class_place m v) (λ U. dom_at U.facts v) (dom v) l T (w.doms v e) t _ W h in
      record { what = a.what; rest = a.rest; says = a.says; then = asked_back (λ U. none_missing (class_at U.facts m v) (dom_at U.facts v)) ClassMissing a.rest l _ k W a.then }

  lists_back : (n v : ℕ) → v + n ≡ N → (l : ℕ) (T : Tables) → Knows N dom T
      → BackOf (ℕ → ℕ → ℕ) (class_lists m n v) l l T (λ c. joined slash (λ u. numbers (c u) (dom u)) n v) (λ c. on (changed (λ u. classes_put u (c u)) n v) T)
  unfolding class_lists changed nothing ◌▸◌
  lists_back zero v e l T w t k W h = record { what = λ u j. 0; rest = t; says = ap (λ (y : List ℕ). y ++ t) (sym (joined_none slash _ 0 v refl)); then = h }
  lists_back (suc n) v e l T w t k W h =
      let a = classes_back v (omega arith) l T w t _ W h in
      let c = a.what in
      let U = on (classes_put v c) T in
      let b = parted_back n slash l U a.rest _ W a.then in
      let r = lists_back n (suc v) (omega arith) l U (knows_row (class_place m v) c (λ j. omega arith) (dom v) T w) b.rest k W
      (ap (λ (y : ℕ). class_lists m n y b.rest l U k) (sym (add-one v)) ∙ b.then) in
      record {
        what = at v c r.what;
        rest = r.rest;
        says = joined_at v c r.what n slash (λ u c. numbers c (dom u)) t a.rest b.rest r.rest a.says b.says r.says;
        then = ap (λ (x : List ℕ). k r.rest l (on (λ y. x) T)) (sym (changed_at v c r.what n classes_put T.facts)) ∙ r.then;
      }

  pub map_back : (l : ℕ) (T : Tables) → Knows N dom T
      → BackOf (ℕ → ℕ → ℕ) (map_classes m) l l T (λ c. joined slash (λ u. numbers (c u) (dom u)) N 0) (λ c. on (changed (λ u. classes_put u (c u)) N 0) T)
  unfolding map_classes ask ◌▸◌
  map_back l T w t k W h =
      let few : Tables → Bool = λ U. leb (abstract_states (sas_of U) (view (task_of U) m)) most_states in
      let go : Rest = λ u i U. ask (λ X. demand (few X) TooManyStates) u i U k in
      let a = lists_back N 0 (omega arith) l T w t go W (ap (λ (n : ℕ). class_lists m n 0 t l T go) (sym w.vars) ∙ h) in
      record {
        what = a.what;
        rest = a.rest;
        says = a.says;
        then = asked_back few TooManyStates a.rest l _ k W a.then;
      }

-- ---- what edition 2 alone has: read there, and else 0

abbrev pub Stated : ℕ → Type 0
Stated e = (x : ℕ) × OnlySecond e x

mark_back : (e o l : ℕ) (T : Tables) → T.counts.edition ≡ e
    → BackOf (Stated e) (mark_field o) l l T (λ a. spelled_in e (semicolon ∷ digits a.0)) (λ a. on (mark_put e (mark_place o) a.0) T)
unfolding mark_field ◌▸◌ keep
mark_back e o l T c t k W h =
    by_cases (has_quota e)
    (λ s.
    let a = lit_back (semicolon ∷ []) l T t _ W (sym (second_reads _ t l T k (ap has_quota c ∙ s)) ∙ h) in
    let b = number_back 0 (most_mark + 1) _ a.rest l T k W a.then in
    let x = b.what in
    record {
      what = (x, clash s);
      rest = b.rest;
      says = a.says ∙ ap (λ (y : List ℕ). semicolon ∷ y) b.says ∙ ap (λ (y : List ℕ). y ++ b.rest) (sym (second_spells e (semicolon ∷ digits x) s));
      then = ap (λ (w : List ℕ). k b.rest l (on (λ y. w) T)) (second_put e (mark_place o) x T.facts s) ∙ b.then.1;
    })
    (λ f.
    record {
      what = (0, λ z. refl);
      rest = t;
      says = ap (λ (y : List ℕ). y ++ t) (sym (first_spells_nothing e (semicolon ∷ digits 0) f));
      then = ap (λ (w : List ℕ). k t l (on (λ y. w) T)) (first_put e (mark_place o) 0 T.facts f) ∙ sym (first_reads_nothing _ t l T k (ap has_quota c ∙ f)) ∙ h;
    })

-- ---- an operator

pub record Op (e : ℕ) : Type 0 where
  pub cost : ℕ
  pub pre : Facts
  pub eff : Facts
  pub mark : Stated e

module _ (e N : ℕ) where
  abbrev pub op_spelled : Op e → List ℕ
  op_spelled a =
      digits a.cost ++ semicolon ∷ some_facts a.pre N 0 ++ semicolon ∷ some_facts a.eff N 0 ++ spelled_in e (semicolon ∷ digits a.mark.0)

  abbrev pub op_stored : ℕ → Op e → Tables → Tables
  op_stored o a T =
      on (λ w. mark_put e (mark_place o) a.mark.0 (fact_row (eff_place o) a.eff N (fact_row (pre_place o) a.pre N w))) (put_cost o a.cost T)

  -- six pieces one after another
  pieces : (a b c d t u₁ u₂ u₃ u₄ u₅ u : List ℕ) → t ≡ a ++ u₁ → u₁ ≡ semicolon ∷ u₂ → u₂ ≡ b ++ u₃ → u₃ ≡ semicolon ∷ u₄ → u₄ ≡ c ++ u₅ → u₅ ≡ d ++ u
      → t ≡ (a ++ semicolon ∷ b ++ semicolon ∷ c ++ d) ++ u
  pieces a b c d t u₁ u₂ u₃ u₄ u₅ u p q r v w x =
      let z : t ≡ a ++ (semicolon ∷ (b ++ (semicolon ∷ (c ++ (d ++ u))))) = cc in
      z ∙ simp append_assoc

  pub operator_back : (o l : ℕ) (T : Tables) → T.counts.vars ≡ N → T.counts.edition ≡ e → BackOf (Op e) (operator_fields o) l l T op_spelled (λ a. op_stored o a T)
  unfolding operator_fields ◌▸◌ nothing keep
  operator_back o l T n z t k W h =
      let a = number_back 0 (most_cost + 1) (λ c. keep (put_cost o c)) t l T _ W h in
      let T₁ = put_cost o a.what T in
      let b = lit_back (semicolon ∷ []) l T₁ a.rest _ W a.then.1 in
      let c = facts_back (pre_place o) N l T₁ n b.rest _ W b.then in
      let T₂ = on (fact_row (pre_place o) c.what N) T₁ in
      let d = lit_back (semicolon ∷ []) l T₂ c.rest _ W c.then in
      let f = facts_back (eff_place o) N l T₂ n d.rest _ W d.then in
      let g = mark_back e o l (on (fact_row (eff_place o) f.what N) T₂) z f.rest _ W f.then in
      record {
        what = record { cost = a.what; pre = c.what; eff = f.what; mark = g.what };
        rest = g.rest;
        says =
            pieces (digits a.what) (some_facts c.what N 0) (some_facts f.what N 0) (spelled_in e (semicolon ∷ digits g.what.0)) t a.rest b.rest c.rest d.rest
            f.rest g.rest a.says b.says c.says d.says f.says g.says;
        then = asked_back (λ U. not (idle (sas_of U) o)) IdleOperator g.rest l _ k W g.then;
      }

-- ---- shares

pub amounts_back : (m n l : ℕ) (T : Tables) → BackOf (ℕ → ℕ) (amounts m n) l l T (λ f. share_text f n) (λ f. on_shares (row_put (share_place m) f n) T)
unfolding amounts share_text row_put numbers changed
amounts_back m zero l T t k W h =
    let a = lit_back (dash ∷ []) l T t k W h in
    record { what = λ j. 0; rest = a.rest; says = a.says; then = a.then }
amounts_back m (suc n) l T t k W h =
    let a = row_back 0 (λ o U. most_cost + 1) (λ o x. put_share (share_place m o) x) (suc n) 0 l T t k W h in
    record {
      what = a.what;
      rest = a.rest;
      says = a.says;
      then = ap (k a.rest l) (sym (shares_changed (λ o x. set x (share_place m o) (a.what o)) (suc n) 0 T)) ∙ a.then;
    }
