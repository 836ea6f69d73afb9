-- Back from an accepted text: it spells a task. Line by line: each line read is the spelling of what it leaves, and what follows is an accepted text too.
-- Assumes nothing.
use Prim.Native.String.{String}
use Prim.Native.Nat.{ℕ, zero, suc, ◌+◌, ◌≤◌}
use native.Mathlib.Omega.{arith}
use mathlib.Core.Path.{◌≡◌, refl, sym, ap, ap₂, ◌∙◌}
use mathlib.Core.List.{List, [], ◌∷◌, ◌++◌}
use mathlib.Core.Bool.{true}
use lib.ListN.{length, get_or, replicate, length-replicate}
use Rattle.meaning.specs.Sas.{Facts}
use Rattle.meaning.specs.Split.{Task}
use Rattle.meaning.proofs.Facts.{by_cases}
use Rattle.tables.specs.Layout.{Tables, facts_room, costs_room, shares_room, dom_at, dom_place, init_place, goal_place, pre_place, eff_place, class_place, mark_place, share_place}
use Rattle.tables.specs.Editions.{has_quota}
use Rattle.tables.specs.Lines.{quota_lines, line_of_edition, line_of_vars, line_of_dom, line_of_init, line_of_goal, line_of_quota, line_of_ops}
use Rattle.tables.proofs.Editions.{lines_second, lines_first}
use Rattle.grammar.specs.Fields.{slash}
use Rattle.meaning.specs.Limits.{most_vars, most_values, most_ops, most_maps, most_edition, most_quota}
use Rattle.grammar.specs.Grammar.{accepted, Rest, Part, ◌▸◌, ask, keep, fits, numeral, text_line, text_lines, fact_list, put_edition, put_vars, put_quota, put_ops, put_maps, put_cost}
use Rattle.grammar.specs.Grammar.{edition_line, vars_line, dom_line, init_line, goal_line, quota_line, operator_fields, ops_line, op_lines, map_classes, maps_line, map_lines, amounts}
use Rattle.grammar.specs.Grammar.{share_lines, task_lines, settled, the_end, no_task, verdict}
use Rattle.grammar.specs.Spelling.{digits, joined, numbers, some_facts, keyed, stacked, spelled_in, op_text, map_text, share_text, spelled, changed, row_put, fact_row}
use Rattle.grammar.proofs.Editions.{ByEdition, second_reads, first_reads_nothing, second_spells, first_spells_nothing}
use Rattle.grammar.proofs.SpellTask.{made, lines_text, spelled_lines}
use Rattle.grammar.proofs.Runs.{clash, within_both}
use Rattle.grammar.proofs.SpellFacts.{on, Knows, knows_row, knows_mark, knows_facts, knows_changed}
use Rattle.grammar.proofs.SpellLines.{on_shares}
use Rattle.grammar.proofs.SpellTables.{writes_row}
use Rattle.grammar.proofs.SpellBack.{Back, BackOf, not_refused, number_back, line_back, lines_back}
use Rattle.grammar.proofs.SpellBackFacts.{facts_back}
use Rattle.grammar.proofs.SpellBackLines.{Stated, Op, op_spelled, op_stored, operator_back, map_back, amounts_back, row_back_put}

-- ---- a line with one number, in its range

abbrev Ranged : ℕ → ℕ → Type 0
Ranged least limit = (v : ℕ) × (fits v least limit ≡ true)

counted_back : (least limit : ℕ) (p : ℕ → Part) (l : ℕ) (T : Tables) (change : ℕ → Tables) → ((v : ℕ) (u : List ℕ) (k : Rest) → p v u l T k ≡ k u l (change v))
    → BackOf (Ranged least limit) (numeral least limit p) l l T (λ a. digits a.0) (λ a. change a.0)
counted_back least limit p l T change e t k W h =
    let a = number_back least limit p t l T k W h in
    record { what = (a.what, a.then.0); rest = a.rest; says = a.says; then = sym (e a.what a.rest k) ∙ a.then.1 }

count_back : (key : String) (least limit l : ℕ) (T : Tables) (change : ℕ → Tables → Tables)
    → BackOf (Ranged least limit) (text_line key (numeral least limit (λ n. keep (change n)))) l (l + 1) T (λ a. keyed key (digits a.0)) (λ a. change a.0 T)
unfolding keep
count_back key least limit l T change =
    line_back (Ranged least limit) key (numeral least limit (λ n. keep (change n))) l T (λ a. digits a.0) (λ a. change a.0 T)
    (counted_back least limit (λ n. keep (change n)) l T (λ n. change n T) (λ v u k. refl))

-- the quota: in edition 2 a line with one number; in edition 1 there is none, and it is 0
quota_back : (e l : ℕ) (T : Tables) → T.counts.edition ≡ e → T.counts.quota ≡ 0
    → BackOf (Stated e) quota_line l (l + quota_lines e) T (λ a. spelled_in e (keyed "quota=" (digits a.0))) (λ a. put_quota a.0 T)
unfolding quota_line
quota_back e l T c z t k W h =
    by_cases (has_quota e)
    (λ s.
    let a = count_back "quota=" 0 (most_quota + 1) l T put_quota t k W (sym (second_reads _ t l T k (ap has_quota c ∙ s)) ∙ h) in
    record {
      what = (a.what.0, clash s);
      rest = a.rest;
      says = a.says ∙ ap (λ (y : List ℕ). y ++ a.rest) (sym (second_spells e _ s));
      then = ap (λ (n : ℕ). k a.rest (l + n) (put_quota a.what.0 T)) (lines_second e s) ∙ a.then;
    })
    (λ f.
    let same : l + quota_lines e ≡ l = omega (arith, lines_first e f) in
    record {
      what = (0, λ y. refl);
      rest = t;
      says = ap (λ (y : List ℕ). y ++ t) (sym (first_spells_nothing e _ f));
      then = ap₂ (λ (m q : ℕ). k t m (put_quota q T)) same (sym z) ∙ sym (first_reads_nothing _ t l T k (ap has_quota c ∙ f)) ∙ h;
    })

-- what is kept by each change is kept by all
kept : (P : Tables → Type 0) (g : ℕ → Tables → Tables) → ((j : ℕ) (T : Tables) → P T → P (g j T)) → (n i : ℕ) (T : Tables) → P T → P (changed g n i T)
unfolding changed
kept P g h zero i T p = p
kept P g h (suc n) i T p = kept P g h n (suc i) (g i T) (h i T p)

-- ---- the lines of one kind

module _ (N : ℕ) (dom : ℕ → ℕ) where
  module _ (e : ℕ) where
    abbrev ops_spelled : ℕ → (ℕ → Op e) → List ℕ
    ops_spelled O op = stacked (λ o. keyed "op=" (op_spelled e N (op o))) O 0

    -- the tables know the variables, and that this is the edition
    abbrev KnowsIn : Tables → Type 0
    KnowsIn T = Knows N dom T × (T.counts.edition ≡ e)

    knows_stored : (o : ℕ) (a : Op e) (T : Tables) → KnowsIn T → KnowsIn (op_stored e N o a T)
    knows_stored o a T w = (
      knows_mark _ e (mark_place o) a.mark.0 (omega arith)
          (knows_facts (eff_place o) a.eff (λ v. omega arith) N _
          (knows_facts (pre_place o) a.pre (λ v. omega arith) N (put_cost o a.cost T) (record { vars = w.0.vars; few = w.0.few; doms = w.0.doms }))),
      w.1,
    )

    all_ops_back : (O l : ℕ) (T : Tables) → KnowsIn T → T.counts.ops ≡ O
        → BackOf (ℕ → Op e) op_lines l (l + O) T (ops_spelled O) (λ op. changed (λ o. op_stored e N o (op o)) O 0 T)
    unfolding op_lines ask
    all_ops_back O l T w a t k W h =
        lines_back (Op e) (record { cost = 0; pre = λ v. 0; eff = λ v. 0; mark = (0, λ z. refl) }) (λ o. text_line "op=" (operator_fields o)) (λ o b. keyed "op=" (op_spelled e N b))
        (op_stored e N) KnowsIn knows_stored
        (λ o i U u. line_back (Op e) "op=" (operator_fields o) i U (op_spelled e N) (λ b. op_stored e N o b U) (operator_back e N o i U u.0.vars u.1)) O 0 l T w t k W
        (ap (λ (x : ℕ). text_lines (λ o. text_line "op=" (operator_fields o)) x 0 t l T k) (sym a) ∙ h)

  abbrev map_spelled : (ℕ → ℕ → ℕ) → List ℕ
  map_spelled c = joined slash (λ u. numbers (c u) (dom u)) N 0

  abbrev maps_spelled : ℕ → (ℕ → ℕ → ℕ → ℕ) → List ℕ
  maps_spelled M class = stacked (λ m. keyed "map=" (map_spelled (class m))) M 0

  abbrev map_stored : ℕ → (ℕ → ℕ → ℕ) → Tables → Tables
  map_stored m c = on (changed (λ v. row_put (class_place m v) (c v) (dom v)) N 0)

  knows_map : (m : ℕ) (c : ℕ → ℕ → ℕ) (T : Tables) → Knows N dom T → Knows N dom (map_stored m c T)
  knows_map m c T w = knows_changed (λ v. row_put (class_place m v) (c v) (dom v)) (λ v X. knows_row (class_place m v) (c v) (λ j. omega arith) (dom v) X) N 0 T w

  all_maps_back : (M l : ℕ) (T : Tables) → Knows N dom T → T.counts.maps ≡ M
      → BackOf (ℕ → ℕ → ℕ → ℕ) map_lines l (l + M) T (maps_spelled M) (λ class. changed (λ m. map_stored m (class m)) M 0 T)
  unfolding map_lines ask
  all_maps_back M l T w b t k W h =
      lines_back (ℕ → ℕ → ℕ) (λ v x. 0) (λ m. text_line "map=" (map_classes m)) (λ m c. keyed "map=" (map_spelled c)) map_stored (Knows N dom) knows_map
      (λ m i U u. line_back (ℕ → ℕ → ℕ) "map=" (map_classes m) i U map_spelled (λ c. map_stored m c U) (map_back m N dom i U u)) M 0 l T w t k W
      (ap (λ (y : ℕ). text_lines (λ m. text_line "map=" (map_classes m)) y 0 t l T k) (sym b) ∙ h)

abbrev shares_spelled : ℕ → ℕ → (ℕ → ℕ → ℕ) → List ℕ
shares_spelled O M share = stacked (λ m. keyed "share=" (share_text (share m) O)) M 0

all_shares_back : (O M l : ℕ) (T : Tables) → T.counts.ops ≡ O → T.counts.maps ≡ M
    → BackOf (ℕ → ℕ → ℕ) share_lines l (l + M) T (shares_spelled O M) (λ share. changed (λ m. on_shares (row_put (share_place m) (share m) O)) M 0 T)
unfolding share_lines ask
all_shares_back O M l T a b t k W h =
    lines_back (ℕ → ℕ) (λ o. 0) (λ m. text_line "share=" (amounts m O)) (λ m f. keyed "share=" (share_text f O)) (λ m f. on_shares (row_put (share_place m) f O)) (λ U. Unit {0}) (λ i f U u. tt)
    (λ m i U u. line_back (ℕ → ℕ) "share=" (amounts m O) i U (λ f. share_text f O) (λ f. on_shares (row_put (share_place m) f O) U) (amounts_back m O i U)) M 0 l T tt t k W
    (ap₂ (λ (x y : ℕ). text_lines (λ m. text_line "share=" (amounts m x)) y 0 t l T k) (sym a) (sym b) ∙ h)

end_back : (t : List ℕ) (l : ℕ) (T W : Tables) → the_end t l T ≡ accepted W → t ≡ []
unfolding the_end settled
end_back [] l T W h = refl
end_back (b ∷ t) l T W h = not_refused h

-- ---- the whole text

-- what was read, and then what follows it
onto : {A R : Type 0} {text : A → List ℕ} {t : List ℕ} {go : A → List ℕ → Type 0} → Back A text t go → ((a : A) (u : List ℕ) → t ≡ text a ++ u → go a u → R) → R
onto b more = more b.what b.rest b.says b.then

-- a task put together from what was read
abbrev task : (e N : ℕ) → (ℕ → ℕ) → (ℕ → ℕ) → Facts → ℕ → ℕ → (ℕ → Op e) → ℕ → (ℕ → ℕ → ℕ → ℕ) → (ℕ → ℕ → ℕ) → Task
task e N dom init goal q O op M class share =
    record {
      sas = record { vars = N; dom = dom; init = init; goal = goal; ops = O; cost = λ i. (op i).cost; pre = λ i. (op i).pre; eff = λ i. (op i).eff };
      maps = M;
      class = class;
      share = share;
      edition = e;
      quota = q;
      mark = λ i. (op i).mark.0;
    }

known_doms : (f : List ℕ) → length f ≡ facts_room → (N : ℕ) (dom : ℕ → ℕ) (T : Tables) → T.facts ≡ f → T.counts.vars ≡ N → N ≤ most_vars → Knows N dom (on (row_put dom_place dom N) T)
known_doms f lf N dom T e c h =
    record {
      vars = c;
      few = h;
      doms = λ v l. ap (λ (w : List ℕ). get_or (row_put dom_place dom N w) (dom_place v) 0) e ∙ writes_row dom_place dom N v l (λ k q. omega arith) f (omega arith);
    }

-- the quota is read: from ops= on
module _ (e N : ℕ) (dom : ℕ → ℕ) (T W : Tables) (w : KnowsIn N dom e T) where
  ops_back : {R : Type 0} (l : ℕ) (t : List ℕ) → (ops_line ▸ op_lines ▸ maps_line ▸ map_lines ▸ share_lines) t l T the_end ≡ accepted W
      → ((O : ℕ) (op : ℕ → Op e) (M : ℕ) (class : ℕ → ℕ → ℕ → ℕ) (share : ℕ → ℕ → ℕ) (u₁ u₂ u₃ u₄ u : List ℕ) → t ≡ keyed "ops=" (digits O) ++ u₁ → u₁ ≡ ops_spelled N dom e O op ++ u₂
      → u₂ ≡ keyed "maps=" (digits M) ++ u₃ → u₃ ≡ maps_spelled N dom M class ++ u₄ → u₄ ≡ shares_spelled O M share ++ u → u ≡ [] → R) → R
  unfolding ops_line maps_line ◌▸◌
  ops_back l t h more =
      onto (count_back "ops=" 0 (most_ops + 1) l T put_ops t _ W h)
      (λ o u₁ p₁ h₁.
      let T₁ = put_ops o.0 T in
      let w₁ : KnowsIn N dom e T₁ = (record { vars = w.0.vars; few = w.0.few; doms = w.0.doms }, w.1) in
      onto (all_ops_back N dom e o.0 (l + 1) T₁ w₁ refl u₁ _ W h₁)
      (λ op u₂ p₂ h₂.
      let P : Tables → Type 0 = λ U. KnowsIn N dom e U × (U.counts.ops ≡ o.0) in
      let q = kept P (λ i. op_stored e N i (op i)) (λ i U u. (knows_stored N dom e i (op i) U u.0, u.1)) o.0 0 T₁ (w₁, refl) in
      onto (count_back "maps=" 1 (most_maps + 1) _ _ put_maps u₂ _ W h₂)
      (λ m u₃ p₃ h₃.
      let T₃ = put_maps m.0 (changed (λ i. op_stored e N i (op i)) o.0 0 T₁) in
      onto (all_maps_back N dom m.0 _ T₃ (record { vars = q.0.0.vars; few = q.0.0.few; doms = q.0.0.doms }) refl u₃ _ W h₃)
      (λ class u₄ p₄ h₄.
      let s = kept (λ U. (U.counts.ops ≡ o.0) × (U.counts.maps ≡ m.0)) (λ i. map_stored N dom i (class i)) (λ i U u. u) m.0 0 T₃ (q.1, refl) in
      onto (all_shares_back o.0 m.0 _ _ s.0 s.1 u₄ the_end W h₄)
      (λ share u p h₅. more o.0 op m.0 class share u₁ u₂ u₃ u₄ u p₁ p₂ p₃ p₄ p (end_back u _ _ W h₅))))))

-- the task that a text spells, as its edition has it
abbrev pub Spelt : List ℕ → Type 0
Spelt x = (τ : Task) × (x ≡ spelled τ) × ByEdition τ

text_back : (f c s : List ℕ) → length f ≡ facts_room → (W : Tables) (x : List ℕ) → task_lines x line_of_edition (made 0 0 0 0 0 f c s) the_end ≡ accepted W → Spelt x
unfolding task_lines edition_line vars_line dom_line init_line goal_line ◌▸◌ op_text map_text
text_back f c s lf W x h =
    onto (count_back "edition=" 1 (most_edition + 1) line_of_edition (made 0 0 0 0 0 f c s) put_edition x _ W h)
    (λ a u₁ p₁ h₁.
    let e = a.0 in
    onto (count_back "vars=" 1 (most_vars + 1) line_of_vars (made 0 0 0 e 0 f c s) put_vars u₁ _ W h₁)
    (λ b u₂ p₂ h₂.
    let N = b.0 in
    let n : N ≤ most_vars = let r = within_both N 1 (most_vars + 1) b.1 in omega arith in
    let T₂ = made N 0 0 e 0 f c s in
    onto (line_back (ℕ → ℕ) "dom=" _ line_of_dom T₂ (λ d. numbers d N) (λ d. on (row_put dom_place d N) T₂)
    (row_back_put 1 (λ v U. most_values + 1) dom_place (λ U. U.counts.vars) N line_of_dom T₂ refl) u₂ _ W h₂)
    (λ dom u₃ p₃ h₃.
    let T₃ = on (row_put dom_place dom N) T₂ in
    let w = known_doms f lf N dom T₂ refl refl n in
    onto (line_back (ℕ → ℕ) "init=" _ line_of_init T₃ (λ d. numbers d N) (λ d. on (row_put init_place d N) T₃)
    (row_back_put 0 (λ v U. dom_at U.facts v) init_place (λ U. U.counts.vars) N line_of_init T₃ refl) u₃ _ W h₃)
    (λ init u₄ p₄ h₄.
    let T₄ = on (row_put init_place init N) T₃ in
    let w₄ = knows_row init_place init (λ v. omega arith) N T₃ w in
    onto (line_back Facts "goal=" (fact_list goal_place) line_of_goal T₄ (λ F. some_facts F N 0) (λ F. on (fact_row goal_place F N) T₄) (facts_back goal_place N line_of_goal T₄ refl) u₄ _ W h₄)
    (λ goal u₅ p₅ h₅.
    let T₅ = on (fact_row goal_place goal N) T₄ in
    let w₅ = knows_facts goal_place goal (λ v. omega arith) N T₄ w₄ in
    onto (quota_back e line_of_quota T₅ refl refl u₅ _ W h₅)
    (λ q u₆ p₆ h₆.
    ops_back e N dom (put_quota q.0 T₅) W (record { vars = w₅.vars; few = w₅.few; doms = w₅.doms }, refl) (line_of_ops e) u₆ h₆
    (λ O op M class share v₁ v₂ v₃ v₄ v q₁ q₂ q₃ q₄ q₅ q₆.
    let τ = task e N dom init goal q.0 O op M class share in
    let all : x ≡ lines_text τ = cc in
    (τ, all ∙ sym (spelled_lines τ), record { quota = q.1; mark = λ o. (op o).mark.1 }))))))))

-- AN ACCEPTED TEXT SPELLS A TASK
pub accepted_task : (x : List ℕ) (W : Tables) → verdict x ≡ accepted W → Spelt x
unfolding verdict no_task
accepted_task x W h = text_back (replicate facts_room 0) (replicate costs_room 0) (replicate shares_room 0) (length-replicate {A = ℕ} facts_room 0) W x h
