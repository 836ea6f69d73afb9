-- Each line of the text on what is spelled: what the scan says of the same numbers, and the numbers in their places.
-- Each line's parts one after another; a range is the same test in both. Assumes nothing.
use Prim.Native.String.{String}
use Prim.Native.Nat.{ℕ, zero, suc, ◌+◌, ◌<◌}
use native.Mathlib.Omega.{arith}
use mathlib.Core.Path.{◌≡◌, refl, sym, ap, ap₂, ◌∙◌}
use mathlib.Core.List.{List, [], ◌∷◌, ◌++◌}
use mathlib.Core.Bool.{Bool, true, false, ◌&&◌, not, cond}
use lib.Dec.{leb, ltb, leb-suc-suc}
use lib.ListN.{set}
use Rattle.scan.specs.Found.{Found}
use Rattle.refusals.specs.declared.Refusal.TheVariants.{OutOfRange, IdleOperator}
use Rattle.meaning.specs.Views.{idle}
use Rattle.meaning.specs.Split.{Task}
use Rattle.tables.specs.Layout.{Tables, dom_at, dom_place, init_place, goal_place, share_place}
use Rattle.scan.specs.Scan.{unless, ◌then◌, each, facts_fault, operator_fault, map_fault, shares_fault, within as scanWithin}
use Rattle.scan.proofs.Walks.{then_then}
use Rattle.grammar.specs.Fields.{is_digit, line_end, dash}
use Rattle.meaning.specs.Limits.{most_values, most_cost, most_vars, most_ops, most_maps, most_edition, most_quota}
use Rattle.grammar.specs.Grammar.{Rest, Part, ◌▸◌, nothing, keep, fits, numeral, text_line, fact_list, put_edition, put_vars, put_quota}
use Rattle.grammar.specs.Grammar.{put_ops, put_maps, put_share, edition_line, vars_line, dom_line, init_line, goal_line, quota_line, ops_line, operator_fields, maps_line, map_classes, amounts}
use Rattle.grammar.specs.Spelling.{digits, numbers, some_facts, keyed, spelled_in, op_text, map_text, share_text, changed, row_put, fact_row, map_rows}
use Rattle.grammar.proofs.Editions.{ByEdition, second_reads, first_reads_nothing, second_spells, first_spells_nothing}
use Rattle.grammar.proofs.SpellParts.{judged, next, Told, ToldLine, lit_told, number_told, row_told, line_told}
use Rattle.grammar.proofs.SpellFacts.{within_below, within_most, passed, on, Knows, knows_set, Over, at_byte, over_stop, facts_told}
use Rattle.grammar.proofs.SpellOperator.{op_change, over_ended, all_fault, all_told, Fresh, not_idle, idle_told}
use Rattle.grammar.proofs.SpellMaps.{row_told_put, Ready, classes_of_map}
use Rattle.grammar.proofs.SpellOwn.{Small}
use Rattle.meaning.proofs.Facts.{by_cases}
use Rattle.tables.specs.Editions.{has_quota, read_in}
use Rattle.tables.specs.Lines.{quota_lines, line_of_op, line_of_map, line_of_shares}
use Rattle.tables.proofs.Editions.{has_read, has_none, lines_second, lines_first}

-- ---- ranges as the grammar and as the scan have them

pub within_range : (v least most : ℕ) → fits v least (suc most) ≡ scanWithin least most v
unfolding fits
within_range v least most = go (leb least v)
  where
    go : (p : Bool) → cond p (ltb v (suc most)) false ≡ p && leb v most
    go true = leb-suc-suc v most
    go false = refl

-- ---- what may follow

line_ends : (rest : List ℕ) → Over (line_end ∷ rest)
unfolding is_digit
line_ends rest = at_byte refl refl

-- ---- a line with one number

count_told : (least most v : ℕ) (p : ℕ → Part) (rest : List ℕ) (l : ℕ) (T U : Tables) (test : Bool) → fits v least (suc most) ≡ test
    → ((k : Rest) → p v (line_end ∷ rest) l T k ≡ k (line_end ∷ rest) l U) → Told (numeral least (suc most) p) (digits v) (line_end ∷ rest) l T (unless test (OutOfRange l)) U
count_told least most v p rest l T U test e h k =
    number_told least (suc most) v p (line_end ∷ rest) l T k (over_stop (line_ends rest))
    ∙ ap (judged (unless (fits v least (suc most)) (OutOfRange l))) (h k)
    ∙ ap (λ (b : Bool). judged (unless b (OutOfRange l)) (k (line_end ∷ rest) l U)) e

module _ (rest : List ℕ) (l : ℕ) (T : Tables) where
  count_line : (key : String) (least most v : ℕ) (f : ℕ → Tables → Tables) (test : Bool) → fits v least (suc most) ≡ test
      → ToldLine (text_line key (numeral least (suc most) (λ n. keep (f n)))) (keyed key (digits v)) rest l T (unless test (OutOfRange l)) (f v T)
  unfolding keep
  count_line key least most v f test e =
      line_told key (numeral least (suc most) (λ n. keep (f n))) (digits v) rest l T (f v T) (unless test (OutOfRange l))
      (count_told least most v (λ n. keep (f n)) rest l T (f v T) test e (λ k. refl))

  -- another edition than 1 and 2 is out of range
  pub edition_told : (e : ℕ) → ToldLine edition_line (keyed "edition=" (digits e)) rest l T (unless (scanWithin 1 most_edition e) (OutOfRange l)) (put_edition e T)
  unfolding edition_line
  edition_told e = count_line "edition=" 1 most_edition e put_edition (scanWithin 1 most_edition e) (within_range e 1 most_edition)

  pub vars_told : (n : ℕ) → ToldLine vars_line (keyed "vars=" (digits n)) rest l T (unless (scanWithin 1 most_vars n) (OutOfRange l)) (put_vars n T)
  unfolding vars_line
  vars_told n = count_line "vars=" 1 most_vars n put_vars (scanWithin 1 most_vars n) (within_range n 1 most_vars)

  pub ops_told : (n : ℕ) → ToldLine ops_line (keyed "ops=" (digits n)) rest l T (unless (leb n most_ops) (OutOfRange l)) (put_ops n T)
  unfolding ops_line
  ops_told n = count_line "ops=" 0 most_ops n put_ops (leb n most_ops) (within_most n most_ops)

  pub maps_told : (n : ℕ) → ToldLine maps_line (keyed "maps=" (digits n)) rest l T (unless (scanWithin 1 most_maps n) (OutOfRange l)) (put_maps n T)
  unfolding maps_line
  maps_told n = count_line "maps=" 1 most_maps n put_maps (scanWithin 1 most_maps n) (within_range n 1 most_maps)

-- ---- quota=

abbrev pub quota_text : Task → List ℕ
quota_text τ = spelled_in τ.edition (keyed "quota=" (digits τ.quota))

-- THE QUOTA: in edition 2 its line, and what follows stands in the next; in edition 1 no line at all, and its quota is 0
pub quota_told : (τ : Task) → ByEdition τ → (rest : List ℕ) (l : ℕ) (T : Tables) → T.counts.edition ≡ τ.edition → T.counts.quota ≡ 0 → (k : Rest)
    → quota_line (quota_text τ ++ rest) l T k
    ≡ judged (unless (leb τ.quota most_quota) (OutOfRange l)) (k rest (l + quota_lines τ.edition) (put_quota (read_in τ.edition τ.quota) T))
unfolding quota_line
quota_told τ by rest l T e z k =
    let q = τ.quota in
    let line = keyed "quota=" (digits q) in
    by_cases (has_quota τ.edition)
    (λ h.
    ap (λ (t : List ℕ). quota_line (t ++ rest) l T k) (second_spells τ.edition line h)
    ∙ second_reads _ (line ++ rest) l T k (ap has_quota e ∙ h)
    ∙ count_line rest l T "quota=" 0 most_quota q put_quota (leb q most_quota) (within_most q most_quota) k
    ∙ rw (lines_second τ.edition h, has_read τ.edition q h) refl)
    (λ h.
    let same : l ≡ l + quota_lines τ.edition = omega (arith, lines_first τ.edition h) in
    ap (λ (t : List ℕ). quota_line (t ++ rest) l T k) (first_spells_nothing τ.edition line h)
    ∙ first_reads_nothing _ rest l T k (ap has_quota e ∙ h)
    ∙ ap₂ (λ (m x : ℕ). k rest m (put_quota x T)) same (z ∙ sym (has_none τ.edition q h))
    ∙ sym (passed (OutOfRange l) _ (ap (λ (x : ℕ). leb x most_quota) (by.quota h))))

-- ---- dom=, init= and goal=

module _ (τ : Task) (rest : List ℕ) (l : ℕ) (T : Tables) where
  pub dom_told : T.counts.vars ≡ τ.sas.vars
      → ToldLine dom_line (keyed "dom=" (numbers τ.sas.dom τ.sas.vars)) rest l T (each (λ v. unless (scanWithin 1 most_values (τ.sas.dom v)) (OutOfRange l)) τ.sas.vars 0)
      (on (row_put dom_place τ.sas.dom τ.sas.vars) T)
  unfolding dom_line
  dom_told e =
      line_told "dom=" _ (numbers τ.sas.dom τ.sas.vars) rest l T _ (each (λ v. unless (scanWithin 1 most_values (τ.sas.dom v)) (OutOfRange l)) τ.sas.vars 0)
      (row_told_put 1 (λ v U. most_values + 1) dom_place τ.sas.dom (λ v. scanWithin 1 most_values (τ.sas.dom v)) (λ U. Unit {0}) τ.sas.vars
      (λ i U h p. tt) (λ i U h p. within_range (τ.sas.dom i) 1 most_values) (λ U. U.counts.vars) (line_end ∷ rest) (over_stop (line_ends rest)) l T e tt)

  pub init_told : Knows τ.sas.vars τ.sas.dom T
      → ToldLine init_line (keyed "init=" (numbers τ.sas.init τ.sas.vars)) rest l T (each (λ v. unless (ltb (τ.sas.init v) (τ.sas.dom v)) (OutOfRange l)) τ.sas.vars 0)
      (on (row_put init_place τ.sas.init τ.sas.vars) T)
  unfolding init_line
  init_told w =
      line_told "init=" _ (numbers τ.sas.init τ.sas.vars) rest l T _ (each (λ v. unless (ltb (τ.sas.init v) (τ.sas.dom v)) (OutOfRange l)) τ.sas.vars 0)
      (row_told_put 0 (λ v U. dom_at U.facts v) init_place τ.sas.init (λ v. ltb (τ.sas.init v) (τ.sas.dom v)) (Knows τ.sas.vars τ.sas.dom) τ.sas.vars
      (λ i U h p. knows_set U (init_place i) (τ.sas.init i) (omega arith) p) (λ i U h p. within_below (τ.sas.init i) (dom_at U.facts i) ∙ ap (ltb (τ.sas.init i)) (p.doms i h))
      (λ U. U.counts.vars) (line_end ∷ rest) (over_stop (line_ends rest)) l T w.vars w)

  pub goal_told : Knows τ.sas.vars τ.sas.dom T
      → ToldLine goal_line (keyed "goal=" (some_facts τ.sas.goal τ.sas.vars 0)) rest l T (facts_fault τ τ.sas.goal l) (on (fact_row goal_place τ.sas.goal τ.sas.vars) T)
  unfolding goal_line facts_fault
  goal_told w =
      line_told "goal=" (fact_list goal_place) (some_facts τ.sas.goal τ.sas.vars 0) rest l T _ (facts_fault τ τ.sas.goal l)
      (facts_told goal_place (λ v. omega arith) τ.sas.goal τ.sas.dom τ.sas.vars (line_end ∷ rest) (line_ends rest) l T w)

-- ---- op=cost;preconditions;effects, in edition 2 with ;mark

module _ (τ : Task) (by : ByEdition τ) (o : ℕ) (T : Tables) (w : Fresh τ o T) (rest : List ℕ) where
  operator_told : Told (operator_fields o) (op_text τ o) (line_end ∷ rest) (line_of_op τ.edition o) T (operator_fault τ o) (op_change τ o T)
  unfolding operator_fields operator_fault ◌▸◌ nothing
  operator_told k =
      let l = line_of_op τ.edition o in
      let busy = unless (not (idle τ.sas o)) (IdleOperator l) in
      let e : all_fault τ o l then busy ≡ operator_fault τ o = simp then_then in
      next (all_fault τ o l) busy _
      (all_told τ o by l T w.known w.edition (line_end ∷ rest) (over_ended τ o (line_ends rest)) (λ t m U. not_idle o t m U k))
      (λ c. idle_told τ o T w (line_end ∷ rest) l k)
      ∙ ap (λ (f : Found). judged f (k (line_end ∷ rest) l (op_change τ o T))) e

  pub op_told : ToldLine (text_line "op=" (operator_fields o)) (keyed "op=" (op_text τ o)) rest (line_of_op τ.edition o) T (operator_fault τ o) (op_change τ o T)
  op_told = line_told "op=" (operator_fields o) (op_text τ o) rest (line_of_op τ.edition o) T (op_change τ o T) (operator_fault τ o) operator_told

-- ---- map=

pub map_told : (τ : Task) → Small τ → (m : ℕ) → m < τ.maps → (T : Tables) → Ready τ T → (rest : List ℕ)
    → ToldLine (text_line "map=" (map_classes m)) (keyed "map=" (map_text τ m)) rest (line_of_map τ.edition τ.sas.ops m) T (map_fault τ m) (on (map_rows τ m) T)
unfolding map_fault
map_told τ s m a T w rest =
    line_told "map=" (map_classes m) (map_text τ m) rest (line_of_map τ.edition τ.sas.ops m) T (on (map_rows τ m) T) (map_fault τ m)
    (classes_of_map τ s m a (line_of_map τ.edition τ.sas.ops m) (line_end ∷ rest) (over_stop (line_ends rest)) T w)

-- ---- share=

abbrev pub on_shares : (List ℕ → List ℕ) → Tables → Tables
on_shares g T = record { counts = T.counts; facts = T.facts; costs = T.costs; shares = g T.shares }

pub shares_changed : (g : ℕ → List ℕ → List ℕ) (n i : ℕ) (T : Tables) → changed (λ j. on_shares (g j)) n i T ≡ on_shares (changed g n i) T
unfolding changed
shares_changed g zero i T = refl
shares_changed g (suc n) i T = shares_changed g n (suc i) (on_shares (g i) T)

amounts_told : (share : ℕ → ℕ) (m n : ℕ) (rest : List ℕ) (l : ℕ) (T : Tables)
    → Told (amounts m n) (share_text share n) (line_end ∷ rest) l T (each (λ o. unless (leb (share o) most_cost) (OutOfRange l)) n 0) (on_shares (row_put (share_place m) share n) T)
unfolding amounts share_text row_put numbers each changed
amounts_told share m zero rest l T k = lit_told (dash ∷ []) (line_end ∷ rest) l T k
amounts_told share m (suc n) rest l T k =
    row_told 0 (λ o U. most_cost + 1) (λ o x. put_share (share_place m o) x) share (λ o. leb (share o) most_cost) (λ U. Unit {0}) (suc n)
    (λ i U h p. tt) (λ i U h p. within_most (share i) most_cost) (suc n) 0 (omega arith) (line_end ∷ rest) (over_stop (line_ends rest)) l T tt k
    ∙ ap (λ (U : Tables). judged (each (λ o. unless (leb (share o) most_cost) (OutOfRange l)) (suc n) 0) (k (line_end ∷ rest) l U))
    (shares_changed (λ o x. set x (share_place m o) (share o)) (suc n) 0 T)

pub share_told : (τ : Task) (m : ℕ) (T : Tables) (rest : List ℕ)
    → ToldLine (text_line "share=" (amounts m τ.sas.ops)) (keyed "share=" (share_text (τ.share m) τ.sas.ops)) rest (line_of_shares τ.edition τ.sas.ops τ.maps m) T (shares_fault τ m)
    (on_shares (row_put (share_place m) (τ.share m) τ.sas.ops) T)
unfolding shares_fault
share_told τ m T rest =
    line_told "share=" (amounts m τ.sas.ops) (share_text (τ.share m) τ.sas.ops) rest (line_of_shares τ.edition τ.sas.ops τ.maps m) T _ (shares_fault τ m)
    (amounts_told (τ.share m) m τ.sas.ops rest (line_of_shares τ.edition τ.sas.ops τ.maps m) T)
