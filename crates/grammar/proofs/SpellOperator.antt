-- An operator's fields on what is spelled, whatever part of the grammar comes after them: the rules of its cost, its preconditions, its effects and its mark, one
-- after another, and the numbers in their places. And what is asked at its end: its rows held 0 before, so that they hold its facts now, and the tables have it idle
-- exactly if the task does. Assumes nothing.
use Prim.Native.Nat.{ℕ, ◌+◌, ◌≤◌, ◌<◌}
use native.Mathlib.Omega.{arith}
use mathlib.Core.Path.{◌≡◌, refl, ap, ap₂, ◌∙◌}
use mathlib.Core.List.{List, [], ◌∷◌, ◌++◌}
use mathlib.Core.Bool.{true, not}
use lib.Dec.{leb}
use lib.ListN.{length}
use Rattle.scan.specs.Found.{Found}
use Rattle.refusals.specs.declared.Refusal.TheVariants.{OutOfRange, IdleOperator}
use Rattle.meaning.specs.Limits.{most_vars, most_cost, most_ops, most_mark}
use Rattle.meaning.specs.Sas.{Facts}
use Rattle.meaning.specs.Split.{Task}
use Rattle.meaning.specs.Views.{asked, every, idle}
use Rattle.meaning.proofs.Facts.{every_same, by_cases}
use Rattle.tables.specs.Layout.{Tables, facts_room, pre_place, eff_place, mark_place, pre_at, eff_at}
use Rattle.tables.specs.Editions.{has_quota}
use Rattle.tables.specs.Task.{sas_of}
use Rattle.scan.specs.Scan.{unless, ◌then◌, facts_fault}
use Rattle.grammar.specs.Fields.{is_digit, dash, semicolon}
use Rattle.grammar.specs.Grammar.{Rest, Part, ◌▸◌, nothing, ask, keep, demand, lit, choice, numeral, fact_list, put_fact, put_cost, mark_field}
use Rattle.grammar.specs.Spelling.{digits, some_facts, spelled_in, op_text, fact_row, mark_put, op_rows}
use Rattle.grammar.proofs.Editions.{ByEdition, second_reads, first_reads_nothing, second_spells, first_spells_nothing, spelled_either, second_put, first_put}
use Rattle.grammar.proofs.Runs.{Stop}
use Rattle.grammar.proofs.SpellParts.{judged, Told, both_told, asked_told, lit_told, number_told}
use Rattle.grammar.proofs.SpellFacts.{within_most, on, Knows, knows_facts, knows_mark, Over, at_byte, over_stop, facts_told}
use Rattle.grammar.proofs.SpellOwn.{fact_rows, long_op, spares_op, op_pre, op_eff}

pub semicolon_ends : (t : List ℕ) → Over (semicolon ∷ t)
unfolding is_digit
semicolon_ends t = at_byte refl refl

-- ---- the tables once its preconditions are read, and once its effects are; they say the same of the variables

abbrev pub Known : Task → Tables → Type 0
Known τ = Knows τ.sas.vars τ.sas.dom

module _ (τ : Task) (o : ℕ) where
  abbrev pub pre_change : Tables → Tables
  pre_change T = on (fact_row (pre_place o) (τ.sas.pre o) τ.sas.vars) (put_cost o (τ.sas.cost o) T)

  abbrev pub eff_change : Tables → Tables
  eff_change T = on (fact_rows τ o) (put_cost o (τ.sas.cost o) T)

  abbrev pub op_change : Tables → Tables
  op_change T = on (op_rows τ o) (put_cost o (τ.sas.cost o) T)

  known_cost : (T : Tables) → Known τ T → Known τ (put_cost o (τ.sas.cost o) T)
  known_cost T w = record { vars = w.vars; few = w.few; doms = w.doms }

  known_pre : (T : Tables) → Known τ T → Known τ (on (fact_row (pre_place o) (τ.sas.pre o) τ.sas.vars) T)
  known_pre = knows_facts (pre_place o) (τ.sas.pre o) (λ v. omega arith) τ.sas.vars

  known_facts : (T : Tables) → Known τ T → Known τ (on (fact_rows τ o) T)
  known_facts T w = knows_facts (eff_place o) (τ.sas.eff o) (λ v. omega arith) τ.sas.vars _ (known_pre T w)

  pub known_rows : (T : Tables) → Known τ T → Known τ (on (op_rows τ o) T)
  unfolding op_rows
  known_rows T w = knows_mark (on (fact_rows τ o) T) τ.edition (mark_place o) (τ.mark o) (omega arith) (known_facts T w)

-- ---- the fields, one after another

-- a list of facts after its semicolon
abbrev pub list_part : (ℕ → ℕ) → Part
list_part place = lit (semicolon ∷ []) ▸ fact_list place

list_told : (τ : Task) (place : ℕ → ℕ) → ((v : ℕ) → most_vars ≤ place v) → (F : Facts) (l : ℕ) (T : Tables) → Known τ T → (u : List ℕ) → Over u
    → Told (list_part place) (semicolon ∷ some_facts F τ.sas.vars 0) u l T (facts_fault τ F l) (on (fact_row place F τ.sas.vars) T)
unfolding ◌▸◌ facts_fault
list_told τ place high F l T w u e k =
    lit_told (semicolon ∷ []) (some_facts F τ.sas.vars 0 ++ u) l T (λ t m U. fact_list place t m U k)
    ∙ facts_told place high F τ.sas.dom τ.sas.vars u e l T w k

-- a dash there is a whole list, whatever follows it
pub dash_told : (place : ℕ → ℕ) (u : List ℕ) (l : ℕ) (T : Tables) (k : Rest) → list_part place (semicolon ∷ dash ∷ u) l T k ≡ k u l T
unfolding ◌▸◌ fact_list choice nothing
dash_told place u l T k = lit_told (semicolon ∷ []) (dash ∷ u) l T (λ t m U. fact_list place t m U k)

-- up to the preconditions, up to the effects, and up to the mark, which edition 2 has
abbrev pub pre_part : ℕ → Part
pre_part o = numeral 0 (most_cost + 1) (λ c. keep (put_cost o c)) ▸ list_part (pre_place o)

abbrev pub eff_part : ℕ → Part
eff_part o = pre_part o ▸ list_part (eff_place o)

abbrev pub mark_part : ℕ → Part
mark_part o = lit (semicolon ∷ []) ▸ numeral 0 (most_mark + 1) (λ x. keep (put_fact (mark_place o) x))

abbrev pub all_part : ℕ → Part
all_part o = eff_part o ▸ mark_field o

module _ (τ : Task) (o : ℕ) where
  abbrev pub pre_text : List ℕ
  pre_text = digits (τ.sas.cost o) ++ semicolon ∷ some_facts (τ.sas.pre o) τ.sas.vars 0

  abbrev pub eff_text : List ℕ
  eff_text = pre_text ++ semicolon ∷ some_facts (τ.sas.eff o) τ.sas.vars 0

  abbrev pub mark_text : List ℕ
  mark_text = spelled_in τ.edition (semicolon ∷ digits (τ.mark o))

  module _ (l : ℕ) where
    abbrev cost_fault : Found
    cost_fault = unless (leb (τ.sas.cost o) most_cost) (OutOfRange l)

    abbrev pub pre_fault : Found
    pre_fault = cost_fault then facts_fault τ (τ.sas.pre o) l

    abbrev pub eff_fault : Found
    eff_fault = pre_fault then facts_fault τ (τ.sas.eff o) l

    abbrev pub mark_fault : Found
    mark_fault = unless (leb (τ.mark o) most_mark) (OutOfRange l)

    abbrev pub all_fault : Found
    all_fault = eff_fault then mark_fault

    module _ (T : Tables) where
      cost_told : (u : List ℕ) → Stop u → Told (numeral 0 (most_cost + 1) (λ c. keep (put_cost o c))) (digits (τ.sas.cost o)) u l T cost_fault (put_cost o (τ.sas.cost o) T)
      unfolding keep
      cost_told u s k =
          number_told 0 (most_cost + 1) (τ.sas.cost o) (λ c. keep (put_cost o c)) u l T k s ∙ rw (within_most (τ.sas.cost o) most_cost) refl

      pub pre_told : Known τ T → (u : List ℕ) → Over u → Told (pre_part o) pre_text u l T pre_fault (pre_change τ o T)
      pre_told w u e =
          let T₁ = put_cost o (τ.sas.cost o) T in
          both_told _ (list_part (pre_place o)) (digits (τ.sas.cost o)) _ u l T T₁ _ cost_fault _ (cost_told _ (over_stop (semicolon_ends _)))
          (list_told τ (pre_place o) (λ v. omega arith) (τ.sas.pre o) l T₁ (known_cost τ o T w) u e)

      pub eff_told : Known τ T → (u : List ℕ) → Over u → Told (eff_part o) eff_text u l T eff_fault (eff_change τ o T)
      eff_told w u e =
          both_told (pre_part o) (list_part (eff_place o)) pre_text _ u l T (pre_change τ o T) _ pre_fault _ (pre_told w _ (semicolon_ends _))
          (list_told τ (eff_place o) (λ v. omega arith) (τ.sas.eff o) l (pre_change τ o T) (known_pre τ o _ (known_cost τ o T w)) u e)

    -- THE MARK: in edition 2 its rule; in edition 1 nothing is read, and its mark is 0
    pub mark_told : ByEdition τ → (T : Tables) → T.counts.edition ≡ τ.edition → (u : List ℕ) → Stop u
        → Told (mark_field o) mark_text u l T mark_fault (on (mark_put τ.edition (mark_place o) (τ.mark o)) T)
    unfolding mark_field ◌▸◌ keep
    mark_told by T e u s k =
        let x = τ.mark o in
        by_cases (has_quota τ.edition)
        (λ h.
        ap (λ (t : List ℕ). mark_field o (t ++ u) l T k) (second_spells τ.edition (semicolon ∷ digits x) h)
        ∙ second_reads (mark_part o) (semicolon ∷ (digits x ++ u)) l T k (ap has_quota e ∙ h)
        ∙ lit_told (semicolon ∷ []) (digits x ++ u) l T _
        ∙ number_told 0 (most_mark + 1) x (λ y. keep (put_fact (mark_place o) y)) u l T k s
        ∙ rw (within_most x most_mark, second_put τ.edition (mark_place o) x T.facts h) refl)
        (λ h.
        ap (λ (t : List ℕ). mark_field o (t ++ u) l T k) (first_spells_nothing τ.edition (semicolon ∷ digits x) h)
        ∙ first_reads_nothing (mark_part o) u l T k (ap has_quota e ∙ h)
        ∙ rw (first_put τ.edition (mark_place o) x T.facts h, by.mark o h) refl)

    -- in edition 2 a mark is asked for where the effects end, whatever stands there
    pub second_told : (T : Tables) → Known τ T → T.counts.edition ≡ τ.edition → has_quota τ.edition ≡ true → (u : List ℕ) → Over u → (k : Rest)
        → all_part o (eff_text ++ u) l T k ≡ judged eff_fault (mark_part o u l (eff_change τ o T) k)
    unfolding mark_field ◌▸◌
    second_told T w e h u d k =
        eff_told T w u d (λ t m U. mark_field o t m U k) ∙ ap (judged eff_fault) (second_reads (mark_part o) u l (eff_change τ o T) k (ap has_quota e ∙ h))

  -- where its last field is over: in edition 1 the list of its effects, which a digit or a comma would go on; in edition 2 its mark, which only a digit would
  pub record Ended (u : List ℕ) : Type 0 where
    pub list : Over (mark_text ++ u)
    pub number : Stop u

  pub over_ended : {u : List ℕ} → Over u → Ended u
  over_ended {u = u} e =
      record { list = spelled_either τ.edition _ (λ xs. Over (xs ++ u)) (λ h. semicolon_ends _) (λ h. e); number = over_stop e }

  pub stop_ended : {u : List ℕ} → has_quota τ.edition ≡ true → Stop u → Ended u
  stop_ended h s = record { list = rw (second_spells τ.edition (semicolon ∷ digits (τ.mark o)) h) (semicolon_ends _); number = s }

  -- ALL OF THEM
  pub all_told : ByEdition τ → (l : ℕ) (T : Tables) → Known τ T → T.counts.edition ≡ τ.edition → (u : List ℕ) → Ended u
      → Told (all_part o) (op_text τ o) u l T (all_fault l) (op_change τ o T)
  unfolding op_text op_rows
  all_told by l T w e u d =
      both_told (eff_part o) (mark_field o) eff_text mark_text u l T (eff_change τ o T) _ (eff_fault l) (mark_fault l) (eff_told l T w (mark_text ++ u) d.list)
      (mark_told l by (eff_change τ o T) e u d.number)

-- ---- the tables in which it is read

-- they know the variables and the edition, have room for the facts and for this operator, and nothing stands in its two rows
pub record Fresh (τ : Task) (o : ℕ) (T : Tables) : Type 0 where
  pub known : Known τ T
  pub edition : T.counts.edition ≡ τ.edition
  pub within : o < most_ops
  pub room : length T.facts ≡ facts_room
  pub pre : (v : ℕ) → v < τ.sas.vars → pre_at T.facts o v ≡ 0
  pub eff : (v : ℕ) → v < τ.sas.vars → eff_at T.facts o v ≡ 0

-- an operator before it leaves them so
pub fresh_later : (τ : Task) (i o : ℕ) (T : Tables) → i < o → Fresh τ o T → Fresh τ o (op_change τ i T)
fresh_later τ i o T h w =
    let few = w.known.few in
    let own = w.within in
    record {
      known = known_rows τ i _ (known_cost τ i T w.known);
      edition = w.edition;
      within = own;
      room = long_op τ i T.facts ∙ w.room;
      pre = λ v a. spares_op τ i (pre_place o v) (λ u b e. omega arith) (λ u b e. omega arith) (λ q e. omega arith) T.facts ∙ w.pre v a;
      eff = λ v a. spares_op τ i (eff_place o v) (λ u b e. omega arith) (λ u b e. omega arith) (λ q e. omega arith) T.facts ∙ w.eff v a;
    }

-- ---- what is asked at its end

abbrev pub not_idle : ℕ → Part
not_idle o = ask (λ T. demand (not (idle (sas_of T) o)) IdleOperator)

module _ (τ : Task) (o : ℕ) (T : Tables) (w : Fresh τ o T) where
  -- what was read stands in its rows
  idle_same : idle (sas_of (op_change τ o T)) o ≡ idle τ.sas o
  idle_same =
      let U = sas_of (op_change τ o T) in
      let few = w.known.few in
      ap (every (λ v. asked (U.pre o v) (U.eff o v))) w.known.vars
      ∙ every_same (λ v. asked (U.pre o v) (U.eff o v)) (λ v. asked (τ.sas.pre o v) (τ.sas.eff o v)) τ.sas.vars
      (λ v h. ap₂ asked (op_pre τ few o v w.within h T.facts w.room (w.pre v h)) (op_eff τ few o v w.within h T.facts w.room (w.eff v h)))

  pub idle_told : (u : List ℕ) (l : ℕ) (k : Rest) → not_idle o u l (op_change τ o T) k ≡ judged (unless (not (idle τ.sas o)) (IdleOperator l)) (k u l (op_change τ o T))
  idle_told u l k = asked_told (λ U. not (idle (sas_of U) o)) IdleOperator (not (idle τ.sas o)) u l (op_change τ o T) k (ap not idle_same)
