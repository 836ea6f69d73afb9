-- 18, WHERE THE OPERATOR'S LINE ENDS AND BEFORE ITS LINE END IS READ: once the last field is over, whatever stands there, and where the text ends there too. In
-- edition 1 that is the list of effects, and a dash is a whole list, so that after it nothing counts, not even a digit or a comma; in edition 2 it is the mark.
-- And 3 and 2 come first: each number is judged where it stands. The fields one after another; then the operator's rows, which held 0, hold what was read.
-- Assumes nothing.
use Prim.Native.Nat.{ℕ, ◌+◌, ◌≤◌, ◌<◌}
use native.Mathlib.Omega.{arith}
use mathlib.Core.Path.{◌≡◌, refl, ap, ◌∙◌}
use mathlib.Core.List.{List, [], ◌∷◌, ◌++◌, append_assoc}
use mathlib.Core.Bool.{Bool, true, false, not}
use mathlib.Core.Logic.{◌⊎◌, inl, inr, ⊎_elim}
use lib.Dec.{eqb, leb}
use borrow.Author.Tests.{le-leb, lt-leb}
use Rattle.std.specs.Prelude.{Err}
use Rattle.scan.specs.Found.{clean}
use Rattle.refusals.specs.declared.Refusal.{Refusal}
use Rattle.refusals.specs.declared.Refusal.TheVariants.{OffForm, OutOfRange, IdleOperator}
use Rattle.meaning.specs.Limits.{most_cost, most_mark}
use Rattle.meaning.specs.Sas.{Facts, Idle}
use Rattle.meaning.specs.Split.{Task}
use Rattle.meaning.specs.Views.{asked, every, idle}
use Rattle.meaning.proofs.Facts.{true_every}
use Rattle.meaning.proofs.Idle.{idle_is}
use Rattle.tables.specs.Layout.{Tables, pre_place, eff_place}
use Rattle.tables.specs.Editions.{has_quota}
use Rattle.tables.specs.Task.{sas_of}
use Rattle.tables.proofs.Laws.{every_false}
use Rattle.scan.specs.Scan.{unless, ◌then◌, facts_fault}
use Rattle.scan.proofs.Rules.{FactsOk}
use Rattle.scan.proofs.Walks.{one_rule}
use Rattle.grammar.specs.Fields.{dash, semicolon}
use Rattle.grammar.specs.Grammar.{refused, Rest, Part, ◌▸◌, nothing, demand, lit, formed, numeral, mark_field, operator_fields}
use Rattle.grammar.specs.Spelling.{op_text}
use Rattle.grammar.proofs.Editions.{ByEdition, first_reads_nothing, second_reads}
use Rattle.grammar.proofs.Runs.{clash}
use Rattle.grammar.proofs.SpellParts.{judged_by, asked_told, lit_told}
use Rattle.grammar.proofs.SpellFacts.{Over}
use Rattle.grammar.proofs.SpellTables.{spares_facts}
use Rattle.grammar.proofs.SpellOperator.{semicolon_ends, pre_change, eff_change, pre_text, eff_text, mark_text, pre_fault, eff_fault, all_fault, dash_told, pre_told, eff_told}
use Rattle.grammar.proofs.SpellOperator.{mark_part, second_told, Ended, all_told, Fresh, not_idle, idle_told}

-- three rules with one refusal, of which the second or the third is broken
one_broken : (r : Refusal) (a b c : Bool) → (b ≡ false) ⊎ (c ≡ false) → (unless a r then unless b r) then unless c r ≡ Err r
one_broken r false b c q = refl
one_broken r true false c q = refl
one_broken r true true false q = refl
one_broken r true true true (inl q) = clash refl q
one_broken r true true true (inr q) = clash refl q

-- ---- the rules of the fields

module _ (τ : Task) where
  abbrev in_range : Facts → Bool
  in_range F = every (λ v. leb (F v) (τ.sas.dom v)) τ.sas.vars

  facts_rule : (F : Facts) (l : ℕ) → facts_fault τ F l ≡ unless (in_range F) (OutOfRange l)
  unfolding facts_fault
  facts_rule F l = one_rule (λ v. leb (F v) (τ.sas.dom v)) (OutOfRange l) τ.sas.vars

  in_range_lem : (F : Facts) → FactsOk τ F → in_range F ≡ true
  in_range_lem F p = true_every (λ v. leb (F v) (τ.sas.dom v)) τ.sas.vars (λ v h. le-leb (F v) (τ.sas.dom v) (p v h))

  out_of_range : (F : Facts) (v : ℕ) → v < τ.sas.vars → τ.sas.dom v < F v → in_range F ≡ false
  out_of_range F v h g = every_false (λ u. leb (F u) (τ.sas.dom u)) τ.sas.vars v h (lt-leb (F v) (τ.sas.dom v) g)

  -- what an idle operator sets it asks for
  idle_in_range : (o : ℕ) → FactsOk τ (τ.sas.pre o) → Idle τ.sas o → FactsOk τ (τ.sas.eff o)
  idle_in_range o p i v h = ⊎_elim (λ z. omega arith) (λ z. omega (arith, p v h)) (i v h)

  module _ (o l : ℕ) where
    pre_clean : τ.sas.cost o ≤ most_cost → FactsOk τ (τ.sas.pre o) → pre_fault τ o l ≡ clean
    pre_clean c p = rw (le-leb (τ.sas.cost o) most_cost c, facts_rule (τ.sas.pre o) l, in_range_lem (τ.sas.pre o) p) refl

    eff_clean : τ.sas.cost o ≤ most_cost → FactsOk τ (τ.sas.pre o) → FactsOk τ (τ.sas.eff o) → eff_fault τ o l ≡ clean
    eff_clean c p q = rw (pre_clean c p, facts_rule (τ.sas.eff o) l, in_range_lem (τ.sas.eff o) q) refl

    eff_broken : (v : ℕ) → v < τ.sas.vars → (τ.sas.dom v < τ.sas.pre o v) ⊎ (τ.sas.dom v < τ.sas.eff o v) → eff_fault τ o l ≡ Err (OutOfRange l)
    eff_broken v h out =
        rw (facts_rule (τ.sas.pre o) l, facts_rule (τ.sas.eff o) l)
        (one_broken (OutOfRange l) (leb (τ.sas.cost o) most_cost) (in_range (τ.sas.pre o)) (in_range (τ.sas.eff o))
        (⊎_elim (λ g. inl (out_of_range (τ.sas.pre o) v h g)) (λ g. inr (out_of_range (τ.sas.eff o) v h g)) out))

    mark_broken : eff_fault τ o l ≡ clean → most_mark < τ.mark o → all_fault τ o l ≡ Err (OutOfRange l)
    mark_broken c h = rw (c, lt-leb (τ.mark o) most_mark h) refl

-- ---- with no effects it is idle, whatever it asks for

module _ (τ : Task) (o : ℕ) (T : Tables) (w : Fresh τ o T) where
  none_idle : idle (sas_of (pre_change τ o T)) o ≡ true
  none_idle =
      let U = sas_of (pre_change τ o T) in
      let few = w.known.few in
      let vars = w.known.vars in
      true_every (λ v. asked (U.pre o v) (U.eff o v)) T.counts.vars
      (λ v h. ap (asked (U.pre o v)) (spares_facts (pre_place o) (τ.sas.pre o) (eff_place o v) τ.sas.vars (λ j g e. omega arith) T.facts ∙ w.eff v (omega arith)))

  none_told : (u : List ℕ) (l : ℕ) (k : Rest) → not_idle o u l (pre_change τ o T) k ≡ refused (IdleOperator l)
  none_told u l k = asked_told (λ U. not (idle (sas_of U) o)) IdleOperator false u l (pre_change τ o T) k (ap not none_idle)

-- ---- what is off the form

-- a text that is over, or begins with another byte than b
pub data Lacks (b : ℕ) : List ℕ → Type 0 where
  at_end : Lacks b []
  at_byte : {x : ℕ} {t : List ℕ} → eqb x b ≡ false → Lacks b (x ∷ t)

lit_off : {b : ℕ} {u : List ℕ} → Lacks b u → (bs : List ℕ) (l : ℕ) (T : Tables) (k : Rest) → lit (b ∷ bs) u l T k ≡ refused (OffForm l)
unfolding lit ◌▸◌ demand
lit_off at_end bs l T k = refl
lit_off (at_byte e) bs l T k = rw e refl

number_off : (least limit : ℕ) (p : ℕ → Part) (u : List ℕ) (l : ℕ) (T : Tables) (k : Rest) → formed u ≡ false → numeral least limit p u l T k ≡ refused (OffForm l)
unfolding numeral ◌▸◌ demand
number_off least limit p u l T k e = rw e refl

-- ---- THE LAWS: in line l, before any text u and whatever k would say of it; `nothing` unfolds, so that a part which reads nothing may stand among the fields

module _ (τ : Task) (o : ℕ) (T : Tables) (l : ℕ) (u : List ℕ) (k : Rest) (w : Fresh τ o T) where
  -- its cost and its preconditions are in range; then so are its effects, if it is idle
  module _ (cost : τ.sas.cost o ≤ most_cost) (pre : FactsOk τ (τ.sas.pre o)) where
    -- THE MARK BEFORE IT, idle or not: where the effects end edition 2 tells nothing yet; no mark there, or one that is no number, is 2, and one out of range 3
    module _ (eff : FactsOk τ (τ.sas.eff o)) where
      pub mark_before_idle : ByEdition τ → most_mark < τ.mark o → Ended τ o u → operator_fields o (op_text τ o ++ u) l T k ≡ refused (OutOfRange l)
      unfolding operator_fields ◌▸◌ nothing
      mark_before_idle by h e =
          all_told τ o by l T w.known w.edition u e _ ∙ judged_by _ (mark_broken τ o l (eff_clean τ o l cost pre eff) h)

      pub no_mark_before_idle : has_quota τ.edition ≡ true → Over u → Lacks semicolon u → operator_fields o (eff_text τ o ++ u) l T k ≡ refused (OffForm l)
      unfolding operator_fields ◌▸◌ nothing
      no_mark_before_idle h e n =
          second_told τ o l T w.known w.edition h u e _
          ∙ judged_by _ (eff_clean τ o l cost pre eff)
          ∙ lit_off n [] l (eff_change τ o T) _

      pub unformed_before_idle : has_quota τ.edition ≡ true → formed u ≡ false → operator_fields o (eff_text τ o ++ semicolon ∷ u) l T k ≡ refused (OffForm l)
      unfolding operator_fields ◌▸◌ nothing
      unformed_before_idle h e =
          second_told τ o l T w.known w.edition h (semicolon ∷ u) (semicolon_ends u) _
          ∙ judged_by _ (eff_clean τ o l cost pre eff)
          ∙ lit_told (semicolon ∷ []) u l (eff_change τ o T) _
          ∙ number_off 0 (most_mark + 1) _ u l (eff_change τ o T) _ e

    -- after a dash for its effects too, where no list goes on
    pub no_mark_after_dash : has_quota τ.edition ≡ true → Lacks semicolon u → operator_fields o (pre_text τ o ++ semicolon ∷ dash ∷ u) l T k ≡ refused (OffForm l)
    unfolding operator_fields mark_field ◌▸◌ nothing
    no_mark_after_dash h n =
        pre_told τ o l T w.known (semicolon ∷ dash ∷ u) (semicolon_ends (dash ∷ u)) _
        ∙ judged_by _ (pre_clean τ o l cost pre)
        ∙ dash_told (eff_place o) u l (pre_change τ o T) _
        ∙ second_reads (mark_part o) u l (pre_change τ o T) _ (ap has_quota w.edition ∙ h)
        ∙ lit_off n [] l (pre_change τ o T) _

    -- AN IDLE OPERATOR, where its last field doesn't go on
    pub idle_first : ByEdition τ → τ.mark o ≤ most_mark → Idle τ.sas o → Ended τ o u → operator_fields o (op_text τ o ++ u) l T k ≡ refused (IdleOperator l)
    unfolding operator_fields ◌▸◌ nothing
    idle_first by h i e =
        all_told τ o by l T w.known w.edition u e (λ t m U. not_idle o t m U k)
        ∙ rw (eff_clean τ o l cost pre (idle_in_range τ o pre i), le-leb (τ.mark o) most_mark h)
        (idle_told τ o T w u l k ∙ rw ((idle_is τ.sas o).1 i) refl)

    -- in edition 1 after a dash for its effects, whatever goes on
    pub idle_after_dash : has_quota τ.edition ≡ false → operator_fields o (pre_text τ o ++ semicolon ∷ dash ∷ u) l T k ≡ refused (IdleOperator l)
    unfolding operator_fields mark_field ◌▸◌ nothing
    idle_after_dash h =
        pre_told τ o l T w.known (semicolon ∷ dash ∷ u) (semicolon_ends (dash ∷ u)) _
        ∙ judged_by _ (pre_clean τ o l cost pre)
        ∙ dash_told (eff_place o) u l (pre_change τ o T) _
        ∙ first_reads_nothing (mark_part o) u l (pre_change τ o T) (λ t m U. not_idle o t m U k) (ap has_quota w.edition ∙ h)
        ∙ none_told τ o T w u l k

  -- a fact, the last one too, that names a value which its variable doesn't have: 3, idle or not
  pub range_before_idle : (v : ℕ) → v < τ.sas.vars → (τ.sas.dom v < τ.sas.pre o v) ⊎ (τ.sas.dom v < τ.sas.eff o v) → Ended τ o u
      → operator_fields o (op_text τ o ++ u) l T k ≡ refused (OutOfRange l)
  unfolding operator_fields op_text ◌▸◌ nothing
  range_before_idle v h out e =
      ap (λ (t : List ℕ). operator_fields o t l T k) (append_assoc (eff_text τ o) (mark_text τ o) u)
      ∙ eff_told τ o l T w.known (mark_text τ o ++ u) e.list _
      ∙ judged_by _ (eff_broken τ o l v h out)
