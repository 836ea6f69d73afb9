-- 18 IN A WHOLE TEXT: the lines before the operators and those of the operators before this one being clean, the text is refused with 18 at its line, whatever
-- stands after its last field, and where the text ends there; and with 3 at its line where a fact names no value. In edition 2 its last field is the mark: where the
-- effects end nothing is told, and 3 and 2 for the mark come before 18.
-- The lines before it are told one after another; then its fields decide, whatever k would say. Assumes nothing.
use Prim.Native.Nat.{ℕ, suc, ◌+◌, ◌-◌, ◌≤◌, ◌<◌}
use native.Mathlib.Omega.{arith}
use mathlib.Core.Path.{◌≡◌, refl, ap, ◌∙◌}
use mathlib.Core.List.{List, ◌∷◌, ◌++◌}
use mathlib.Core.Bool.{true, false}
use mathlib.Core.Logic.{◌⊎◌}
use lib.ListN.{replicate, length-replicate}
use Rattle.std.specs.Prelude.{Err}
use Rattle.scan.specs.Found.{clean}
use Rattle.refusals.specs.declared.Refusal.{Refusal}
use Rattle.refusals.specs.declared.Refusal.TheVariants.{OffForm, OutOfRange, IdleOperator}
use Rattle.meaning.specs.Limits.{most_cost, most_mark}
use Rattle.meaning.specs.Sas.{Idle}
use Rattle.meaning.specs.Split.{Task}
use Rattle.tables.specs.Layout.{Tables, facts_room, costs_room, shares_room}
use Rattle.tables.specs.Editions.{has_quota}
use Rattle.tables.specs.Lines.{line_of_op}
use Rattle.scan.specs.Scan.{each, operator_fault}
use Rattle.scan.specs.Inside.Parts.{head_fault}
use Rattle.scan.proofs.Rules.{few_vars, few_ops, FactsOk}
use Rattle.grammar.specs.Fields.{bytes_of, dash, semicolon}
use Rattle.grammar.specs.Grammar.{refused, Rest, ◌▸◌, ask, formed, text_line, text_lines, operator_fields, op_lines, no_task, verdict}
use Rattle.grammar.specs.Spelling.{stacked, op_text}
use Rattle.grammar.proofs.Editions.{ByEdition}
use Rattle.grammar.proofs.Runs.{Stop}
use Rattle.grammar.proofs.SpellTables.{zeros}
use Rattle.grammar.proofs.SpellParts.{lit_told, lines_before}
use Rattle.grammar.proofs.SpellFacts.{Over}
use Rattle.grammar.proofs.SpellOperator.{op_change, pre_text, eff_text, Ended, over_ended, stop_ended, Fresh}
use Rattle.grammar.proofs.SpellTask.{FreshFrom, fresh_next, op_part, op_line, op_line_told, head_text, fresh_ops, head_judged}
use Rattle.grammar.proofs.Idle.{Lacks, mark_before_idle, no_mark_before_idle, unformed_before_idle, no_mark_after_dash, idle_first, idle_after_dash, range_before_idle}

-- the text up to operator o's fields, and then x: the lines before the operators, those of the operators before it, and its keyword
abbrev pub up_to : Task → ℕ → List ℕ → List ℕ
up_to τ o x = head_text τ (stacked (op_line τ) o 0 ++ (bytes_of "op=" ++ x))

module _ (τ : Task) (by : ByEdition τ) (o : ℕ) (head : head_fault τ ≡ clean) (own : o < τ.sas.ops) (before : each (operator_fault τ) o 0 ≡ clean) where
  abbrev line : ℕ
  line = line_of_op τ.edition o

  -- what its fields are refused with, the text is
  module _ (x : List ℕ) (r : Refusal) (refuses : (T : Tables) → Fresh τ o T → (k : Rest) → operator_fields o x line T k ≡ refused r) where
    line_refused : (T : Tables) → Fresh τ o T → (m : ℕ) (k : Rest) → text_lines op_part (suc m) o (bytes_of "op=" ++ x) line T k ≡ refused r
    unfolding text_lines text_line ◌▸◌
    line_refused T w m k = lit_told (bytes_of "op=") x line T _ ∙ refuses T w _

    lines_refused : (T : Tables) → FreshFrom τ 0 T → T.counts.ops ≡ τ.sas.ops → (k : Rest)
        → op_lines (stacked (op_line τ) o 0 ++ (bytes_of "op=" ++ x)) (line_of_op τ.edition 0) T k ≡ refused r
    unfolding op_lines ask
    lines_refused T w e k =
        let m = τ.sas.ops - suc o in
        let n : T.counts.ops ≡ o + suc m = omega arith in
        let rest = bytes_of "op=" ++ x in
        let past = lines_before op_part (op_line τ) (operator_fault τ) (op_change τ) (FreshFrom τ) τ.sas.ops (line_of_op τ.edition) (λ i. omega arith) (fresh_next τ) (op_line_told τ by) o
        (suc m) (omega arith) T w in
        ap (λ (y : ℕ). text_lines op_part y 0 (stacked (op_line τ) o 0 ++ rest) (line_of_op τ.edition 0) T k) n
        ∙ past.1 rest k
        ∙ rw before (line_refused _ (past.0 o (omega arith) own) m k)

    pub fields_decide : verdict (up_to τ o x) ≡ refused r
    unfolding verdict no_task ◌▸◌
    fields_decide =
        let f : List ℕ = replicate facts_room 0 in
        let c : List ℕ = replicate costs_room 0 in
        let h : List ℕ = replicate shares_room 0 in
        let lf = length-replicate {A = ℕ} facts_room 0 in
        let lc = length-replicate {A = ℕ} costs_room 0 in
        let lh = length-replicate {A = ℕ} shares_room 0 in
        head_judged τ f c h lf (zeros facts_room) lc lh by (stacked (op_line τ) o 0 ++ (bytes_of "op=" ++ x)) (Err r) (refused r)
        (λ e. lines_refused _ (fresh_ops τ f c h lf (zeros facts_room) lc lh (few_vars τ head) (few_ops τ head)) refl _)
        ∙ rw head refl

  -- ---- THE LAWS, for any text u after it

  module _ (u : List ℕ) where
    module _ (cost : τ.sas.cost o ≤ most_cost) (pre : FactsOk τ (τ.sas.pre o)) where
      -- idle, and where its last field doesn't go on
      idle_ended : τ.mark o ≤ most_mark → Idle τ.sas o → Ended τ o u → verdict (up_to τ o (op_text τ o ++ u)) ≡ refused (IdleOperator line)
      idle_ended m i e = fields_decide (op_text τ o ++ u) (IdleOperator line) (λ T w k. idle_first τ o T line u k w cost pre by m i e)

      pub idle_text : τ.mark o ≤ most_mark → Idle τ.sas o → Over u → verdict (up_to τ o (op_text τ o ++ u)) ≡ refused (IdleOperator line)
      idle_text m i e = idle_ended m i (over_ended τ o e)

      -- EDITION 1: after a dash for its effects, whatever stands there
      pub dash_text : has_quota τ.edition ≡ false → verdict (up_to τ o (pre_text τ o ++ semicolon ∷ dash ∷ u)) ≡ refused (IdleOperator line)
      dash_text h = fields_decide _ (IdleOperator line) (λ T w k. idle_after_dash τ o T line u k w cost pre h)

      -- EDITION 2: after the digits of its mark whatever is no digit
      module _ (second : has_quota τ.edition ≡ true) where
        pub idle_text_second : τ.mark o ≤ most_mark → Idle τ.sas o → Stop u → verdict (up_to τ o (op_text τ o ++ u)) ≡ refused (IdleOperator line)
        idle_text_second m i s = idle_ended m i (stop_ended τ o second s)

        -- after a dash for its effects nothing is told yet
        pub dash_text_second : Lacks semicolon u → verdict (up_to τ o (pre_text τ o ++ semicolon ∷ dash ∷ u)) ≡ refused (OffForm line)
        dash_text_second n = fields_decide _ (OffForm line) (λ T w k. no_mark_after_dash τ o T line u k w cost pre second n)

        -- its mark is judged first, idle or not: 3 out of its range, and off the form, or where it is missing, 2; so nothing is told where its effects end
        module _ (eff : FactsOk τ (τ.sas.eff o)) where
          pub mark_first : most_mark < τ.mark o → Stop u → verdict (up_to τ o (op_text τ o ++ u)) ≡ refused (OutOfRange line)
          mark_first m s =
              fields_decide (op_text τ o ++ u) (OutOfRange line) (λ T w k. mark_before_idle τ o T line u k w cost pre eff by m (stop_ended τ o second s))

          pub mark_unformed : formed u ≡ false → verdict (up_to τ o (eff_text τ o ++ semicolon ∷ u)) ≡ refused (OffForm line)
          mark_unformed e =
              fields_decide (eff_text τ o ++ semicolon ∷ u) (OffForm line) (λ T w k. unformed_before_idle τ o T line u k w cost pre eff second e)

          pub mark_missing : Over u → Lacks semicolon u → verdict (up_to τ o (eff_text τ o ++ u)) ≡ refused (OffForm line)
          mark_missing e n = fields_decide (eff_text τ o ++ u) (OffForm line) (λ T w k. no_mark_before_idle τ o T line u k w cost pre eff second e n)

    pub range_text : (v : ℕ) → v < τ.sas.vars → (τ.sas.dom v < τ.sas.pre o v) ⊎ (τ.sas.dom v < τ.sas.eff o v) → Over u
        → verdict (up_to τ o (op_text τ o ++ u)) ≡ refused (OutOfRange line)
    range_text v l out e = fields_decide (op_text τ o ++ u) (OutOfRange line) (λ T w k. range_before_idle τ o T line u k w v l out (over_ended τ o e))
