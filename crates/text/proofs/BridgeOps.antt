-- The goal, the quota, the operators and lines of the same kind, read as the grammar says, in both editions: which it is is asked where the quota's line and where
-- an operator's mark are due, and nowhere else. A list of facts is ended by a sign; before that of an operator's line the machine asks its area, and the grammar its
-- tables, whether the operator is idle. Assumes nothing.
use Prim.Native.Nat.{ℕ, zero, suc, ◌+◌, ◌≤◌, ◌<◌, zero-le}
use native.Mathlib.Omega.{arith}
use mathlib.Core.Path.{◌≡◌, refl, sym, ap, ◌∙◌}
use mathlib.Core.List.{List, [], ◌∷◌}
use mathlib.Core.Bool.{Bool, true, false, not, cond}
use lib.Dec.{ltb, eqb}
use borrow.Author.Tests.{eq-eqb, ne_eqb, lt-ltb, le-ltb}
use Rattle.std.specs.Prelude.{Err}
use Rattle.refusals.specs.declared.Refusal.TheVariants.{IdleOperator}
use Rattle.tables.specs.declared.Counts.{Counts}
use Rattle.tables.specs.Editions.{has_quota}
use Rattle.tables.specs.Layout.{Tables, goal_place, pre_place, eff_place, mark_place}
use Rattle.tables.specs.Steps.{is_idle}
use Rattle.tables.specs.Task.{sas_of}
use Rattle.meaning.specs.Views.{idle}
use Rattle.meaning.proofs.Facts.{by_cases}
use Rattle.text.specs.declared.Halt.TheVariants.{Idle}
use Rattle.text.specs.declared.Ctrl.{Ctrl}
use Rattle.grammar.specs.Fields.{line_end, semicolon, bytes_of, dash}
use Rattle.grammar.specs.Grammar.{
  Rest,
  Part,
  ◌▸◌,
  ask,
  keep,
  demand,
  lit,
  numeral,
  end_of_line,
  text_line,
  text_lines,
  put_quota,
  put_ops,
  put_fact,
  fact_list,
  in_second,
  goal_line,
  quota_line,
  ops_line,
  mark_field,
  operator_fields,
  op_lines,
}
use Rattle.text.specs.Inside.Area.{put_byte, put_word, cost_byte}
use Rattle.text.specs.Inside.Control.{going, up, stopped, part_begun, due, opened, with_digit, dashed, to_line, row_or, next_line, count_cap}
use Rattle.text.specs.Inside.Control.{field_goal_var, field_goal_val, field_ops, field_cost, field_pre_var, field_pre_val, field_eff_var, field_eff_val, field_maps, field_quota, field_mark}
use Rattle.text.specs.Inside.Fields.{key_byte, with_count, limit, counts_with, seen_with, noted, stored, kind}
use Rattle.text.specs.Inside.Steps.{sign, mark_due, idle_here, list_end, after_value, after_number, dash_here, no_byte}
use Rattle.text.proofs.BridgeReading.{tables_of, reading, Bytes, bytes_drop, next, behind, stops, at_sign, kw, spelled, key_ok}
use Rattle.grammar.proofs.Runs.{within_both}
use Rattle.text.proofs.BridgeArea.{fact_kept, cost_kept, idle_of}
use Rattle.text.proofs.BridgeRows.{then_on, then_sign, no_fault, Fits, Known, known_put, known_put3, of_var, of_row, from_var}
use Rattle.text.proofs.BridgeLines.{eol, bare, single_ok}
use Rattle.text.proofs.BridgeFacts.{number_at, FactList, list_ok}
use Rattle.tables.specs.Lines.{line_of_goal, line_of_quota}
use Rattle.meaning.specs.Limits.{most_cost, most_quota, most_mark}

pick_self : (q : Bool) → cond q true false ≡ q
pick_self true = refl
pick_self false = refl

-- the line after a row's: another of the same field f while rows are left, else field g
abbrev pub after_row : ℕ → ℕ → ℕ → ℕ → ℕ → Counts → Ctrl
after_row l f g r N n = cond (ltb (up r) N) (kw (up l) f (up r) n 0) (kw (up l) g 0 n 0)

-- the line after an operator's; the line after the goal's, and the line l after that of the operators' number
abbrev after_op : ℕ → ℕ → Counts → Ctrl
after_op l r n = after_row l field_cost field_maps r n.ops n

abbrev pub after_goal : Counts → Ctrl
after_goal n = kw line_of_quota (cond (has_quota n.edition) field_quota field_ops) 0 n 0

abbrev pub after_ops : ℕ → Counts → Ctrl
after_ops l n = kw l (cond (eqb n.ops 0) field_maps field_cost) 0 n 0

-- ---- where a list of facts is over: the sign x, and then d is the control
abbrev by_sign : ℕ → Ctrl → Ctrl → List ℕ → ℕ → Ctrl
by_sign x d c w b = sign c b x d

sign_ends : (n : Counts) (x : ℕ) (d : Ctrl) (l : ℕ) (k : Rest) → eqb no_byte x ≡ false
    → ((w : List ℕ) → Known n.vars w → (t : List ℕ) → Bytes t → reading d w t ≡ k t l (tables_of n w))
    → (c : Ctrl) → c.line ≡ l → (w : List ℕ) → Known n.vars w → (t : List ℕ) → Bytes t → reading (by_sign x d c w (next t)) w (behind t) ≡ lit (x ∷ []) t l (tables_of n w) k
unfolding lit
sign_ends n x d l k q ok c e w p t a = at_sign c d w l x [] t (tables_of n w) k e q (λ z. ok w p (behind t) (bytes_drop 1 a))

-- the end of an operator: before its line end it is told that the operator is idle
abbrev unless_idle : ℕ → ℕ → Counts → Ctrl → List ℕ → ℕ → Ctrl
unless_idle l r n c w b = cond (is_idle n.vars w r) (stopped c Idle) (sign c b line_end (after_op l r n))

operator_stops : (l r : ℕ) (n : Counts) (c : Ctrl) (w : List ℕ) → going (unless_idle l r n c w no_byte).halt ≡ false
unfolding sign stopped
operator_stops l r n c w = by_cases (is_idle n.vars w r) (λ e. rw e) (λ e. rw e)

-- ---- an operator's effects: in edition 2 its mark follows, and else its end
abbrev mark_or_end : ℕ → ℕ → Counts → Ctrl → List ℕ → ℕ → Ctrl
mark_or_end l r n c w b = cond (has_quota n.edition) (sign c b semicolon (of_row l field_mark r n)) (unless_idle l r n c w b)

effects_stop : (l r : ℕ) (n : Counts) (c : Ctrl) (w : List ℕ) → going (mark_or_end l r n c w no_byte).halt ≡ false
unfolding sign stopped
effects_stop l r n c w = by_cases (has_quota n.edition) (λ e. rw e) (λ e. rw e (operator_stops l r n c w))

-- what the grammar asks at an operator's end, and its line end
abbrev not_idle : ℕ → Rest → Rest
not_idle r k u m U = demand (not (idle (sas_of U) r)) IdleOperator u m U (eol k)

module _ (l r : ℕ) (n : Counts) (sized : Fits n) (h : r < 64) (k : Rest)
    (ok : (w : List ℕ) → Known n.vars w → (t : List ℕ) → Bytes t → reading (after_op l r n) w t ≡ k t (l + 1) (tables_of n w)) where
  operator_ends : (c : Ctrl) → c.line ≡ l → (w : List ℕ) → Known n.vars w → (t : List ℕ) → Bytes t
      → reading (unless_idle l r n c w (next t)) w (behind t) ≡ not_idle r k t l (tables_of n w)
  unfolding demand
  operator_ends c e w p t a =
      split (is_idle n.vars w r) ∙ ap (λ (q : Bool). demand (not q) IdleOperator t l (tables_of n w) (eol k)) (idle_of n w r sized.high h)
    where
      split : (q : Bool) → reading (cond q (stopped c Idle) (sign c (next t) line_end (after_op l r n))) w (behind t)
          ≡ demand (not q) IdleOperator t l (tables_of n w) (eol k)
      split true = stops c Idle (IdleOperator l) w (behind t) refl (ap (λ (m : ℕ). Err (IdleOperator m)) e)
      split false = sign_ends n line_end (after_op l r n) l (λ u m U. k u (m + 1) U) refl ok c e w p t a

  -- the mark is kept, and then the operator ends
  mark_due_lem : (w : List ℕ) → Known n.vars w → (t : List ℕ) → Bytes t
      → reading (of_row l field_mark r n) w t ≡ numeral 0 (most_mark + 1) (λ x. keep (put_fact (mark_place r) x)) t l (tables_of n w) (not_idle r k)
  unfolding keep limit stored with_digit noted after_number kind list_end mark_due idle_here next_line to_line row_or part_begun seen_with counts_with
  mark_due_lem w p t a =
      number_at (of_row l field_mark r n) w 0 (most_mark + 1) refl refl (λ z. omega arith) (omega arith) (omega arith) _ (tables_of n w) (not_idle r k)
      (λ z v u y o b s q.
      let x = sized.high in
      let w₁ = put_byte w (mark_place r) v in
      let c = noted (with_digit (of_row l field_mark r n) z v) in
      then_on (of_row l field_mark r n) w w₁ z v (unless_idle l r n c w₁) (λ i. omega arith) y (no_fault (of_row l field_mark r n) w z v y (λ i. omega arith) s zero-le) refl
      (λ i. refl) (operator_stops l r n c w₁) o
      ∙ operator_ends c refl w₁ (known_put p (mark_place r) v (omega arith)) u b
      ∙ ap (λ (T : Tables). not_idle r k u l T) (fact_kept n w p.long (mark_place r) v (omega arith) (omega (arith, within_both v 0 (most_mark + 1) q))))
      t a (bare (of_row l field_mark r n) t refl)

  mark_ok : (c : Ctrl) → c.line ≡ l → (w : List ℕ) → Known n.vars w → (t : List ℕ) → Bytes t
      → reading (mark_or_end l r n c w (next t)) w (behind t) ≡ mark_field r t l (tables_of n w) (not_idle r k)
  unfolding mark_field in_second ◌▸◌ tables_of
  mark_ok c e w p t a =
      by_cases (has_quota n.edition)
      (λ q. rw q (sign_ends n semicolon (of_row l field_mark r n) l _ refl mark_due_lem c e w p t a))
      (λ q. rw q (operator_ends c e w p t a))

-- ---- the three lists of facts: the goal's, and an operator's preconditions and effects
goal_list : (n : Counts) → FactList line_of_goal field_goal_var field_goal_val 0 n goal_place (by_sign line_end (after_goal n))
unfolding limit stored with_digit noted after_number kind after_value list_end mark_due idle_here sign stopped next_line to_line due dash_here dashed part_begun seen_with counts_with
goal_list n =
    record {
      var_goes = λ z. omega arith;
      var_plain = λ z. omega arith;
      val_goes = λ z. omega arith;
      val_plain = λ z. omega arith;
      var_least = refl;
      val_least = refl;
      var_limit = λ m w. refl;
      val_limit = λ v w. refl;
      var_kept = λ m z v w. refl;
      val_kept = λ v z y w. refl;
      var_after = λ m z v b w. refl;
      val_after = λ v z y b w. refl;
      val_bare = λ v t. bare (of_var line_of_goal field_goal_val v 0 n) t refl;
      var_dash = λ b. pick_self (eqb b dash);
      dash_after = λ b w. refl;
      over_stops = λ c w. refl;
      room = λ v q. (omega arith, omega arith);
    }

pre_list : (l r : ℕ) (n : Counts) → r < 64 → FactList l field_pre_var field_pre_val r n (pre_place r) (by_sign semicolon (from_var l field_eff_var 0 r n))
unfolding limit stored with_digit noted after_number kind after_value list_end sign stopped due dash_here dashed part_begun seen_with counts_with
pre_list l r n h =
    record {
      var_goes = λ z. omega arith;
      var_plain = λ z. omega arith;
      val_goes = λ z. omega arith;
      val_plain = λ z. omega arith;
      var_least = refl;
      val_least = refl;
      var_limit = λ m w. refl;
      val_limit = λ v w. refl;
      var_kept = λ m z v w. refl;
      val_kept = λ v z y w. refl;
      var_after = λ m z v b w. refl;
      val_after = λ v z y b w. refl;
      val_bare = λ v t. bare (of_var l field_pre_val v r n) t refl;
      var_dash = λ b. pick_self (eqb b dash);
      dash_after = λ b w. refl;
      over_stops = λ c w. refl;
      room = λ v q. (omega arith, omega arith);
    }

eff_list : (l r : ℕ) (n : Counts) → r < 64 → FactList l field_eff_var field_eff_val r n (eff_place r) (mark_or_end l r n)
unfolding limit stored with_digit noted after_number kind after_value list_end mark_due idle_here next_line to_line row_or due dash_here dashed part_begun seen_with counts_with
eff_list l r n h =
    record {
      var_goes = λ z. omega arith;
      var_plain = λ z. omega arith;
      val_goes = λ z. omega arith;
      val_plain = λ z. omega arith;
      var_least = refl;
      val_least = refl;
      var_limit = λ m w. refl;
      val_limit = λ v w. refl;
      var_kept = λ m z v w. refl;
      val_kept = λ v z y w. refl;
      var_after = λ m z v b w. refl;
      val_after = λ v z y b w. refl;
      val_bare = λ v t. bare (of_var l field_eff_val v r n) t refl;
      var_dash = λ b. pick_self (eqb b dash);
      dash_after = λ b w. refl;
      over_stops = effects_stop l r n;
      room = λ v q. (omega arith, omega arith);
    }

-- goal=
pub goal_ok : (n : Counts) → Fits n → (w : List ℕ) → Known n.vars w → (k : Rest)
    → ((u : List ℕ) → Known n.vars u → (t : List ℕ) → Bytes t → reading (after_goal n) u t ≡ k t line_of_quota (tables_of n u))
    → (t : List ℕ) → Bytes t → reading (kw line_of_goal field_goal_var 0 n 0) w t ≡ goal_line t line_of_goal (tables_of n w) k
unfolding goal_line text_line end_of_line ◌▸◌ opened part_begun spelled key_byte
goal_ok n sized w p k ok =
    key_ok line_of_goal field_goal_var 0 n w (λ z. omega arith) (tables_of n w) _
    (list_ok line_of_goal field_goal_var field_goal_val 0 n goal_place _ (goal_list n) sized (eol k) (sign_ends n line_end _ line_of_goal (λ u m U. k u (m + 1) U) refl ok) w p)
    0 (bytes_of "goal=") refl

-- quota=, in edition 2; the lines after it are one further on there, and are read alike wherever they stand
abbrev pub with_quota : ℕ → Counts → Counts
with_quota = with_count field_quota

module _ (n : Counts) (w : List ℕ) (k : Rest)
    (ok : (l v : ℕ) → l ≤ line_of_quota + 1 → (t : List ℕ) → Bytes t → reading (kw l field_ops 0 (with_quota v n) 0) w t ≡ k t l (tables_of (with_quota v n) w)) where
  quota_due : (t : List ℕ) → Bytes t → reading (kw line_of_quota field_quota 0 n 0) w t ≡ text_line "quota=" (numeral 0 (most_quota + 1) (λ v. keep (put_quota v))) t line_of_quota (tables_of n w) k
  unfolding text_line end_of_line ◌▸◌ keep opened part_begun limit stored with_digit noted after_number kind next_line to_line spelled key_byte tables_of seen_with counts_with
  quota_due =
      key_ok line_of_quota field_quota 0 n w (λ z. omega arith) (tables_of n w) _
      (single_ok line_of_quota field_quota n w (λ z. omega arith) (λ z. omega arith) (omega arith) (omega arith) refl
      put_quota k (λ v. kw (line_of_quota + 1) field_ops 0 (with_quota v n) 0) (λ z v. refl) (λ z v b u. refl) (λ v q. ok (line_of_quota + 1) v (omega arith)))
      0 (bytes_of "quota=") refl

  pub quota_ok : (t : List ℕ) → Bytes t → reading (after_goal n) w t ≡ quota_line t line_of_quota (tables_of n w) k
  unfolding quota_line in_second tables_of
  quota_ok t a = by_cases (has_quota n.edition) (λ e. rw e (quota_due t a)) (λ e. rw e (ok line_of_quota n.quota (omega arith) t a))

-- ops=
abbrev pub with_ops : ℕ → Counts → Counts
with_ops = with_count field_ops

pub ops_ok : (l : ℕ) (n : Counts) (w : List ℕ) (k : Rest) → l ≤ 100
    → ((v : ℕ) → v ≤ 64 → (t : List ℕ) → Bytes t → reading (after_ops (l + 1) (with_ops v n)) w t ≡ k t (l + 1) (tables_of (with_ops v n) w))
    → (t : List ℕ) → Bytes t → reading (kw l field_ops 0 n 0) w t ≡ ops_line t l (tables_of n w) k
unfolding ops_line text_line end_of_line ◌▸◌ keep opened part_begun limit stored with_digit noted after_number kind next_line to_line spelled key_byte tables_of seen_with counts_with
ops_ok l n w k h ok =
    let e : up l ≡ l + 1 = omega arith in
    key_ok l field_ops 0 n w (λ z. omega arith) (tables_of n w) _
    (single_ok l field_ops n w (λ z. omega arith) (λ z. omega arith) (omega arith) (omega arith) refl
    put_ops k (λ v. after_ops (up l) (with_ops v n)) (λ z v. refl) (λ z v b u. refl)
    (λ v q t a. let g = within_both v 0 65 q in ap (λ (x : ℕ). reading (after_ops x (with_ops v n)) w t) e ∙ ok v (omega arith) t a))
    0 (bytes_of "ops=") refl

-- op=
operator_ok : (l r : ℕ) (n : Counts) → Fits n → r < 64 → (w : List ℕ) → Known n.vars w → (k : Rest)
    → ((u : List ℕ) → Known n.vars u → (t : List ℕ) → Bytes t → reading (after_op l r n) u t ≡ k t (l + 1) (tables_of n u))
    → (t : List ℕ) → Bytes t → reading (kw l field_cost r n 0) w t ≡ text_line "op=" (operator_fields r) t l (tables_of n w) k
unfolding text_line operator_fields end_of_line ◌▸◌ ask keep opened part_begun limit stored with_digit noted after_number kind due spelled key_byte seen_with counts_with
operator_ok l r n sized h w p k ok =
    key_ok l field_cost r n w (λ z. omega arith) (tables_of n w) _
    (λ t a.
    number_at (of_row l field_cost r n) w 0 (most_cost + 1) refl refl (λ z. omega arith) (omega arith) (omega arith) _ (tables_of n w) _
    (λ z v u y o b s q.
    let x = sized.high in
    then_sign (of_row l field_cost r n) w z v semicolon (from_var l field_pre_var 0 r n) (tables_of n (put_word w (cost_byte r) v)) pres refl (λ i. omega arith) y
    (no_fault (of_row l field_cost r n) w z v y (λ i. omega arith) s zero-le)
    (λ i. refl)
    (pres_ok (put_word w (cost_byte r) v) (known_put3 p (cost_byte r) v (omega arith)))
    o b
    ∙ ap (λ (T : Tables). lit (semicolon ∷ []) u l T pres) (cost_kept n w p.long r v h (omega (arith, within_both v 0 (most_cost + 1) q))))
    t a (bare (of_row l field_cost r n) t refl))
    0 (bytes_of "op=") refl
  where
    -- what stands from the effects on, and from the preconditions on
    effs : Rest
    effs u m U = fact_list (eff_place r) u m U (λ u₁ m₁ U₁. mark_field r u₁ m₁ U₁ (not_idle r k))

    pres : Rest
    pres u m U = fact_list (pre_place r) u m U (λ u₁ m₁ U₁. lit (semicolon ∷ []) u₁ m₁ U₁ effs)

    effs_ok : (u : List ℕ) → Known n.vars u → (t : List ℕ) → Bytes t → reading (from_var l field_eff_var 0 r n) u t ≡ effs t l (tables_of n u)
    effs_ok = list_ok l field_eff_var field_eff_val r n (eff_place r) _ (eff_list l r n h) sized _ (mark_ok l r n sized h k ok)

    pres_ok : (u : List ℕ) → Known n.vars u → (t : List ℕ) → Bytes t → reading (from_var l field_pre_var 0 r n) u t ≡ pres t l (tables_of n u)
    pres_ok = list_ok l field_pre_var field_pre_val r n (pre_place r) _ (pre_list l r n h) sized _ (sign_ends n semicolon _ l effs refl effs_ok)

-- ---- lines of one kind: N rows of field f, each read by `one`, up to line E, where field g follows
module _ (f g N E : ℕ) (n : Counts) (j : ℕ) (p : ℕ → Part) (k : Rest) (few : N ≤ 64) (low : E < count_cap)
    (one : (l r : ℕ) → r < N → (w : List ℕ) → Known j w → (k₁ : Rest)
    → ((u : List ℕ) → Known j u → (t : List ℕ) → Bytes t → reading (after_row l f g r N n) u t ≡ k₁ t (l + 1) (tables_of n u))
    → (t : List ℕ) → Bytes t → reading (kw l f r n 0) w t ≡ p r t l (tables_of n w) k₁)
    (done : (w : List ℕ) → Known j w → (t : List ℕ) → Bytes t → reading (kw E g 0 n 0) w t ≡ k t E (tables_of n w)) where
  after_last : (l r : ℕ) → r + 1 ≡ N → l + 1 ≡ E → after_row l f g r N n ≡ kw E g 0 n 0
  after_last l r e q =
      let y : up l ≡ E = omega arith in
      rw (y, le-ltb (up r) N (omega arith))

  after_more : (l r : ℕ) → r + 1 < N → l + 1 < E → after_row l f g r N n ≡ kw (l + 1) f (r + 1) n 0
  after_more l r e q =
      let y : up l ≡ l + 1 = omega arith in
      let x : up r ≡ r + 1 = omega arith in
      rw (x, y, lt-ltb (r + 1) N e)

  pub lines_ok : (m r l : ℕ) → r + suc m ≡ N → l + suc m ≡ E → (w : List ℕ) → Known j w → (t : List ℕ) → Bytes t
      → reading (kw l f r n 0) w t ≡ text_lines p (suc m) r t l (tables_of n w) k
  unfolding text_lines ◌▸◌
  lines_ok zero r l e q w h t a =
      let y : l + 1 ≡ E = omega arith in
      one l r (omega arith) w h k (λ u i t₁ a₁. rw (after_last l r (omega arith) y) (rw y (done u i t₁ a₁))) t a
  lines_ok (suc m) r l e q w h t a =
      one l r (omega arith) w h (λ u₁ m₁ U. text_lines p (suc m) (r + 1) u₁ m₁ U k)
      (λ u i t₁ a₁. rw (after_more l r (omega arith) (omega arith)) (lines_ok m (r + 1) (l + 1) (omega arith) (omega arith) u i t₁ a₁)) t a

pub op_lines_ok : (l : ℕ) (n : Counts) → Fits n → l ≤ 100 → (w : List ℕ) → Known n.vars w → (k : Rest)
    → ((u : List ℕ) → Known n.vars u → (t : List ℕ) → Bytes t → reading (kw (l + n.ops) field_maps 0 n 0) u t ≡ k t (l + n.ops) (tables_of n u))
    → (t : List ℕ) → Bytes t → reading (after_ops l n) w t ≡ op_lines t l (tables_of n w) k
unfolding op_lines ask tables_of text_lines
op_lines_ok l n sized low w p k ok t a = split n.ops refl
  where
    part : ℕ → Part
    part r = text_line "op=" (operator_fields r)

    split : (N : ℕ) → n.ops ≡ N → reading (after_ops l n) w t ≡ text_lines part n.ops 0 t l (tables_of n w) k
    split zero e =
        let f : ◌≡◌ {A = ℕ} (cond (eqb n.ops 0) field_maps field_cost) field_maps = rw (eq-eqb n.ops 0 e) in
        let y : l + n.ops ≡ l = omega arith in
        ap (λ (x : ℕ). reading (kw l x 0 n 0) w t) f
        ∙ (rw y at (ok w p t a))
        ∙ sym (ap (λ (m : ℕ). text_lines part m 0 t l (tables_of n w) k) e)
    split (suc m) e =
        let f : ◌≡◌ {A = ℕ} (cond (eqb n.ops 0) field_maps field_cost) field_cost = rw (ne_eqb n.ops 0 (λ z. omega arith)) in
        let y = sized.ops in
        ap (λ (x : ℕ). reading (kw l x 0 n 0) w t) f
        ∙ lines_ok field_cost field_maps n.ops (l + n.ops) n n.vars part k y (omega arith)
        (λ l₁ r h. operator_ok l₁ r n sized (omega arith)) ok m 0 l (omega arith) (omega arith) w p t a
        ∙ sym (ap (λ (x : ℕ). text_lines part x 0 t l (tables_of n w) k) e)
