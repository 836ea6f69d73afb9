-- THE SCAN IS THE GRAMMAR: the text that spells a task gets the refusal that the scan finds in the task, or is accepted with the task's tables.
-- Line by line: each says what the scan says of the same numbers, and what follows counts only if that is clean. Assumes nothing.
use Prim.Native.Nat.{ℕ, zero, suc, ◌+◌, ◌≤◌, ◌<◌}
use native.Mathlib.Omega.{arith}
use mathlib.Core.Path.{◌≡◌, refl, sym, ap, ap₂, ◌∙◌}
use mathlib.Core.List.{List, [], ◌++◌, append_assoc, append-nil}
use mathlib.Core.Bool.{true}
use lib.Dec.{leb, ltb}
use lib.ListN.{length, get_or, set, replicate, length-replicate}
use Rattle.std.specs.Prelude.{Ok, Err}
use Rattle.scan.specs.Found.{Found, clean}
use Rattle.meaning.specs.Limits.{most_vars, most_values, most_ops, most_maps, most_edition, most_quota}
use Rattle.refusals.specs.declared.Refusal.{Refusal}
use Rattle.refusals.specs.declared.Refusal.TheVariants.{OutOfRange, SharesAboveCost}
use Rattle.meaning.specs.Split.{Task}
use Rattle.tables.specs.Layout.{Tables, facts_room, costs_room, shares_room, dom_place, init_place, goal_place, pre_place, eff_place, share_place, share_at}
use Rattle.tables.specs.Editions.{read_in}
use Rattle.tables.specs.Task.{task_of, tables}
use Rattle.scan.specs.Inside.Parts.{head_fault}
use Rattle.scan.specs.Scan.{unless, ◌then◌, each, facts_fault, operator_fault, map_fault, shares_fault, split_fault, task_fault, roomy, tables_fault, within as scanWithin}
use Rattle.scan.proofs.Rules.{within_says, few_vars, few_values, few_ops}
use Rattle.scan.proofs.Walks.{then_then, rule_held}
use Rattle.grammar.specs.Grammar.{Verdict, accepted, Rest, Part, ◌▸◌, ask, text_line, quota_line, ops_line, operator_fields, op_lines, maps_line, map_classes, map_lines, amounts}
use Rattle.grammar.specs.Grammar.{share_lines, task_lines, settled, the_end, no_task, verdict}
use Rattle.grammar.specs.Spelling.{digits, numbers, some_facts, keyed, stacked, op_text, map_text, share_text, spelled, text_of, changed, row_put, op_rows, map_rows, head_rows, tables_of, canon}
use Rattle.grammar.proofs.Editions.{ByEdition, tables_by_edition}
use Rattle.grammar.proofs.SpellParts.{judged, judged_by, next, ToldLine, lines_told}
use Rattle.grammar.proofs.SpellFacts.{on, on_changed, knows_row, knows_facts, knows_changed}
use Rattle.grammar.proofs.SpellTables.{long_changed, writes_row, zeros}
use Rattle.grammar.proofs.SpellOwn.{Small, long_head, long_op, spares_head, costs_own, shares_own}
use Rattle.grammar.proofs.SpellOperator.{Known, op_change, known_rows, Fresh, fresh_later}
use Rattle.grammar.proofs.SpellClasses.{sum_same, each_same}
use Rattle.grammar.proofs.SpellMaps.{Ready, ready_map}
use Rattle.grammar.proofs.SpellLines.{edition_told, vars_told, dom_told, init_told, goal_told, quota_text, quota_told, ops_told, op_told, maps_told, map_told}
use Rattle.grammar.proofs.SpellLines.{on_shares, shares_changed, share_told}
use Rattle.tables.specs.Lines.{line_of_edition, line_of_vars, line_of_dom, line_of_init, line_of_goal, line_of_quota, line_of_ops, line_of_op, line_of_maps, line_of_map, line_of_shares}

-- ---- after all else: shares against costs

settled_judged : (f : Found) (T : Tables) → settled f T ≡ judged f (accepted T)
unfolding settled
settled_judged (Ok tt) T = refl
settled_judged (Err r) T = refl

-- ---- the lines of one kind

-- eleven of them, one after another or each before all that follow it
in_a_row : (a b c d e f g h i j k : List ℕ)
    → a ++ b ++ c ++ d ++ e ++ f ++ g ++ h ++ i ++ j ++ k ≡ a ++ (b ++ (c ++ (d ++ (e ++ (f ++ (g ++ (h ++ (i ++ (j ++ (k ++ []))))))))))
in_a_row a b c d e f g h i j k = simp (append_assoc, append-nil)

-- the tables with these counts
abbrev pub made : ℕ → ℕ → ℕ → ℕ → ℕ → List ℕ → List ℕ → List ℕ → Tables
made v o m e q f c h = tables (record { vars = v; ops = o; maps = m; edition = e; quota = q }) f c h

-- an operator's line, as the grammar has it
abbrev pub op_part : ℕ → Part
op_part o = text_line "op=" (operator_fields o)

module _ (τ : Task) where
  abbrev pub ops_text : List ℕ
  ops_text = stacked (λ o. keyed "op=" (op_text τ o)) τ.sas.ops 0

  abbrev pub maps_text : List ℕ
  maps_text = stacked (λ m. keyed "map=" (map_text τ m)) τ.maps 0

  abbrev pub shares_text : List ℕ
  shares_text = stacked (λ m. keyed "share=" (share_text (τ.share m) τ.sas.ops)) τ.maps 0

  abbrev ops_done : List ℕ → List ℕ
  ops_done = changed (op_rows τ) τ.sas.ops 0

  abbrev maps_done : List ℕ → List ℕ
  maps_done = changed (map_rows τ) τ.maps 0

  abbrev costs_done : List ℕ → List ℕ
  costs_done = row_put (λ o. o) τ.sas.cost τ.sas.ops

  abbrev shares_done : List ℕ → List ℕ
  shares_done = changed (λ m. row_put (share_place m) (τ.share m) τ.sas.ops) τ.maps 0

  ops_changed : (n i : ℕ) (T : Tables)
      → changed (op_change τ) n i T
      ≡ record { counts = T.counts; facts = changed (op_rows τ) n i T.facts; costs = changed (λ o x. set x o (τ.sas.cost o)) n i T.costs; shares = T.shares }
  unfolding changed
  ops_changed zero i T = refl
  ops_changed (suc n) i T = ops_changed n (suc i) (op_change τ i T)

  -- operator i and those after it are yet to be read
  abbrev pub FreshFrom : ℕ → Tables → Type 0
  FreshFrom i T = (o : ℕ) → i ≤ o → o < τ.sas.ops → Fresh τ o T

  pub fresh_next : (i : ℕ) (T : Tables) → i < τ.sas.ops → FreshFrom i T → FreshFrom (suc i) (op_change τ i T)
  fresh_next i T l w o a b = fresh_later τ i o T a (w o (omega arith) b)

  -- its line, as it is spelled
  abbrev pub op_line : ℕ → List ℕ
  op_line o = keyed "op=" (op_text τ o)

  -- once edition, variables and quota are read: with so many operators and maps
  abbrev pub sofar : ℕ → ℕ → List ℕ → List ℕ → List ℕ → Tables
  sofar o m = made τ.sas.vars o m τ.edition (read_in τ.edition τ.quota)

  pub op_line_told : ByEdition τ → (o : ℕ) (T : Tables) (rest : List ℕ) → o < τ.sas.ops → FreshFrom o T
      → ToldLine (op_part o) (op_line o) rest (line_of_op τ.edition o) T (operator_fault τ o) (op_change τ o T)
  op_line_told by o T rest l w = op_told τ by o T (w o (omega arith) l) rest

  all_ops : ByEdition τ → (f c h rest : List ℕ) (k : Rest) → FreshFrom 0 (sofar τ.sas.ops 0 f c h)
      → op_lines (ops_text ++ rest) (line_of_op τ.edition 0) (sofar τ.sas.ops 0 f c h) k
      ≡ judged (each (operator_fault τ) τ.sas.ops 0) (k rest (line_of_maps τ.edition τ.sas.ops) (sofar τ.sas.ops 0 (ops_done f) (costs_done c) h))
  unfolding op_lines ask row_put
  all_ops by f c h rest k w =
      let T = sofar τ.sas.ops 0 f c h in
      lines_told op_part op_line (operator_fault τ) (op_change τ) FreshFrom τ.sas.ops (line_of_op τ.edition) (λ o. omega arith) fresh_next (op_line_told by) rest T w k
      ∙ ap (λ (U : Tables). judged (each (operator_fault τ) τ.sas.ops 0) (k rest (line_of_maps τ.edition τ.sas.ops) U)) (ops_changed τ.sas.ops 0 T)

  all_maps : (f c h rest : List ℕ) (k : Rest) → Small τ → Ready τ (sofar τ.sas.ops τ.maps f c h)
      → map_lines (maps_text ++ rest) (line_of_map τ.edition τ.sas.ops 0) (sofar τ.sas.ops τ.maps f c h) k
      ≡ judged (each (map_fault τ) τ.maps 0) (k rest (line_of_map τ.edition τ.sas.ops τ.maps) (sofar τ.sas.ops τ.maps (maps_done f) c h))
  unfolding map_lines ask
  all_maps f c h rest k s w =
      let T = sofar τ.sas.ops τ.maps f c h in
      let line = line_of_map τ.edition τ.sas.ops in
      lines_told (λ m. text_line "map=" (map_classes m)) (λ m. keyed "map=" (map_text τ m)) (map_fault τ) (λ m. on (map_rows τ m)) (λ m. Ready τ) τ.maps line
      (λ m. omega arith) (λ m U l. ready_map τ m U) (λ m U u l v. map_told τ s m l U v u) rest T w k
      ∙ ap (λ (U : Tables). judged (each (map_fault τ) τ.maps 0) (k rest (line τ.maps) U)) (on_changed (map_rows τ) τ.maps 0 T)

  abbrev share_row : ℕ → List ℕ → List ℕ
  share_row m = row_put (share_place m) (τ.share m) τ.sas.ops

  all_shares : (f c h rest : List ℕ) (k : Rest)
      → share_lines (shares_text ++ rest) (line_of_shares τ.edition τ.sas.ops τ.maps 0) (sofar τ.sas.ops τ.maps f c h) k
      ≡ judged (each (shares_fault τ) τ.maps 0)
      (k rest (line_of_shares τ.edition τ.sas.ops τ.maps τ.maps) (sofar τ.sas.ops τ.maps f c (shares_done h)))
  unfolding share_lines ask
  all_shares f c h rest k =
      let T = sofar τ.sas.ops τ.maps f c h in
      let line = line_of_shares τ.edition τ.sas.ops τ.maps in
      lines_told (λ m. text_line "share=" (amounts m τ.sas.ops)) (λ m. keyed "share=" (share_text (τ.share m) τ.sas.ops)) (shares_fault τ) (λ m. on_shares (share_row m))
      (λ m U. Unit {0}) τ.maps line (λ m. omega arith) (λ m U l u. tt) (λ m U u l v. share_told τ m U u) rest T tt k
      ∙ ap (λ (U : Tables). judged (each (shares_fault τ) τ.maps 0) (k rest (line τ.maps) U)) (shares_changed share_row τ.maps 0 T)

  -- the lines before the quota, and what follows them; the same before the operators
  abbrev pub front_text : List ℕ → List ℕ
  front_text rest =
      keyed "edition=" (digits τ.edition)
      ++ (keyed "vars=" (digits τ.sas.vars)
      ++ (keyed "dom=" (numbers τ.sas.dom τ.sas.vars)
      ++ (keyed "init=" (numbers τ.sas.init τ.sas.vars) ++ (keyed "goal=" (some_facts τ.sas.goal τ.sas.vars 0) ++ rest))))

  abbrev pub head_text : List ℕ → List ℕ
  head_text rest = front_text (quota_text τ ++ (keyed "ops=" (digits τ.sas.ops) ++ rest))

  abbrev pub lines_text : List ℕ
  lines_text = head_text (ops_text ++ (keyed "maps=" (digits τ.maps) ++ (maps_text ++ (shares_text ++ []))))

  pub spelled_lines : spelled τ ≡ lines_text
  unfolding spelled keyed
  spelled_lines =
      in_a_row (keyed "edition=" (digits τ.edition)) (keyed "vars=" (digits τ.sas.vars)) (keyed "dom=" (numbers τ.sas.dom τ.sas.vars))
      (keyed "init=" (numbers τ.sas.init τ.sas.vars)) (keyed "goal=" (some_facts τ.sas.goal τ.sas.vars 0)) (quota_text τ)
      (keyed "ops=" (digits τ.sas.ops)) ops_text (keyed "maps=" (digits τ.maps)) maps_text shares_text

-- ---- the whole text

pub at_most : (least most x : ℕ) (r : Refusal) → unless (scanWithin least most x) r ≡ clean → x ≤ most
at_most least most x r q = (within_says least most x (rule_held (scanWithin least most x) r q)).1

-- what the scan says of each line before the operators
module _ (τ : Task) where
  abbrev edition_rule : Found
  edition_rule = unless (scanWithin 1 most_edition τ.edition) (OutOfRange line_of_edition)

  abbrev vars_rule : Found
  vars_rule = unless (scanWithin 1 most_vars τ.sas.vars) (OutOfRange line_of_vars)

  abbrev dom_rules : Found
  dom_rules = each (λ v. unless (scanWithin 1 most_values (τ.sas.dom v)) (OutOfRange line_of_dom)) τ.sas.vars 0

  abbrev init_rules : Found
  init_rules = each (λ v. unless (ltb (τ.sas.init v) (τ.sas.dom v)) (OutOfRange line_of_init)) τ.sas.vars 0

  abbrev goal_rules : Found
  goal_rules = facts_fault τ τ.sas.goal line_of_goal

  abbrev quota_rule : Found
  quota_rule = unless (leb τ.quota most_quota) (OutOfRange line_of_quota)

  abbrev ops_rule : Found
  ops_rule = unless (leb τ.sas.ops most_ops) (OutOfRange (line_of_ops τ.edition))

  -- up to the goal
  abbrev pub front_fault : Found
  front_fault = edition_rule then vars_rule then dom_rules then init_rules then goal_rules

-- from tables of this length, in which no fact stands yet
module _ (τ : Task) (f c h : List ℕ) (lf : length f ≡ facts_room) (none : (p : ℕ) → get_or f p 0 ≡ 0) (lc : length c ≡ costs_room) (lh : length h ≡ shares_room) where
  abbrev pub head_done : List ℕ
  head_done = head_rows τ f

  abbrev all_done : Tables
  all_done = sofar τ τ.sas.ops τ.maps (maps_done τ (ops_done τ head_done)) (costs_done τ c) (shares_done τ h)

  split_same : (o : ℕ) → Small τ → o < τ.sas.ops → split_fault (task_of all_done) o ≡ split_fault τ o
  unfolding split_fault
  split_same o s a =
      ap₂ (λ (x y : ℕ). unless (leb x y) (SharesAboveCost (line_of_op τ.edition o)))
      (sum_same (λ m. share_at (shares_done τ h) m o) (λ m. τ.share m o) τ.maps (λ m b. shares_own τ s h lh m o b a)) (costs_own τ s c lc o a)

  end_told_lem : (l : ℕ) → Small τ → the_end [] l all_done ≡ judged (each (split_fault τ) τ.sas.ops 0) (accepted all_done)
  unfolding the_end
  end_told_lem l s =
      settled_judged (each (split_fault (task_of all_done)) τ.sas.ops 0) all_done
      ∙ judged_by (accepted all_done) (each_same (split_fault (task_of all_done)) (split_fault τ) τ.sas.ops 0 (λ o a b. split_same o s (omega arith)))

  -- what is known once dom=, init= and goal= are read, whatever the other counts are
  module _ (o m q : ℕ) (a : τ.sas.vars ≤ most_vars) where
    known_doms : Known τ (made τ.sas.vars o m τ.edition q (row_put dom_place τ.sas.dom τ.sas.vars f) c h)
    known_doms =
        record {
          vars = refl;
          few = a;
          doms = λ v b. writes_row dom_place τ.sas.dom τ.sas.vars v b (λ k e. omega arith) f (omega arith);
        }

    known_init : Known τ (made τ.sas.vars o m τ.edition q (row_put init_place τ.sas.init τ.sas.vars (row_put dom_place τ.sas.dom τ.sas.vars f)) c h)
    known_init = knows_row init_place τ.sas.init (λ v. omega arith) τ.sas.vars _ known_doms

    known_head : Known τ (made τ.sas.vars o m τ.edition q head_done c h)
    unfolding head_rows
    known_head = knows_facts goal_place τ.sas.goal (λ v. omega arith) τ.sas.vars _ known_init

  pub fresh_ops : τ.sas.vars ≤ most_vars → τ.sas.ops ≤ most_ops → FreshFrom τ 0 (sofar τ τ.sas.ops 0 head_done c h)
  fresh_ops a b o i l =
      record {
        known = known_head τ.sas.ops 0 _ a;
        edition = refl;
        within = omega arith;
        room = long_head τ f ∙ lf;
        pre = λ v j. spares_head τ a (pre_place o v) (omega arith) f ∙ none (pre_place o v);
        eff = λ v j. spares_head τ a (eff_place o v) (omega arith) f ∙ none (eff_place o v);
      }

  ready_maps : τ.sas.vars ≤ most_vars → Ready τ (sofar τ τ.sas.ops τ.maps (ops_done τ head_done) (costs_done τ c) h)
  ready_maps a =
      let w = known_head τ.sas.ops τ.maps 0 a in (
        knows_changed (op_rows τ) (known_rows τ) τ.sas.ops 0 (sofar τ τ.sas.ops τ.maps head_done (costs_done τ c) h) (record { vars = refl; few = a; doms = w.doms }),
        long_changed (op_rows τ) (long_op τ) τ.sas.ops 0 head_done ∙ long_head τ f ∙ lf,
      )

  -- ---- line by line: what the scan says of it, and if that is clean what follows

  -- from the quota on, and from the operators on
  abbrev pub from_quota : List ℕ → Verdict
  from_quota rest =
      (quota_line ▸ ops_line ▸ op_lines ▸ maps_line ▸ map_lines ▸ share_lines) rest line_of_quota (made τ.sas.vars 0 0 τ.edition 0 head_done c h) the_end

  abbrev pub from_ops : List ℕ → Verdict
  from_ops rest = (op_lines ▸ maps_line ▸ map_lines ▸ share_lines) rest (line_of_op τ.edition 0) (sofar τ τ.sas.ops 0 head_done c h) the_end

  -- the lines before it, whatever is judged then
  pub front_judged : (rest : List ℕ) (F : Found) (A : Verdict) → (front_fault τ ≡ clean → from_quota rest ≡ judged F A)
      → task_lines (front_text τ rest) line_of_edition (made 0 0 0 0 0 f c h) the_end ≡ judged (front_fault τ then F) A
  unfolding task_lines head_rows ◌▸◌
  front_judged rest F A ok =
      let e = τ.edition in
      let N = τ.sas.vars in
      let all : edition_rule τ then vars_rule τ then dom_rules τ then init_rules τ then goal_rules τ then F ≡ front_fault τ then F = simp then_then in
      next (edition_rule τ) _ _ (edition_told _ line_of_edition (made 0 0 0 0 0 f c h) e _)
      (λ t. next (vars_rule τ) _ _ (vars_told _ line_of_vars (made 0 0 0 e 0 f c h) N _)
      (λ q. let a = at_most 1 most_vars N (OutOfRange line_of_vars) q in
      next (dom_rules τ) _ _ (dom_told τ _ line_of_dom (made N 0 0 e 0 f c h) refl _)
      (λ d. next (init_rules τ) _ _ (init_told τ _ line_of_init _ (known_doms 0 0 0 a) _)
      (λ i. next (goal_rules τ) F A (goal_told τ _ line_of_goal _ (known_init 0 0 0 a) _) (λ g. ok (rw (t, q, d, i, g) refl))))))
      ∙ judged_by A all

  module _ (by : ByEdition τ) where
    -- the lines before the operators
    pub head_judged : (rest : List ℕ) (F : Found) (A : Verdict) → (head_fault τ ≡ clean → from_ops rest ≡ judged F A)
        → task_lines (head_text τ rest) line_of_edition (made 0 0 0 0 0 f c h) the_end ≡ judged (head_fault τ then F) A
    unfolding head_fault ◌▸◌
    head_judged rest F A ok =
        let e = τ.edition in
        let toOps : line_of_ops e + 1 ≡ line_of_op e 0 = omega arith in
        let head : front_fault τ then quota_rule τ then ops_rule τ ≡ head_fault τ = simp then_then in
        let all : front_fault τ then quota_rule τ then ops_rule τ then F ≡ head_fault τ then F = simp then_then in
        front_judged _ (quota_rule τ then ops_rule τ then F) A
        (λ front. next (quota_rule τ) _ _ (quota_told τ by _ line_of_quota (made τ.sas.vars 0 0 e 0 head_done c h) refl refl _)
        (λ q. next (ops_rule τ) F A (ops_told _ (line_of_ops e) (sofar τ 0 0 head_done c h) τ.sas.ops _) (λ o. rw toOps (ok (sym head ∙ rw (front, q, o) refl)))))
        ∙ judged_by A all

    lines_judged : task_lines (lines_text τ) line_of_edition (made 0 0 0 0 0 f c h) the_end ≡ judged (task_fault τ) (accepted all_done)
    unfolding task_fault head_fault ◌▸◌
    lines_judged =
        let e = τ.edition in
        let O = τ.sas.ops in
        let M = τ.maps in
        let ops = each (operator_fault τ) O 0 in
        let count = unless (scanWithin 1 most_maps M) (OutOfRange (line_of_maps e O)) in
        let maps = each (map_fault τ) M 0 in
        let shares = each (shares_fault τ) M 0 in
        let split = each (split_fault τ) O 0 in
        let toMaps : line_of_maps e O + 1 ≡ line_of_map e O 0 = omega arith in
        let toShares : line_of_map e O M ≡ line_of_shares e O M 0 = omega arith in
        let all : head_fault τ then ops then count then maps then shares then split ≡ task_fault τ = simp then_then in
        head_judged _ (ops then count then maps then shares then split) (accepted all_done)
        (λ head. let a = few_vars τ head in
        next ops _ _ (all_ops τ by head_done c h _ _ (fresh_ops a (few_ops τ head)))
        (λ r. next count _ _ (maps_told _ (line_of_maps e O) (sofar τ O 0 (ops_done τ head_done) (costs_done τ c) h) M _)
        (λ x. let s : Small τ = record { vars = a; doms = few_values τ head; ops = few_ops τ head; maps = at_most 1 most_maps M (OutOfRange (line_of_maps e O)) x } in
        rw toMaps (next maps _ _ (all_maps τ (ops_done τ head_done) (costs_done τ c) h _ _ s (ready_maps a))
        (λ y. rw toShares (next shares _ _ (all_shares τ (maps_done τ (ops_done τ head_done)) (costs_done τ c) h [] the_end) (λ z. end_told_lem _ s)))))))
        ∙ judged_by (accepted all_done) all

-- THE SCAN IS THE GRAMMAR, for a task as its edition has it
pub spelled_judged : (τ : Task) → ByEdition τ → verdict (spelled τ) ≡ judged (task_fault τ) (accepted (tables_of τ))
unfolding verdict no_task tables_of
spelled_judged τ by =
    ap verdict (spelled_lines τ)
    ∙ lines_judged τ (replicate facts_room 0) (replicate costs_room 0) (replicate shares_room 0) (length-replicate {A = ℕ} facts_room 0) (zeros facts_room)
    (length-replicate {A = ℕ} costs_room 0) (length-replicate {A = ℕ} shares_room 0) by

-- and for tables with any content: they get the line that the same task's text would have
pub scan_is_grammar : (t : Tables) → verdict (text_of t) ≡ judged (task_fault (task_of t)) (accepted (canon t))
scan_is_grammar t = spelled_judged (task_of t) (tables_by_edition t)

pub clean_accepted : (t : Tables) → task_fault (task_of t) ≡ clean → verdict (text_of t) ≡ accepted (canon t)
clean_accepted t p = scan_is_grammar t ∙ judged_by (accepted (canon t)) p

-- with room for a task the whole judgement of handed-in tables is that of the text
pub tables_judged : (t : Tables) → roomy t ≡ true → verdict (text_of t) ≡ judged (tables_fault t) (accepted (canon t))
unfolding tables_fault
tables_judged t r = scan_is_grammar t ∙ sym (rw r refl)
