-- WHAT THE EDITIONS SAY OVER WHOLE TEXTS. Another edition than 1 and 2, and a quota above its limit, are 3 at their lines, whatever follows their digits (a mark above its
-- limit: `mark_first`, SpellIdle.antt). In edition 1 the text says neither quota nor marks, and reading leaves 0 there.
-- By the lines before them; by what a task's own places are. Assumes nothing.
use Prim.Native.String.{String}
use Prim.Native.Nat.{ℕ, ◌+◌, ◌<◌}
use native.Mathlib.Omega.{arith}
use mathlib.Core.Path.{◌≡◌, refl, sym, ap, ◌∙◌}
use mathlib.Core.Bool.{true, false}
use mathlib.Core.List.{List, ◌++◌}
use lib.ListN.{length, get_or, replicate, length-replicate}
use borrow.Author.Tests.{lt-leb}
use Rattle.grammar.specs.Readings.{Reading}
use Rattle.std.specs.Prelude.{Ok, Err}
use Rattle.scan.specs.Found.{clean}
use Rattle.refusals.specs.declared.Refusal.TheVariants.{OutOfRange}
use Rattle.meaning.specs.Limits.{most_edition, most_quota}
use Rattle.meaning.specs.Split.{Task, Valid}
use Rattle.tables.specs.declared.Counts.{Counts}
use Rattle.tables.specs.Layout.{Tables, facts_room, costs_room, shares_room, dom_place, init_place, goal_place, pre_place, eff_place, class_place, mark_place, mark_at}
use Rattle.tables.specs.Editions.{has_quota}
use Rattle.tables.specs.Lines.{line_of_edition, line_of_quota}
use Rattle.tables.specs.Task.{tables}
use Rattle.tables.proofs.Editions.{has_none}
use Rattle.scan.specs.Scan.{roomy, tables_fault, within as scanWithin}
use Rattle.scan.specs.Own.{OwnSame}
use Rattle.scan.proofs.Validity.{clean_valid}
use Rattle.scan.proofs.Walks.{broken}
use Rattle.grammar.specs.Fields.{bytes_of}
use Rattle.grammar.specs.Grammar.{refused, Rest, ◌▸◌, keep, fits, numeral, text_line, put_edition, put_quota, edition_line, quota_line, task_lines, no_task, verdict, read_text}
use Rattle.grammar.specs.Spelling.{digits, text_of, tables_of}
use Rattle.grammar.proofs.Editions.{second_reads}
use Rattle.grammar.proofs.Runs.{Stop, clash}
use Rattle.grammar.proofs.SpellParts.{judged_by, lit_told, number_told}
use Rattle.grammar.proofs.SpellFacts.{within_most}
use Rattle.grammar.proofs.SpellLines.{within_range}
use Rattle.grammar.proofs.SpellTables.{zeros}
use Rattle.grammar.proofs.SpellTask.{front_text, front_fault, front_judged}
use Rattle.grammar.proofs.SpellBeyond.{NotOwn}
use Rattle.grammar.proofs.SpellLeft.{accepted_named, accepted_task_of}
use Rattle.grammar.proofs.Unread.{own_text}

-- ---- OUT OF RANGE, whatever follows the digits

module _ (key : String) (least limit v : ℕ) (put : ℕ → Tables → Tables) (u : List ℕ) (s : Stop u) (out : fits v least limit ≡ false) where
  line_out : (l : ℕ) (T : Tables) (k : Rest) → text_line key (numeral least limit (λ n. keep (put n))) (bytes_of key ++ (digits v ++ u)) l T k ≡ refused (OutOfRange l)
  unfolding text_line ◌▸◌
  line_out l T k =
      lit_told (bytes_of key) (digits v ++ u) l T _ ∙ number_told least limit v (λ n. keep (put n)) u l T _ s ∙ judged_by _ (broken (OutOfRange l) out)

pub edition_first : (e : ℕ) → scanWithin 1 most_edition e ≡ false → (u : List ℕ) → Stop u → verdict (bytes_of "edition=" ++ (digits e ++ u)) ≡ refused (OutOfRange line_of_edition)
unfolding verdict task_lines edition_line ◌▸◌
edition_first e h u s = line_out "edition=" 1 (most_edition + 1) e put_edition u s (within_range e 1 most_edition ∙ h) line_of_edition no_task _

-- the lines before it being clean
pub quota_first : (τ : Task) → has_quota τ.edition ≡ true → front_fault τ ≡ clean → most_quota < τ.quota → (u : List ℕ) → Stop u
    → verdict (front_text τ (bytes_of "quota=" ++ (digits τ.quota ++ u))) ≡ refused (OutOfRange line_of_quota)
unfolding verdict no_task quota_line ◌▸◌
quota_first τ second front h u s =
    let r = OutOfRange line_of_quota in
    let q = τ.quota in
    let out = within_most q most_quota ∙ lt-leb q most_quota h in
    front_judged τ (replicate facts_room 0) (replicate costs_room 0) (replicate shares_room 0) (length-replicate {A = ℕ} facts_room 0) (zeros facts_room)
    (length-replicate {A = ℕ} costs_room 0) (length-replicate {A = ℕ} shares_room 0) _ (Err r) (refused r)
    (λ e. second_reads _ _ line_of_quota _ _ second ∙ line_out "quota=" 0 (most_quota + 1) q put_quota u s out line_of_quota _ _)
    ∙ rw front refl

-- ---- EDITION 1 SAYS NEITHER QUOTA NOR MARKS: accepted tables with another quota, and anything from the marks' first place on, have the same text

module _ (t : Tables) (clean : tables_fault t ≡ clean) (first : t.counts.edition ≡ 1) (q : ℕ) (f : List ℕ) (long : length f ≡ length t.facts)
    (same : (p : ℕ) → p < mark_place 0 → get_or f p 0 ≡ get_or t.facts p 0) where
  abbrev other : Tables
  other = tables (record { vars = t.counts.vars; ops = t.counts.ops; maps = t.counts.maps; edition = t.counts.edition; quota = q }) f t.costs t.shares

  first_own : OwnSame other t
  unfolding roomy
  first_own =
      let k = clean_valid t clean in
      let vars = k.vars.1 in
      let ops = k.ops in
      let maps = k.maps.1 in
      let e = t.counts.edition in
      let none : has_quota e ≡ false = ap has_quota first in
      record {
        counts = record { vars = refl; ops = refl; maps = refl; edition = refl; quota = has_none e q none ∙ sym (has_none e t.counts.quota none) };
        room = rw long refl;
        dom = λ v l. same (dom_place v) (omega arith);
        init = λ v l. same (init_place v) (omega arith);
        goal = λ v l. same (goal_place v) (omega arith);
        pre = λ o v a l. same (pre_place o v) (omega arith);
        eff = λ o v a l. same (eff_place o v) (omega arith);
        class = λ m v x a l b. same (class_place m v x) (let d = same (dom_place v) (omega arith) in let c = k.values v l in omega arith);
        cost = λ o l. refl;
        share = λ m o a l. refl;
        mark = λ o l. has_none e (mark_at f o) none ∙ sym (has_none e (mark_at t.facts o) none);
      }

  pub first_edition_text : text_of other ≡ text_of t
  first_edition_text = own_text other t first_own

-- ---- EDITION 1 LEAVES 0: as quota, and in the place of every mark

-- its marks are none of the task's own places
first_not_own : (τ : Task) → Valid τ → has_quota τ.edition ≡ false → (o : ℕ) → NotOwn τ (mark_place o)
first_not_own τ k h o =
    let few = k.vars.1 in
    let ops = k.ops in
    let maps = k.maps.1 in
    record {
      dom = λ v l e. omega arith;
      init = λ v l e. omega arith;
      goal = λ v l e. omega arith;
      pre = λ i v b l e. omega arith;
      eff = λ i v b l e. omega arith;
      class = λ m v x b l g e. let most = k.values v l in omega arith;
      mark = λ i l s e. clash s h;
    }

pub first_read_zero : (x f c s : List ℕ) (n : Counts) → (read_text x f c s).answer ≡ Ok n → n.edition ≡ 1
    → (n.quota ≡ 0) × ((o : ℕ) → mark_at (read_text x f c s).facts o ≡ 0)
unfolding tables_of
first_read_zero x f c s n h e =
    let t = accepted_task_of x f c s n h in
    let τ = t.0 in
    let N = accepted_named x f c s n h τ t.1 t.3 in
    let same : (tables_of τ).counts ≡ n = counts_of (sym N.answer ∙ h) in
    let first : has_quota τ.edition ≡ false = ap (λ (u : Counts). has_quota u.edition) same ∙ ap has_quota e in (
      ap (λ (u : Counts). u.quota) (sym same) ∙ has_none τ.edition τ.quota first,
      λ o. N.facts_beyond (mark_place o) (first_not_own τ t.2 first o),
    )
  where
    counts_of : {a b : Counts} → ◌≡◌ {A = Reading} (Ok a) (Ok b) → a ≡ b
    counts_of p = cc
