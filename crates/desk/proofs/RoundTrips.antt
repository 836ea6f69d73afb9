-- WRITING AND READING, for whatever meets the contracts of `write` and `read`. A task's text always fits; refused, the buffer is as it was; written, the text stands in
-- the first places, and every place after it is as it was. Reading what was written gives the same tables, their unused places 0; writing what was read gives the same
-- bytes; so each accepted task has one text. From the laws of the grammar. Assumes nothing.
use mathlib.Core.Path.{◌≡◌, sym, ap, ◌∙◌, subst}
use mathlib.Core.Logic.{◌↔◌}
use mathlib.Core.List.{List}
use Prim.Native.Nat.{ℕ, ◌≤◌}
use native.Mathlib.Omega.{arith}
use lib.ListN.{length, get_or, take}
use Rattle.std.specs.Prelude.{Ok, Err}
use Rattle.grammar.specs.Readings.{Written}
use Rattle.scan.specs.Found.{clean}
use Rattle.refusals.specs.declared.Refusal.{Refusal}
use Rattle.meaning.specs.Split.{Valid}
use Rattle.tables.specs.declared.Counts.{Counts}
use Rattle.tables.specs.Layout.{Tables, facts_room, costs_room, shares_room}
use Rattle.tables.specs.Task.{task_of}
use Rattle.scan.specs.Scan.{tables_fault}
use Rattle.scan.specs.Own.{OwnSame}
use Rattle.scan.proofs.Validity.{clean_valid}
use Rattle.grammar.specs.Fields.{Outcome, leaves}
use Rattle.grammar.specs.Grammar.{read_text}
use Rattle.grammar.specs.Spelling.{spelled, text_of}
use Rattle.grammar.specs.Writing.{text_room, Page, page, over, write_text}
use Rattle.grammar.proofs.SpellLeft.{Named}
use Rattle.grammar.proofs.Unread.{own_text}
use Rattle.grammar.proofs.Writing as writing
use Rattle.grammar.proofs.RoundTrips as trips
use Rattle.grammar.proofs.RoundTrips.{tables_left, UnusedZero}

-- the tables that an accepted text leaves spell it
text_left : (task facts costs shares : List ℕ) (x : Outcome) → x ≡ read_text task facts costs shares → (n : Counts) → x.answer ≡ Ok n
    → text_of (tables_left n x) ≡ task
text_left task facts costs shares x h n e =
    ap (λ (o : Outcome). text_of (tables_left n o)) h ∙ trips.left_text task facts costs shares n (ap (λ (o : Outcome). o.answer) (sym h) ∙ e)

-- ---- WHAT IS WRITTEN

module _ (t : Tables) (buffer : List ℕ) (w : Page) (h : w ≡ write_text t buffer) where
  said : (a : Written) → w.answer ≡ a → (write_text t buffer).answer ≡ a
  said a e = ap (λ (p : Page). p.answer) (sym h) ∙ e

  -- refused: the buffer is as it was
  pub write_refused : (r : Refusal) → w.answer ≡ Err r → w.bytes ≡ buffer
  write_refused r e = ap (λ (p : Page). p.bytes) (h ∙ writing.refused_buffer t buffer r (said (Err r) e))

  -- written exactly if the buffer has room and the tables are accepted: a task's text always fits
  pub write_exactly : ((n : ℕ) × (w.answer ≡ Ok n)) ↔ ((text_room ≤ length buffer) × (tables_fault t ≡ clean))
  write_exactly = (
    (λ x. let o = writing.wrote t buffer x.0 (said (Ok x.0) x.1) in (o.room, o.clean)),
    (λ x. (length (text_of t), ap (λ (p : Page). p.answer) (h ∙ writing.tables_written t buffer x.0 x.1))),
  )

  module _ (n : ℕ) (e : w.answer ≡ Ok n) where
    abbrev wrote : writing.Wrote t buffer n
    wrote = writing.wrote t buffer n (said (Ok n) e)

    bytes_are : w.bytes ≡ over (text_of t) buffer
    bytes_are = ap (λ (p : Page). p.bytes) (h ∙ writing.tables_written t buffer wrote.room wrote.clean)

    -- the text of a valid task, of n bytes, and short
    pub write_spells : take n w.bytes ≡ spelled (task_of t)
    write_spells = rw (bytes_are, wrote.bytes) (writing.over_text (text_of t) buffer)

    pub write_valid : Valid (task_of t)
    write_valid = clean_valid t wrote.clean

    pub write_short : n ≤ 10588
    write_short = subst (λ (k : ℕ). k ≤ 10588) (sym wrote.bytes) (writing.text_short_lem t wrote.clean)

    pub write_length : length (take n w.bytes) ≡ n
    write_length = ap length write_spells ∙ sym wrote.bytes

    -- every place after it is as it was, and there are as many
    pub write_rest : (p : ℕ) → n ≤ p → get_or w.bytes p 0 ≡ get_or buffer p 0
    write_rest p l = ap (λ (b : List ℕ). get_or b p 0) bytes_are ∙ writing.over_rest (text_of t) buffer p (subst (λ (k : ℕ). k ≤ p) wrote.bytes l)

    pub write_long : length w.bytes ≡ length buffer
    write_long = ap length bytes_are ∙ writing.over_length (text_of t) buffer (omega (arith, writing.text_short_lem t wrote.clean, wrote.room))

    -- ---- READING WHAT WAS WRITTEN, into tables of enough room
    module _ (facts costs shares : List ℕ) (a : facts_room ≤ length facts) (b : costs_room ≤ length costs) (c : shares_room ≤ length shares) (x : Outcome)
        (g : x ≡ read_text (take n w.bytes) facts costs shares) where
      reads : x ≡ read_text (text_of t) facts costs shares
      reads = g ∙ ap (λ (y : List ℕ). read_text y facts costs shares) write_spells

      -- the same task: its counts, each of its own numbers in its place, 0 in every other place, and no table longer or shorter
      pub read_written : Named (task_of t) facts costs shares x
      read_written = subst (Named (task_of t) facts costs shares) (sym reads) (trips.spelled_named t wrote.clean facts costs shares a b c)

      -- where the unused places were 0 already, and the tables are as long: exactly the same lent bytes
      pub read_written_same : UnusedZero t → length facts ≡ length t.facts → length costs ≡ length t.costs → length shares ≡ length t.shares
          → x ≡ leaves (Ok t.counts) t.facts t.costs t.shares
      read_written_same U p q r = reads ∙ trips.spelled_same t wrote.clean facts costs shares a b c U p q r

    -- THE ONLY TEXT: whatever text a reading accepts as the same task is this one
    pub only_text : (y facts costs shares : List ℕ) (x : Outcome) → x ≡ read_text y facts costs shares → (k : Counts) → x.answer ≡ Ok k
        → OwnSame (tables_left k x) t
        → y ≡ take n w.bytes
    only_text y facts costs shares x g k p O = sym (text_left y facts costs shares x g k p) ∙ own_text (tables_left k x) t O ∙ sym write_spells

-- ---- WRITING WHAT WAS READ

module _ (task facts costs shares : List ℕ) (x : Outcome) (h : x ≡ read_text task facts costs shares) (n : Counts) (e : x.answer ≡ Ok n) where
  answers : (read_text task facts costs shares).answer ≡ Ok n
  answers = ap (λ (o : Outcome). o.answer) (sym h) ∙ e

  -- the same bytes, whatever buffer of enough room is lent
  pub write_read : (buffer : List ℕ) → text_room ≤ length buffer → (w : Page) → w ≡ write_text (tables_left n x) buffer → w ≡ page (Ok (length task)) (over task buffer)
  write_read buffer l w g =
      g ∙ ap (λ (o : Outcome). write_text (tables_left n o) buffer) h ∙ trips.write_read task facts costs shares n answers buffer l

  -- ONE TEXT: another text that is accepted and leaves the same numbers in the task's own places is the same text
  pub one_text : (task' facts' costs' shares' : List ℕ) (x' : Outcome) → x' ≡ read_text task' facts' costs' shares' → (n' : Counts) → x'.answer ≡ Ok n'
      → OwnSame (tables_left n x) (tables_left n' x')
      → task ≡ task'
  one_text task' facts' costs' shares' x' h' n' e' O =
      sym (text_left task facts costs shares x h n e) ∙ own_text (tables_left n x) (tables_left n' x') O ∙ text_left task' facts' costs' shares' x' h' n' e'
