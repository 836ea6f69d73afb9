-- WRITING AND READING FOR C, over the words that go back and the lent memory: refused, the buffer is as it was; else it holds the text, and behind it what was there;
-- reading what was written gives the same counts and tables, writing what was read the same bytes. From the desk's entries. Assumes nothing.
use mathlib.Core.Path.{◌≡◌, refl, sym, ap, ◌∙◌, subst}
use mathlib.Core.List.{List, [], ◌∷◌}
use Prim.Native.Nat.{ℕ, ◌≤◌}
use native.Mathlib.Omega.{arith}
use lib.ListN.{length, get_or, take}
use borrow.Author.Tests.{lt-ltb, le-ltb}
use Rattle.std.specs.Prelude.{Ok, Err}
use Rattle.grammar.specs.Readings.{Reading}
use Rattle.scan.specs.Found.{clean}
use Rattle.refusals.specs.declared.Refusal.{Refusal}
use Rattle.refusals.specs.declared.Refusal.TheVariants.{TableTooShort}
use Rattle.meaning.proofs.Facts.{by_order}
use Rattle.tables.specs.declared.Counts.{Counts}
use Rattle.tables.specs.Layout.{Tables, facts_room, costs_room, shares_room}
use Rattle.tables.specs.Task.{tables, task_of}
use Rattle.tables.proofs.Laws.{never}
use Rattle.grammar.specs.Fields.{leaves}
use Rattle.grammar.specs.Grammar.{read_text}
use Rattle.grammar.specs.Spelling.{spelled, tables_of, canon}
use Rattle.grammar.specs.Writing.{text_room, over, write_text}
use Rattle.grammar.proofs.SpellLeft.{Named}
use Rattle.grammar.proofs.RoundTrips.{tables_left}
use Rattle.desk.proofs.RoundTrips as desk
use Rattle.words.specs.Words.{word, done, refused_word, reading_word, written_word}
use Rattle.words.proofs.Told.{found_told, written_told}
use Rattle.desk_c.specs.Handing.{ReadLeft, counts_row, counts_in, counts_put, counts_after, read_counted, read_handed, WriteLeft, write_left, write_told, write_handed}

-- a row of counts that is long enough
long_handed : (task counts f c s : List ℕ) → counts_row ≤ length counts → read_handed task counts f c s ≡ read_counted (read_text task f c s) counts
unfolding read_handed
long_handed task counts f c s l = rw (le-ltb (length counts) counts_row l) refl

-- ---- WHAT IS WRITTEN

module _ (t : Tables) (buffer : List ℕ) (x : WriteLeft) (h : x ≡ write_handed t buffer) where
  word_is : x.word ≡ written_word (write_text t buffer).answer
  word_is = ap (λ (y : WriteLeft). y.word) h

  bytes_are : x.bytes ≡ (write_text t buffer).bytes
  bytes_are = ap (λ (y : WriteLeft). y.bytes) h

  pub write_refused : (r : Refusal) → x.word ≡ refused_word r → x.bytes ≡ buffer
  write_refused r e =
      bytes_are ∙ desk.write_refused t buffer (write_text t buffer) refl r (written_told (write_text t buffer).answer (Err r) (sym word_is ∙ e))

  module _ (n : ℕ) (e : x.word ≡ word done n) where
    answers : (write_text t buffer).answer ≡ Ok n
    answers = written_told (write_text t buffer).answer (Ok n) (sym word_is ∙ e)

    -- the text, of at most 10,588 bytes
    pub write_spells : take n x.bytes ≡ spelled (task_of t)
    write_spells = ap (take n) bytes_are ∙ desk.write_spells t buffer (write_text t buffer) refl n answers

    pub write_short : n ≤ 10588
    write_short = desk.write_short t buffer (write_text t buffer) refl n answers

    -- every byte after it is as it was
    pub write_rest : (p : ℕ) → n ≤ p → get_or x.bytes p 0 ≡ get_or buffer p 0
    write_rest p l = ap (λ (b : List ℕ). get_or b p 0) bytes_are ∙ desk.write_rest t buffer (write_text t buffer) refl n answers p l

    -- ---- READING WHAT WAS WRITTEN
    module _ (counts f c s : List ℕ) (l : counts_row ≤ length counts) (a : facts_room ≤ length f) (b : costs_room ≤ length c) (d : shares_room ≤ length s) (y : ReadLeft)
        (g : y ≡ read_handed (take n x.bytes) counts f c s) where
      named : Named (task_of t) f c s (read_text (take n x.bytes) f c s)
      named =
          subst (λ (z : List ℕ). Named (task_of t) f c s (read_text (take n z) f c s)) (sym bytes_are)
          (desk.read_written t buffer (write_text t buffer) refl n answers f c s a b d (read_text (take n (write_text t buffer).bytes) f c s) refl)

      accepts : (read_text (take n x.bytes) f c s).answer ≡ Ok (canon t).counts
      unfolding tables_of
      accepts = named.answer

      hands : y ≡ read_counted (read_text (take n x.bytes) f c s) counts
      hands = g ∙ long_handed (take n x.bytes) counts f c s l

      -- done; the task's counts in the row; its own numbers in the tables, and 0 in every other place
      pub read_written : (y.word ≡ word done 0) × (y.counts ≡ counts_put (canon t).counts counts)
          × Named (task_of t) f c s (leaves (Ok (canon t).counts) y.facts y.costs y.shares)
      read_written = (
        ap (λ (z : ReadLeft). z.word) hands ∙ ap reading_word accepts,
        ap (λ (z : ReadLeft). z.counts) hands ∙ ap (λ (k : Reading). counts_after k counts) accepts,
        subst (Named (task_of t) f c s)
            (λ i. leaves (accepts i) (sym hands i).facts (sym hands i).costs (sym hands i).shares) named,
      )

-- ---- WRITING WHAT WAS READ

counts_put_lem : (row : List ℕ) (n : Counts) → counts_row ≤ length row → counts_in (counts_after (Ok n) row) ≡ n
counts_put_lem [] n l = absurd (let z : ⊥ = omega arith in z)
counts_put_lem (a ∷ []) n l = absurd (let z : ⊥ = omega arith in z)
counts_put_lem (a ∷ b ∷ []) n l = absurd (let z : ⊥ = omega arith in z)
counts_put_lem (a ∷ b ∷ c ∷ []) n l = absurd (let z : ⊥ = omega arith in z)
counts_put_lem (a ∷ b ∷ c ∷ d ∷ []) n l = absurd (let z : ⊥ = omega arith in z)
counts_put_lem (a ∷ b ∷ c ∷ d ∷ e ∷ row) n l = refl

-- a word of 0 is an accepted text's
accepted_by : (a : Reading) → reading_word a ≡ word done 0 → (n : Counts) × (a ≡ Ok n)
accepted_by (Ok n) e = (n, refl)
accepted_by (Err r) e = let z : Err r ≡ clean = found_told (Err r) clean e in never cc

module _ (task counts f c s : List ℕ) (y : ReadLeft) (h : y ≡ read_handed task counts f c s) (e : y.word ≡ word done 0) where
  long : counts_row ≤ length counts
  unfolding read_handed
  long =
      by_order (length counts) counts_row
      (λ k. let z : word done 0 ≡ refused_word TableTooShort = sym e ∙ ap (λ (z : ReadLeft). z.word) h ∙ rw (lt-ltb (length counts) counts_row k) refl in absurd (let n : ⊥ = omega arith in n))
      (λ k. k)

  counted : y ≡ read_counted (read_text task f c s) counts
  counted = h ∙ long_handed task counts f c s long

  abbrev accepted : (n : Counts) × ((read_text task f c s).answer ≡ Ok n)
  accepted = accepted_by (read_text task f c s).answer (sym (ap (λ (z : ReadLeft). z.word) counted) ∙ e)

  -- the counts and the tables as they stand in the lent memory are those of the reading
  left : tables (counts_in y.counts) y.facts y.costs y.shares ≡ tables_left accepted.0 (read_text task f c s)
  left =
      let n = ap (λ (z : ReadLeft). counts_in z.counts) counted ∙ ap (λ (a : Reading). counts_in (counts_after a counts)) accepted.1 ∙ counts_put_lem counts accepted.0 long in
      λ i. tables (n i) (counted i).facts (counted i).costs (counted i).shares

  -- the same bytes, whatever buffer of enough room is lent
  pub write_read : (buffer : List ℕ) → text_room ≤ length buffer → (x : WriteLeft) → x ≡ write_handed (tables (counts_in y.counts) y.facts y.costs y.shares) buffer
      → x ≡ write_left (word done (length task)) (over task buffer)
  write_read buffer l x g =
      g ∙ ap (λ (t : Tables). write_handed t buffer) left
      ∙ ap write_told (desk.write_read task f c s (read_text task f c s) refl accepted.0 accepted.1 buffer l (write_text (tables_left accepted.0 (read_text task f c s)) buffer) refl)
