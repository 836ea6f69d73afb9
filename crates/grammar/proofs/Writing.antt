-- WHAT A WRITING LEAVES: 8 for a short buffer before all else, then what the tables are refused with, and then the buffer is as it was; else the text, which always
-- fits, stands in the first places, and behind it what was there. By the tests before the text, one after another. Assumes nothing.
use Prim.Native.Nat.{ℕ, ◌+◌, ◌-◌, ◌≤◌, ◌<◌}
use native.Mathlib.Omega.{arith}
use mathlib.Core.Path.{◌≡◌, refl, sym, ap, ◌∙◌}
use mathlib.Core.List.{List}
use lib.Dec.{leb}
use lib.ListN.{length, get_or, take, drop, length-append, length-drop}
use lib.Seq.{take-append_seam, get_or-append-add, get_or-drop}
use borrow.Author.Tests.{le-leb, lt-leb, leb-true}
use Rattle.std.specs.Prelude.{Ok, Err}
use Rattle.scan.specs.Found.{Found, clean}
use Rattle.refusals.specs.declared.Refusal.{Refusal}
use Rattle.refusals.specs.declared.Refusal.TheVariants.{TableTooShort}
use Rattle.tables.specs.Layout.{Tables}
use Rattle.tables.specs.Task.{task_of}
use Rattle.scan.specs.Scan.{unless, task_fault, roomy, tables_fault}
use Rattle.scan.proofs.Walks.{clean_first, clean_next, rule_held}
use Rattle.scan.proofs.Validity.{clean_valid}
use Rattle.grammar.specs.Spelling.{text_of}
use Rattle.grammar.specs.Writing.{text_room, page, over, write_fault, on_page, write_text}
use Rattle.grammar.proofs.SpellOwn.{Small}
use Rattle.grammar.proofs.SpellAccepted.{clean_small}
use Rattle.grammar.proofs.SpellShort.{spelled_short}

not_refused : {A : Type 0} {r : Refusal} {n : ℕ} → Ok n ≡ Err r → A
not_refused p = let z : ◌≡◌ {A = ℕ} 0 1 = cc in absurd (let n : ⊥ = omega arith in n)

-- ---- a text in a buffer

module _ (text b : List ℕ) where
  pub over_text : take (length text) (over text b) ≡ text
  unfolding over
  over_text = take-append_seam text _

  -- the bytes after it stay
  pub over_rest : (p : ℕ) → length text ≤ p → get_or (over text b) p 0 ≡ get_or b p 0
  unfolding over
  over_rest p h =
      let e : length text + (p - length text) ≡ p = omega arith in
      ap (λ (k : ℕ). get_or (over text b) k 0) (sym e)
      ∙ get_or-append-add text (drop (length text) b) (p - length text) 0
      ∙ get_or-drop (length text) b (p - length text) 0
      ∙ ap (λ (k : ℕ). get_or b k 0) e

  pub over_length : length text ≤ length b → length (over text b) ≡ length b
  unfolding over
  over_length h = length-append text (drop (length text) b) ∙ omega (arith, length-drop (length text) b)

-- ---- clean tables

module _ (t : Tables) (p : tables_fault t ≡ clean) where
  task_clean : task_fault (task_of t) ≡ clean
  unfolding tables_fault
  task_clean = clean_next (unless (roomy t) TableTooShort) (task_fault (task_of t)) p

  -- the counts are within their limits
  pub tables_small : Small (task_of t)
  tables_small = clean_small (task_of t) task_clean

  -- A TASK'S TEXT ALWAYS FITS
  pub text_short_lem : length (text_of t) ≤ 10588
  text_short_lem = spelled_short (task_of t) (clean_valid t p)

-- ---- the answer, and what is left

module _ (t : Tables) (b : List ℕ) where
  pub short_buffer : length b < text_room → write_text t b ≡ page (Err TableTooShort) b
  unfolding write_text write_fault on_page
  short_buffer h = rw (lt-leb text_room (length b) h) refl

  module _ (h : text_room ≤ length b) where
    pub fault_told : (r : Refusal) → tables_fault t ≡ Err r → write_text t b ≡ page (Err r) b
    unfolding write_text write_fault on_page
    fault_told r p = rw (le-leb text_room (length b) h, p) refl

    pub tables_written : tables_fault t ≡ clean → write_text t b ≡ page (Ok (length (text_of t))) (over (text_of t) b)
    unfolding write_text write_fault on_page
    tables_written p = rw (le-leb text_room (length b) h, p) refl

  -- refused, for whatever number, 8 too: every place of the buffer is as it was
  page_refused : (f : Found) (x : List ℕ) (r : Refusal) → (on_page f x b).answer ≡ Err r → on_page f x b ≡ page (Err r) b
  unfolding on_page
  page_refused (Ok tt) x r e = not_refused e
  page_refused (Err q) x r e = let z : q ≡ r = cc in ap (λ (k : Refusal). page (Err k) b) z

  pub refused_buffer : (r : Refusal) → (write_text t b).answer ≡ Err r → write_text t b ≡ page (Err r) b
  unfolding write_text
  refused_buffer r = page_refused (write_fault t b) (text_of t) r

  -- written: the buffer has room, the tables are clean, and the number told is the text's length
  pub record Wrote (n : ℕ) : Type 0 where
    pub room : text_room ≤ length b
    pub clean : tables_fault t ≡ clean
    pub bytes : n ≡ length (text_of t)

  page_written : (f : Found) (x : List ℕ) (n : ℕ) → (on_page f x b).answer ≡ Ok n → (f ≡ clean) × (n ≡ length x)
  unfolding on_page
  page_written (Ok tt) x n e = (refl, let z : length x ≡ n = cc in sym z)
  page_written (Err r) x n e = not_refused (sym e)

  pub wrote : (n : ℕ) → (write_text t b).answer ≡ Ok n → Wrote n
  unfolding write_text write_fault
  wrote n e =
      let w = page_written (write_fault t b) (text_of t) n e in
      let room = unless (leb text_room (length b)) TableTooShort in
      record {
        room = leb-true text_room (length b) (rule_held (leb text_room (length b)) TableTooShort (clean_first room (tables_fault t) w.0));
        clean = clean_next room (tables_fault t) w.0;
        bytes = w.1;
      }
