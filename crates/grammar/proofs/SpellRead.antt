-- The reader and the spelling: reading what spells a clean task gives back its tables, and a text that is accepted spells a valid task.
-- A valid task's text is short, so that nothing before the text itself refuses it. Assumes nothing.
use Prim.Native.Nat.{ℕ, ◌≤◌}
use native.Mathlib.Omega.{arith}
use mathlib.Core.Path.{◌≡◌, refl, sym, ap, ◌∙◌}
use mathlib.Core.List.{List}
use lib.ListN.{length}
use Rattle.std.specs.Prelude.{Ok}
use Rattle.scan.specs.Found.{clean}
use Rattle.tables.specs.declared.Counts.{Counts}
use Rattle.tables.specs.Layout.{Tables, facts_room, costs_room, shares_room}
use Rattle.tables.specs.Task.{task_of}
use Rattle.scan.specs.Scan.{unless, task_fault, roomy, tables_fault}
use Rattle.scan.proofs.Walks.{clean_next}
use Rattle.scan.proofs.Validity.{clean_valid}
use Rattle.refusals.specs.declared.Refusal.TheVariants.{TableTooShort}
use Rattle.grammar.specs.Fields.{Outcome}
use Rattle.grammar.specs.Grammar.{Verdict, accepted, refused, verdict, outcome, read_text}
use Rattle.grammar.specs.Spelling.{text_of, canon}
use Rattle.grammar.proofs.Admission.{not_accepted, accepted_outcome, text_read}
use Rattle.grammar.proofs.SpellTask.{clean_accepted}
use Rattle.grammar.proofs.SpellAccepted.{Spells, accepted_spells}
use Rattle.grammar.proofs.SpellShort.{spelled_short}

module _ (f c s : List ℕ) where
  -- THE ROUND TRIP: lent tables of enough room get a clean task's tables from its text
  pub read_spelled : (t : Tables) → tables_fault t ≡ clean → facts_room ≤ length f → costs_room ≤ length c → shares_room ≤ length s
      → read_text (text_of t) f c s ≡ outcome (accepted (canon t)) f c s
  unfolding tables_fault
  read_spelled t p a b d =
      text_read (text_of t) f c s a b d (omega (arith, spelled_short (task_of t) (clean_valid t p)))
      ∙ ap (λ (v : Verdict). outcome v f c s) (clean_accepted t (clean_next (unless (roomy t) TableTooShort) (task_fault (task_of t)) p))

  -- what is accepted: the tables of a valid task that the text spells
  pub record Reads (x : List ℕ) (n : Counts) : Type 0 where
    pub tables : Tables
    pub counts : tables.counts ≡ n
    pub spells : Spells x tables
    pub left : read_text x f c s ≡ outcome (accepted tables) f c s

  verdict_accepted : (x : List ℕ) (n : Counts) (v : Verdict) → verdict x ≡ v → read_text x f c s ≡ outcome v f c s → (outcome v f c s).answer ≡ Ok n → Reads x n
  unfolding outcome
  verdict_accepted x n (accepted T) e r h = record { tables = T; counts = cc; spells = accepted_spells x T e; left = r }
  verdict_accepted x n (refused q) e r h = not_accepted h

  pub read_accepted : (x : List ℕ) (n : Counts) → (read_text x f c s).answer ≡ Ok n → Reads x n
  read_accepted x n h =
      let e = accepted_outcome x f c s n h in
      verdict_accepted x n (verdict x) refl e (ap (λ (o : Outcome). o.answer) (sym e) ∙ h)
