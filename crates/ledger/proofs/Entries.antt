-- What the two entries hand back, from the facts that a way through the code has, and what an accepted offer or start had. Assumes nothing.
use Prim.Native.Nat.{ℕ, ◌≤◌, ◌<◌}
use mathlib.Core.Path.{◌≡◌, refl}
use mathlib.Core.List.{List}
use lib.ListN.{replicate}
use Rattle.scan.specs.Found.{Found, clean}
use Rattle.refusals.specs.declared.Refusal.{Refusal}
use Rattle.meaning.specs.Limits.{most_vars, most_steps}
use Rattle.meaning.specs.Sas.{IsState}
use Rattle.scan.specs.Scan.{tables_fault, state_fault, input_fault}
use Rattle.scan.proofs.Walks.{clean_first, clean_next}
use Rattle.scan.proofs.Validity.{clean_valid, state_clean}
use Rattle.tables.specs.Layout.{Tables}
use Rattle.tables.specs.Task.{sas_of, state_of}
use Rattle.tables.specs.Steps.{copied}
use Rattle.std.specs.Prelude.{Result, Ok, Err}
use Rattle.ledger.specs.declared.Run.{Run}
use Rattle.ledger.specs.declared.Answer.{Answer}
use Rattle.ledger.specs.declared.Answer.TheVariants.{Accepted, Repeated}
use Rattle.ledger.specs.Ledger.{fresh, advanced, answered, moved, offered, started, begun}
use Rattle.ledger.specs.History.{Sized}
use Rattle.ledger.specs.Inside.Bounded.{Bounded}
use Rattle.ledger.proofs.Accepted.{accepted_had}
use Rattle.ledger.proofs.Runs.{advanced_sized, run_bounded}

-- ---- an offer

module _ (t : Tables) (r : Run) (number o : ℕ) (x : Result Answer Refusal) (e : x ≡ answered t r number o) where
  pub offered_accepted : (q : Run) → x ≡ Ok Accepted → q ≡ advanced t r o → record { run = q; answer = x } ≡ offered t r number o
  unfolding offered
  offered_accepted q p h = rw (← e, p, h) refl

  pub offered_repeated : x ≡ Ok Repeated → record { run = r; answer = x } ≡ offered t r number o
  unfolding offered
  offered_repeated p = rw (← e, p) refl

  pub offered_refused : (f : Refusal) → x ≡ Err f → record { run = r; answer = x } ≡ offered t r number o
  unfolding offered
  offered_refused f p = rw (← e, p) refl

-- the lists keep their lengths
pub offered_sized : (t : Tables) (r : Run) → Sized r → (number o : ℕ) → Sized (offered t r number o).run
unfolding offered
offered_sized t r sized number o = moved_sized (answered t r number o)
  where
    moved_sized : (a : Result Answer Refusal) → Sized (moved t r o a)
    moved_sized (Ok Accepted) = advanced_sized t r o sized
    moved_sized (Ok Repeated) = sized
    moved_sized (Err f) = sized

-- ALL THAT A STEP ASKS, an accepted offer had
pub step_asks : (t : Tables) (r : Run) (number o : ℕ) → answered t r number o ≡ Ok Accepted
    → (tables_fault t ≡ clean) × (o < t.counts.ops) × (r.len < most_steps) × Bounded r.len r.columns
step_asks t r number o e =
    let had = accepted_had t r number o e in
    (had.clean, had.exists, had.room, run_bounded t r (clean_valid t had.clean) had.run)

-- ---- a start

module _ (t : Tables) (s : List ℕ) where
  pub few_vars : input_fault t s ≡ clean → t.counts.vars ≤ most_vars
  unfolding input_fault
  few_vars p = (clean_valid t (clean_first (tables_fault t) (state_fault t.counts t.facts s) p)).vars.1

  pub begun_clean : (q : Run) → input_fault t s ≡ clean → q ≡ fresh (copied s t.counts.vars)
      → record { run = q; answer = Ok Accepted } ≡ begun t s
  unfolding begun started
  begun_clean q p h = rw (p, h) refl

  pub begun_fault : (f : Refusal) (q : Run) → input_fault t s ≡ Err f → q ≡ fresh (replicate most_vars 0)
      → record { run = q; answer = Err f } ≡ begun t s
  unfolding begun started
  begun_fault f q p h = rw (p, h) refl

  -- an accepted start: clean tables, a state of the task, and the fresh run
  pub record Began : Type 0 where
    pub input : input_fault t s ≡ clean
    pub clean : tables_fault t ≡ clean
    pub state : IsState (sas_of t) (state_of s)
    pub run : (begun t s).run ≡ fresh (copied s t.counts.vars)

  pub accepted_began : (begun t s).answer ≡ Ok Accepted → Began
  unfolding begun started input_fault
  accepted_began e =
      let p = no_fault (input_fault t s) (fresh (copied s t.counts.vars)) e in
      let own = state_fault t.counts t.facts s in
      record { input = p.0; clean = clean_first (tables_fault t) own p.0; state = ((state_clean t s).0 (clean_next (tables_fault t) own p.0)).1; run = p.1 }
    where
      no_fault : (x : Found) (r : Run) → (started x r).answer ≡ Ok Accepted → (x ≡ clean) × ((started x r).run ≡ r)
      no_fault (Ok tt) r e = (refl, refl)
      no_fault (Err f) r e = cc
