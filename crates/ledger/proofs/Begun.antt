-- The start that a run is begun with: the lent state's values, 0 beyond them, and inside the variables if the lent state is. Assumes nothing.
use Prim.Native.Nat.{ℕ, ◌≤◌, ◌<◌}
use mathlib.Core.Path.{◌≡◌, refl, sym, ◌∙◌}
use mathlib.Core.List.{List}
use mathlib.Core.Bool.{true}
use native.Mathlib.Omega.{arith}
use lib.ListN.{length, replicate, length-replicate}
use borrow.Author.Tests.{lt-ltb, eq-eqb}
use Rattle.scan.specs.Found.{clean}
use Rattle.meaning.specs.Limits.{most_vars}
use Rattle.meaning.specs.Sas.{IsState}
use Rattle.meaning.specs.Split.{Valid}
use Rattle.meaning.proofs.Facts.{true_every, by_order}
use Rattle.tables.specs.Layout.{Tables, dom_at}
use Rattle.tables.specs.Task.{task_of, sas_of, state_of}
use Rattle.tables.proofs.Laws.{filled_at, filled_later, length_filled}
use Rattle.tables.specs.Steps.{copied}
use Rattle.scan.specs.Scan.{input_fault}
use Rattle.ledger.specs.Ledger.{at_start, fresh, starts_at, start_in, started, begun}
use Rattle.ledger.proofs.Answers.{start_within, start_beyond}
use Rattle.ledger.proofs.Gains.{zeros_at}

-- the start that is taken from a lent state
abbrev pub start_of : Tables → List ℕ → List ℕ
start_of t s = copied s t.counts.vars

module _ (t : Tables) (s : List ℕ) (valid : Valid (task_of t)) where
  pub from_at : (v : ℕ) → v < t.counts.vars → state_of (start_of t s) v ≡ state_of s v
  unfolding copied
  from_at v h =
      filled_at (state_of s) (replicate most_vars 0) t.counts.vars v h
      (omega (arith, length-replicate {A = ℕ} most_vars 0, valid.vars.1))

  pub from_beyond : (v : ℕ) → t.counts.vars ≤ v → state_of (start_of t s) v ≡ 0
  unfolding copied
  from_beyond v h = filled_later (state_of s) (replicate most_vars 0) t.counts.vars v h ∙ zeros_at most_vars v

  -- so a start that is accepted has 0 beyond the variables, whatever the lent list has there
  pub begun_beyond : input_fault t s ≡ clean → (v : ℕ) → t.counts.vars ≤ v → state_of (begun t s).run.start v ≡ 0
  unfolding begun started fresh at_start
  begun_beyond p v h = rw p (from_beyond v h)

  pub from_size : length (start_of t s) ≡ most_vars
  unfolding copied
  from_size = length_filled (state_of s) (replicate most_vars 0) t.counts.vars ∙ length-replicate {A = ℕ} most_vars 0

  pub from_inside : IsState (sas_of t) (state_of s) → start_in t.counts t.facts (start_of t s) ≡ true
  unfolding start_in
  from_inside h = true_every (starts_at t.counts t.facts (start_of t s)) most_vars (λ v l. at v)
    where
      at : (v : ℕ) → starts_at t.counts t.facts (start_of t s) v ≡ true
      at v =
          let x = state_of (start_of t s) v in
          by_order v t.counts.vars
          (λ l.
          sym (start_within t.counts t.facts v x (dom_at t.facts v) l refl)
          ∙ lt-ltb x (dom_at t.facts v) (omega (arith, from_at v l, h v l)))
          (λ l. sym (start_beyond t.counts t.facts v x l) ∙ eq-eqb x 0 (from_beyond v l))
