-- What is told first of what every entry that takes a state is handed: a fault of the tables, whatever the state; then 8 for a state that is too short;
-- then 9 at the lowest variable whose value is outside. By the rules in their order. Assumes nothing.
use Prim.Native.Nat.{ℕ, ◌≤◌, ◌<◌}
use mathlib.Core.Path.{◌≡◌}
use mathlib.Core.List.{List}
use lib.ListN.{length}
use borrow.Author.Tests.{lt-leb, le-leb, lt-ltb, le-ltb}
use Rattle.std.specs.Prelude.{Err}
use Rattle.scan.specs.Found.{clean}
use Rattle.refusals.specs.declared.Refusal.{Refusal}
use Rattle.refusals.specs.declared.Refusal.TheVariants.{TableTooShort, ValueOutside}
use Rattle.tables.specs.declared.Counts.{Counts}
use Rattle.tables.specs.Layout.{Tables, dom_at}
use Rattle.tables.specs.Task.{state_of}
use Rattle.scan.specs.Scan.{tables_fault, state_fault, input_fault}
use Rattle.scan.proofs.Walks.{kept, broken, walk_here, clean_walk}

module _ (t : Tables) (s : List ℕ) where
  pub tables_first : (r : Refusal) → tables_fault t ≡ Err r → input_fault t s ≡ Err r
  unfolding input_fault
  tables_first r p = rw p

  pub state_next : tables_fault t ≡ clean → input_fault t s ≡ state_fault t.counts t.facts s
  unfolding input_fault
  state_next p = rw p

module _ (c : Counts) (facts s : List ℕ) where
  pub state_short : length s < c.vars → state_fault c facts s ≡ Err TableTooShort
  unfolding state_fault
  state_short h = rw (lt-leb c.vars (length s) h)

  pub lowest_told : (v : ℕ) → c.vars ≤ length s → v < c.vars → ((u : ℕ) → u < v → state_of s u < dom_at facts u) → dom_at facts v ≤ state_of s v
      → state_fault c facts s ≡ Err (ValueOutside v)
  unfolding state_fault
  lowest_told v long l below out =
      rw (le-leb c.vars (length s) long)
      (walk_here _ c.vars v (ValueOutside v)
      (clean_walk _ v (λ u h. kept (ValueOutside u) (lt-ltb (state_of s u) (dom_at facts u) (below u h)))) l
      (broken (ValueOutside v) (le-ltb (state_of s v) (dom_at facts v) out)))
