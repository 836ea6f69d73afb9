-- A sequence keeps the quota exactly if no step of it stores beyond the quota; the count only grows along a list, so every part of a sequence that keeps the
-- quota keeps it; and what stores nothing keeps every quota. By induction over the list. Assumes nothing.
use mathlib.Core.Path.{◌≡◌, refl}
use mathlib.Core.Bool.{true, false}
use mathlib.Core.Logic.{◌↔◌}
use mathlib.Core.List.{List, [], ◌∷◌, ◌++◌}
use Prim.Native.Nat.{ℕ, ◌+◌, ◌≤◌, ◌<◌}
use native.Mathlib.Omega.{arith}
use borrow.Author.Tests.{leb-true, leb-false, le-leb, lt-leb}
use Rattle.meaning.specs.Sas.{paid}
use Rattle.meaning.specs.Split.{Task}
use Rattle.meaning.specs.Quota.{stored, KeepsQuota, may_store, StoresWithin}

-- what a list adds to any count, in two parts
pub paid_parts : (p : ℕ → ℕ) (os qs : List ℕ) → paid p (os ++ qs) ≡ paid p os + paid p qs
paid_parts p [] qs = omega arith
paid_parts p (o ∷ os) qs = omega (arith, paid_parts p os qs)

module _ (T : Task) where
  -- ---- the test of a step

  pub may_store_lem : (n o : ℕ) → may_store T n o ≡ true → n + T.mark o ≤ T.quota
  unfolding may_store
  may_store_lem n o h = leb-true (n + T.mark o) T.quota h

  pub may_not_store : (n o : ℕ) → may_store T n o ≡ false → T.quota < n + T.mark o
  unfolding may_store
  may_not_store n o h = leb-false (n + T.mark o) T.quota h

  pub stores_within : (n o : ℕ) → n + T.mark o ≤ T.quota → may_store T n o ≡ true
  unfolding may_store
  stores_within n o h = le-leb (n + T.mark o) T.quota h

  pub stores_beyond : (n o : ℕ) → T.quota < n + T.mark o → may_store T n o ≡ false
  unfolding may_store
  stores_beyond n o h = lt-leb (n + T.mark o) T.quota h

  -- ---- sequences

  pub within_total : (os : List ℕ) (n : ℕ) → n ≤ T.quota → StoresWithin T n os → n + stored T os ≤ T.quota
  within_total [] n l h = omega arith
  within_total (o ∷ os) n l h = omega (arith, within_total os (n + T.mark o) h.0 h.1)

  pub total_within : (os : List ℕ) (n : ℕ) → n + stored T os ≤ T.quota → StoresWithin T n os
  total_within [] n h = tt
  total_within (o ∷ os) n h = (omega arith, total_within os (n + T.mark o) (omega arith))

  -- the sequence keeps the quota exactly if no step of it stores beyond the quota
  pub keeps_exactly : (os : List ℕ) → KeepsQuota T os ↔ StoresWithin T 0 os
  keeps_exactly os = (λ h. total_within os 0 (omega arith), λ h. omega (arith, within_total os 0 (omega arith) h))

  -- its parts keep it too
  pub front_keeps : (os qs : List ℕ) → KeepsQuota T (os ++ qs) → KeepsQuota T os
  front_keeps os qs h = omega (arith, paid_parts T.mark os qs)

  pub back_keeps : (os qs : List ℕ) → KeepsQuota T (os ++ qs) → KeepsQuota T qs
  back_keeps os qs h = omega (arith, paid_parts T.mark os qs)

  -- where no operator stores a test, every sequence keeps the quota
  pub nothing_stored : ((o : ℕ) → T.mark o ≡ 0) → (os : List ℕ) → stored T os ≡ 0
  nothing_stored h [] = refl
  nothing_stored h (o ∷ os) = omega (arith, h o, nothing_stored h os)

  pub unmarked_keeps : ((o : ℕ) → T.mark o ≡ 0) → (os : List ℕ) → KeepsQuota T os
  unmarked_keeps h os = omega (arith, nothing_stored h os)
