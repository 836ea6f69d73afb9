-- The quota of stored tests: which sequences keep it. It stands beside `Runs` and `Passes`, and no distance and no bound asks for it.
use Rattle.std.specs.Prelude.{Bool, List, [], ◌∷◌, ℕ, ◌+◌, ◌≤◌, leb}
use Rattle.meaning.specs.Sas.{State, Runs, Passes, paid}
use Rattle.meaning.specs.Split.{Task}

-- how many tests a sequence stores: its storing steps, counted from 0
abbrev pub stored : Task → List ℕ → ℕ
stored T os = paid T.mark os

-- THE SEQUENCE KEEPS THE QUOTA: it stores no more tests than that. `keeps_exactly` (proofs/Quota.antt) shows that this is so exactly if no step of it stores
-- beyond the quota
abbrev pub KeepsQuota : Task → List ℕ → Type 0
KeepsQuota T os = stored T os ≤ T.quota

-- after n stored tests operator o doesn't store beyond the quota: one that stores nothing never does, and one that stores a test does if n is the quota
unfoldable pub may_store : Task → ℕ → ℕ → Bool
may_store T n o = leb (n + T.mark o) T.quota

-- after n stored tests no step of the sequence stores beyond the quota
abbrev pub StoresWithin : Task → ℕ → List ℕ → Type 0
StoresWithin T n [] = Unit {0}
StoresWithin T n (o ∷ os) = (n + T.mark o ≤ T.quota) × StoresWithin T (n + T.mark o) os

-- the steps may run one after the other from s, and keep the quota; the sequence passes, and keeps it
abbrev pub RunsWithin : Task → List ℕ → State → Type 0
RunsWithin T os s = Runs T.sas os s × KeepsQuota T os

abbrev pub PassesWithin : Task → List ℕ → State → Type 0
PassesWithin T os s = Passes T.sas os s × KeepsQuota T os
