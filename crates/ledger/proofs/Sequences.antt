-- Laws of sequences: one step more at the end, two parts, and states that agree on the variables. Assumes nothing.
use Prim.Native.Nat.{ℕ, ◌+◌, ◌*◌, ◌≤◌, ◌<◌}
use mathlib.Core.Path.{◌≡◌, refl, ap₂, subst}
use mathlib.Core.List.{List, [], ◌∷◌, ◌++◌}
use native.Mathlib.Omega.{arith}
use lib.ListN.{length}
use Rattle.meaning.specs.Sas.{State, Sas, Holds, after, Runs, end, paid}
use Rattle.meaning.specs.Split.{sum}
use Rattle.meaning.proofs.Sums.{sum_add, sum_zero}
use Rattle.meaning.proofs.Space.{after_same}

module _ (S : Sas) where
  pub end_append : (os ps : List ℕ) (s : State) → end S (os ++ ps) s ≡ end S ps (end S os s)
  end_append [] ps s = refl
  end_append (o ∷ os) ps s = end_append os ps (after S o s)

  pub runs_append : (os ps : List ℕ) (s : State) → Runs S os s → Runs S ps (end S os s) → Runs S (os ++ ps) s
  runs_append [] ps s h g = g
  runs_append (o ∷ os) ps s h g = (h.0, h.1, runs_append os ps (after S o s) h.2 g)

  pub runs_later : (os ps : List ℕ) (s : State) → Runs S (os ++ ps) s → Runs S ps (end S os s)
  runs_later [] ps s h = h
  runs_later (o ∷ os) ps s h = runs_later os ps (after S o s) h.2

  -- states that agree on the variables run the same sequences to states that agree on the variables
  pub runs_same : (os : List ℕ) (s t : State) → ((v : ℕ) → v < S.vars → s v ≡ t v) → Runs S os s → Runs S os t
  runs_same [] s t h r = tt
  runs_same (o ∷ os) s t h r = (
    r.0,
    λ v l. subst (Holds (S.pre o v)) (h v l) (r.1 v l),
    runs_same os (after S o s) (after S o t) (after_same S o s t h) r.2,
  )

  pub end_same : (os : List ℕ) (s t : State) → ((v : ℕ) → v < S.vars → s v ≡ t v) → (v : ℕ) → v < S.vars → end S os s v ≡ end S os t v
  end_same [] s t h v l = h v l
  end_same (o ∷ os) s t h v l = end_same os (after S o s) (after S o t) (after_same S o s t h) v l

-- prices that agree on the task's operators give the same sum
pub paid_same : (S : Sas) (p q : ℕ → ℕ) → ((o : ℕ) → o < S.ops → p o ≡ q o) → (os : List ℕ) (s : State) → Runs S os s
    → paid p os ≡ paid q os
paid_same S p q h [] s r = refl
paid_same S p q h (o ∷ os) s r = ap₂ ◌+◌ (h o r.0) (paid_same S p q h os (after S o s) r.2)

-- prices of at most k give at most k for each step
pub paid_most : (S : Sas) (p : ℕ → ℕ) (k : ℕ) → ((o : ℕ) → o < S.ops → p o ≤ k) → (os : List ℕ) (s : State) → Runs S os s
    → paid p os ≤ length os * k
paid_most S p k h [] s r = omega arith
paid_most S p k h (o ∷ os) s r = omega (arith, h o r.0, paid_most S p k h os (after S o s) r.2)

-- the sums of several prices are the sum of the prices' total
pub paid_sum : (p : ℕ → ℕ → ℕ) (k : ℕ) (os : List ℕ) → sum (λ c. paid (p c) os) k ≡ paid (λ o. sum (λ c. p c o) k) os
paid_sum p k [] = sum_zero k
paid_sum p k (o ∷ os) = omega (arith, sum_add (λ c. p c o) (λ c. paid (p c) os) k, paid_sum p k os)
