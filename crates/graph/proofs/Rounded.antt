-- The count of rounds exists, is unique, never passes the number of states, and its table holds the distances. Assumes nothing.
use mathlib.Core.Path.{◌≡◌, sym, subst}
use mathlib.Core.Logic.{◌⊎◌, inl, inr, ⊎_elim}
use Prim.Native.Nat.{ℕ, zero, suc, ◌-◌, ◌≤◌, ◌<◌}
use native.Mathlib.Nat.{le_refl, le_of_suc-le-suc, not-suc-le-zero, eq-or-lt_of_le}
use native.Mathlib.Decide.{dec_le, dec_lt}
use native.Mathlib.Omega.{arith}
use Rattle.graph.specs.Graph.{Graph, Closed, IsLeast, AnyLength}
use Rattle.graph.specs.Least.{least, Unchanged, Rounds}
use Rattle.graph.proofs.Costs.{cost_dec}
use Rattle.graph.proofs.Settles.{any_length, settled}

module _ (G : Graph) where
  unchanged_if : (i : ℕ) → ((a : ℕ) → a < G.states → least G (suc i) a ≡ least G i a) → Unchanged G (suc i)
  unchanged_if i e a l = let q : suc i - 1 ≡ i = omega arith in rw q (e a l)

  pub settled_at : Closed G → (k : ℕ) → 1 ≤ k → G.states ≤ k → Unchanged G k
  settled_at closed zero p l = absurd (not-suc-le-zero p)
  settled_at closed (suc i) p l = unchanged_if i (settled G closed i l)

  pub rounds_most : Closed G → (r : ℕ) → 1 ≤ G.states → Rounds G r → r ≤ G.states
  rounds_most closed r p R = go (dec_le r G.states)
    where
      go : Dec (r ≤ G.states) → r ≤ G.states
      go (yes l) = l
      go (no l) = absurd (R.smallest G.states p (omega arith) (settled_at closed G.states p (le_refl G.states)))

  pub rounds_unique : (r s : ℕ) → Rounds G r → Rounds G s → r ≡ s
  rounds_unique r s R S = go (dec_lt r s) (dec_lt s r)
    where
      go : Dec (r < s) → Dec (s < r) → r ≡ s
      go (yes l) d = absurd (S.smallest r (omega (arith, R.positive)) l R.unchanged)
      go (no l) (yes k) = absurd (R.smallest s (omega (arith, S.positive)) k S.unchanged)
      go (no l) (no k) = omega arith

  -- the table of the counted round is the least over lists of any length
  pub rounds_least : Closed G → (r : ℕ) → Rounds G r → (a : ℕ) → a < G.states → IsLeast G AnyLength a (least G r a)
  rounds_least closed zero R a l = absurd (not-suc-le-zero R.positive)
  rounds_least closed (suc i) R a l =
      let q : suc i - 1 ≡ i = omega arith in
      let e : (b : ℕ) → b < G.states → least G (suc i) b ≡ least G i b = λ b k. rw q at (R.unchanged b k) in
      rw (e a l) (any_length G closed i e a l)

dec_below : (P : ℕ → Type 0) → ((k : ℕ) → Dec (P k)) → (n : ℕ) → Dec ((k : ℕ) → k < n → P k)
dec_below P d zero = yes (λ k l. absurd (not-suc-le-zero l))
dec_below P d (suc n) = go (dec_below P d n) (d n)
  where
    go : Dec ((k : ℕ) → k < n → P k) → Dec (P n) → Dec ((k : ℕ) → k < suc n → P k)
    go (no f) e = no (λ h. f (λ k l. h k (omega arith)))
    go (yes f) (no e) = no (λ h. e (h n (le_refl (suc n))))
    go (yes f) (yes e) = yes (λ k l. ⊎_elim (λ q. subst P (sym q) e) (λ lt. f k lt) (eq-or-lt_of_le (le_of_suc-le-suc l)))

module _ (G : Graph) where
  unchanged_dec : (k : ℕ) → Dec (Unchanged G k)
  unchanged_dec k = dec_below (λ a. least G k a ≡ least G (k - 1) a) (λ a. cost_dec (least G k a) (least G (k - 1) a)) G.states

  -- among the rounds 1 to k either one is the first unchanged, or all change
  look : (k : ℕ) → ((r : ℕ) × Rounds G r) ⊎ ((j : ℕ) → 1 ≤ j → j ≤ k → Unchanged G j → ⊥)
  look zero = inr (λ j p l s. absurd (not-suc-le-zero (let z : 1 ≤ 0 = omega arith in z)))
  look (suc k) = go (look k) (unchanged_dec (suc k))
    where
      go : ((r : ℕ) × Rounds G r) ⊎ ((j : ℕ) → 1 ≤ j → j ≤ k → Unchanged G j → ⊥) → Dec (Unchanged G (suc k))
          → ((r : ℕ) × Rounds G r) ⊎ ((j : ℕ) → 1 ≤ j → j ≤ suc k → Unchanged G j → ⊥)
      go (inl r) d = inl r
      go (inr f) (yes s) = inl (suc k, record { positive = omega arith; unchanged = s; smallest = λ j p l. f j p (le_of_suc-le-suc l) })
      go (inr f) (no d) = inr (λ j p l s. ⊎_elim (λ e. d (subst (λ (x : ℕ). Unchanged G x) e s)) (λ lt. f j p (le_of_suc-le-suc lt) s) (eq-or-lt_of_le l))

  pub rounds_exist : Closed G → 1 ≤ G.states → (r : ℕ) × Rounds G r
  rounds_exist closed p = ⊎_elim (λ r. r) (λ f. absurd (f G.states p (le_refl G.states) (settled_at G closed G.states p (le_refl G.states)))) (look G.states)
