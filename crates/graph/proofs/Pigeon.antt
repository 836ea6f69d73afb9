-- The pigeonhole principle on functions of numbers. Assumes nothing.
use mathlib.Core.Path.{◌≡◌, sym, ◌∙◌, subst}
use mathlib.Core.Logic.{◌⊎◌, inl, inr}
use Prim.Native.Nat.{ℕ, zero, suc, ◌≤◌, ◌<◌, zero-le}
use native.Mathlib.Nat.{le_refl, not-suc-le-zero}
use native.Mathlib.Decide.{ℕ_discrete}
use native.Mathlib.Omega.{arith}

-- f takes one value at two places up to n
pub record Twice (f : ℕ → ℕ) (n : ℕ) : Type 0 where
  pub p : ℕ
  pub q : ℕ
  pub less : p < q
  pub most : q ≤ n
  pub equal : f p ≡ f q

-- does f take the value v below k
seek : (f : ℕ → ℕ) (v k : ℕ) → ((p : ℕ) × (p < k) × (f p ≡ v)) ⊎ ((p : ℕ) → p < k → f p ≡ v → ⊥)
seek f v zero = inr (λ p l e. not-suc-le-zero l)
seek f v (suc k) = go (seek f v k) (ℕ_discrete (f k) v)
  where
    go : ((p : ℕ) × (p < k) × (f p ≡ v)) ⊎ ((p : ℕ) → p < k → f p ≡ v → ⊥) → Dec (f k ≡ v)
        → ((p : ℕ) × (p < suc k) × (f p ≡ v)) ⊎ ((p : ℕ) → p < suc k → f p ≡ v → ⊥)
    go (inl r) d = inl (r.0, omega arith, r.2)
    go (inr f') (yes e) = inl (k, le_refl (suc k), e)
    go (inr f') (no d) = inr (λ p l e. last p e (ℕ_discrete p k) l)
      where
        last : (p : ℕ) → f p ≡ v → Dec (p ≡ k) → p < suc k → ⊥
        last p e (yes pk) l = d (subst (λ (x : ℕ). f x ≡ v) pk e)
        last p e (no pk) l = f' p (omega arith) e

-- the value n is replaced by v
swap : (x n v : ℕ) → Dec (x ≡ n) → ℕ
swap x n v (yes e) = v
swap x n v (no d) = x

swap_less : (x n v : ℕ) (d : Dec (x ≡ n)) → x < suc n → v < suc n → (x ≡ v → ⊥) → swap x n v d < n
unfolding swap
swap_less x n v (yes e) l k ne = go (ℕ_discrete v n)
  where
    go : Dec (v ≡ n) → v < n
    go (yes vn) = absurd (ne (e ∙ sym vn))
    go (no vn) = omega arith
swap_less x n v (no d) l k ne = omega arith

swap_inj : (x y n v : ℕ) (d : Dec (x ≡ n)) (d' : Dec (y ≡ n)) → (x ≡ v → ⊥) → (y ≡ v → ⊥) → swap x n v d ≡ swap y n v d' → x ≡ y
unfolding swap
swap_inj x y n v (yes e) (yes e') nx ny h = e ∙ sym e'
swap_inj x y n v (yes e) (no e') nx ny h = absurd (ny (sym h))
swap_inj x y n v (no e) (yes e') nx ny h = absurd (nx h)
swap_inj x y n v (no e) (no e') nx ny h = h

pub pigeon : (n : ℕ) (f : ℕ → ℕ) → ((k : ℕ) → k ≤ n → f k < n) → Twice f n
pigeon zero f h = absurd (not-suc-le-zero (h 0 zero-le))
pigeon (suc n) f h = go (λ g w. pigeon n g w) (seek f (f (suc n)) (suc n))
  where
    g : ℕ → ℕ
    g k = swap (f k) n (f (suc n)) (ℕ_discrete (f k) n)

    go : ((g' : ℕ → ℕ) → ((k : ℕ) → k ≤ n → g' k < n) → Twice g' n)
        → ((p : ℕ) × (p < suc n) × (f p ≡ f (suc n))) ⊎ ((p : ℕ) → p < suc n → f p ≡ f (suc n) → ⊥) → Twice f (suc n)
    go ih (inl r) = record { p = r.0; q = suc n; less = r.1; most = le_refl (suc n); equal = r.2 }
    go ih (inr ne) =
        let t = ih g (λ k l. swap_less (f k) n (f (suc n)) (ℕ_discrete (f k) n) (h k (omega arith)) (h (suc n) (le_refl (suc n))) (ne k (omega arith))) in
        record {
          p = t.p;
          q = t.q;
          less = t.less;
          most = omega (arith, t.most);
          equal = swap_inj (f t.p) (f t.q) n (f (suc n)) (ℕ_discrete (f t.p) n) (ℕ_discrete (f t.q) n)
              (ne t.p (omega (arith, t.less, t.most))) (ne t.q (omega (arith, t.most))) t.equal;
        }
