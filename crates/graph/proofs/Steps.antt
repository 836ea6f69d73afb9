-- One step of a sequence, and the least over a first step. Assumes nothing.
use mathlib.Core.Path.{◌≡◌, refl, sym, subst}
use mathlib.Core.Logic.{◌⊎◌, inl, inr, ⊎_elim}
use mathlib.Core.Bool.{Bool, true, false, false≢true}
use Prim.Native.Nat.{ℕ, zero, suc, ◌+◌, ◌≤◌, ◌<◌, zero-le}
use native.Mathlib.Nat.{le_refl, le_of_suc-le-suc, not-suc-le-zero, eq-or-lt_of_le}
use native.Mathlib.Omega.{arith}
use Rattle.graph.specs.Cost.{Cost, none, fin, ◌⊑◌, plus}
use Rattle.graph.specs.Graph.{Next, stop, to, Graph, Onward}
use Rattle.graph.specs.Least.{at_goal, after_step, via, best}
use Rattle.graph.proofs.Costs.{⊑_none, lower_cases, lower_left, lower_right}

pub goal_if_at : (b : Bool) (c : ℕ) → at_goal b ⊑ c → b ≡ true
goal_if_at true c h = refl
goal_if_at false c h = absurd h

pub at_if_goal : (b : Bool) (c : ℕ) → b ≡ true → at_goal b ⊑ c
at_if_goal true c h = zero-le
at_if_goal false c h = absurd (false≢true h)

module _ (G : Graph) (T : ℕ → Cost) (a : ℕ) where
  -- the way by an operator: its price, 0 like any other, and then what T says of where it leads
  pub via_is : (o k : ℕ) (s : Next) → G.cost o ≡ k → G.succ o a ≡ s → via G T a o ≡ plus k (after_step T s)
  via_is o zero s p e = simp (p, e)
  via_is o (suc k) s p e = simp (p, e)

  pub via_to : (o b : ℕ) → G.succ o a ≡ to b → via G T a o ≡ plus (G.cost o) (T b)
  via_to o b e = via_is o (G.cost o) (to b) refl e

  pub via_elim : (o c : ℕ) → via G T a o ⊑ c → (b d : ℕ) × (G.succ o a ≡ to b) × (T b ⊑ d) × (G.cost o + d ≤ c)
  via_elim o c h = go (G.succ o a) refl
    where
      split : (b : ℕ) → G.succ o a ≡ to b → (v : Cost) → T b ≡ v → plus (G.cost o) v ⊑ c
          → (b d : ℕ) × (G.succ o a ≡ to b) × (T b ⊑ d) × (G.cost o + d ≤ c)
      split b s none e g = absurd g
      split b s (fin d) e g = (b, d, s, subst (λ (v : Cost). v ⊑ d) (sym e) (le_refl d), g)

      go : (s : Next) → G.succ o a ≡ s → (b d : ℕ) × (G.succ o a ≡ to b) × (T b ⊑ d) × (G.cost o + d ≤ c)
      go stop s = absurd (⊑_none (via G T a o) (via_is o (G.cost o) stop refl s) c h)
      go (to b) s = split b s (T b) refl (subst (λ (v : Cost). v ⊑ c) (via_to o b s) h)

  pub best_elim : (k c : ℕ) → best G T a k ⊑ c → (G.goal a ≡ true) ⊎ ((o : ℕ) × (o < k) × (via G T a o ⊑ c))
  best_elim zero c h = inl (goal_if_at (G.goal a) c h)
  best_elim (suc k) c h = ⊎_elim
      (λ l. ⊎_elim (λ g. inl g) (λ r. inr (r.0, omega arith, r.2)) (best_elim k c l))
      (λ r. inr (k, le_refl (suc k), r))
      (lower_cases (best G T a k) (via G T a k) c h)

  pub best_goal : (k c : ℕ) → G.goal a ≡ true → best G T a k ⊑ c
  best_goal zero c g = at_if_goal (G.goal a) c g
  best_goal (suc k) c g = lower_left (best G T a k) (via G T a k) c (best_goal k c g)

  pub best_op : (k c o : ℕ) → o < k → via G T a o ⊑ c → best G T a k ⊑ c
  best_op zero c o l h = absurd (not-suc-le-zero l)
  best_op (suc k) c o l h = ⊎_elim
      (λ e. lower_right (best G T a k) (via G T a k) c (subst (λ (x : ℕ). via G T a x ⊑ c) e h))
      (λ lt. lower_left (best G T a k) (via G T a k) c (best_op k c o lt h))
      (eq-or-lt_of_le (le_of_suc-le-suc l))

pub onward_intro : (P : ℕ → Type 0) (s : Next) (b : ℕ) → s ≡ to b → P b → Onward P s
onward_intro P s b e h = subst (λ (x : Next). Onward P x) (sym e) h

pub onward_elim : (P : ℕ → Type 0) (s : Next) → Onward P s → (b : ℕ) × (s ≡ to b) × P b
onward_elim P stop h = absurd h
onward_elim P (to b) h = (b, refl, h)
