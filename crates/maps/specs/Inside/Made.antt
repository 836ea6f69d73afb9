-- Tables that are set place by place.
use Rattle.std.specs.Prelude.{◌≡◌, List, ℕ, ◌≤◌, ◌<◌, length, get_or}

-- each of the first k places of t is as P says, and the others are those of t₀
pub record Made (P : ℕ → ℕ → Type 0) (k : ℕ) (t₀ t : List ℕ) : Type 0 where
  pub size : length t ≡ length t₀
  pub made : (a : ℕ) → a < k → P a (get_or t a 0)
  pub kept : (a : ℕ) → k ≤ a → get_or t a 0 ≡ get_or t₀ a 0

-- the first k places are those of s
abbrev pub Copied : ℕ → List ℕ → List ℕ → List ℕ → Type 0
Copied k s t₀ t = Made (λ a x. x ≡ get_or s a 0) k t₀ t
