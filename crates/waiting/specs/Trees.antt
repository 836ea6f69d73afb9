-- The states that wait, in a tree of least keys. A row of 4,368 numbers holds it: 16 nodes at the top, 256 nodes below them, and below those a leaf for each of 4,096
-- states, with the key that the state waits with. The 16 children of node i stand from place 16 + 16 × i on. Nothing here needs to be believed.
use Rattle.std.specs.Prelude.{◌≡◌, List, ℕ, zero, suc, ◌+◌, ◌*◌, ◌<◌, min, length, get_or}

-- the key of a state that doesn't wait; one that waits has a lower key
abbrev pub NOKEY : ℕ
NOKEY = 72057594037927936

-- the least of NOKEY and the k numbers from place at on
unfoldable pub lowest : List ℕ → ℕ → ℕ → ℕ
lowest t at zero = NOKEY
lowest t at (suc k) = min (lowest t at k) (get_or t (at + k) 0)

-- the key of state a
abbrev pub leaf : List ℕ → ℕ → ℕ
leaf t a = get_or t (272 + a) 0

-- node i holds the least key of its children
abbrev pub HoldsLeast : List ℕ → ℕ → Type 0
HoldsLeast t i = get_or t i 0 ≡ lowest t (16 + 16 * i) 16

-- so does every node
abbrev pub Tree : List ℕ → Type 0
Tree t = (i : ℕ) → i < 272 → HoldsLeast t i

-- t' is a tree with this key for state a, and the keys of t for all others
pub record Leafed (a key : ℕ) (t t' : List ℕ) : Type 0 where
  pub size : length t' ≡ length t
  pub tree : Tree t'
  pub here : leaf t' a ≡ key
  pub others : (b : ℕ) → (b ≡ a → ⊥) → leaf t' b ≡ leaf t b
