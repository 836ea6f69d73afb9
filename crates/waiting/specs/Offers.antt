-- What is done with a label that is offered to a state: L are the labels of the states, t the tree of those that wait, and β the operators. Nothing here needs to be believed.
use Rattle.std.specs.Prelude.{◌≡◌, List, ℕ, ◌+◌, ◌*◌, ◌<◌, min, length, get_or}
use Rattle.waiting.specs.Trees.{NOKEY, leaf, Tree}

-- the label that stands for none; every other is lower
abbrev pub NOLABEL : ℕ
NOLABEL = 17592186044416

-- if state a waits, its key is made of its label and its number: the lowest label comes first, and of equal ones the lowest number
abbrev pub Shaped : List ℕ → List ℕ → ℕ → Type 0
Shaped L t a = leaf t a < NOKEY → leaf t a ≡ get_or L a 0 * 4096 + a

-- label `new` was offered to state a, by way of operator o: a lower label than it had is taken, with its operator, and the state waits; an equal one leaves the
-- label, and of the two operators the lower; a higher one changes nothing. Nothing changes at another state
pub record Offered (a o new : ℕ) (L t β L' t' β' : List ℕ) : Type 0 where
  pub size_L : length L' ≡ length L
  pub size_t : length t' ≡ length t
  pub size_β : length β' ≡ length β
  pub tree : Tree t'
  pub label : get_or L' a 0 ≡ min (get_or L a 0) new
  pub labels : (x : ℕ) → (x ≡ a → ⊥) → get_or L' x 0 ≡ get_or L x 0
  pub lowered : new < get_or L a 0 → (leaf t' a ≡ new * 4096 + a) × (get_or β' a 0 ≡ o)
  pub equal : new ≡ get_or L a 0 → (leaf t' a ≡ leaf t a) × (get_or β' a 0 ≡ min (get_or β a 0) o)
  pub above : get_or L a 0 < new → (leaf t' a ≡ leaf t a) × (get_or β' a 0 ≡ get_or β a 0)
  pub leaves : (x : ℕ) → (x ≡ a → ⊥) → leaf t' x ≡ leaf t x
  pub steps : (x : ℕ) → (x ≡ a → ⊥) → get_or β' x 0 ≡ get_or β x 0
