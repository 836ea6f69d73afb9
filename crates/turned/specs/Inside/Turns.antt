-- How the operators are turned round, place by place.
use Rattle.std.specs.Prelude.{◌≡◌, List, ℕ, zero, suc, ◌+◌, ◌*◌, ◌/◌, ◌%◌, ◌≤◌, ◌<◌, length, get_or}
use Rattle.meaning.specs.Numbering.{size, number}
use Rattle.meaning.specs.Numbering as numbering
use Rattle.meaning.specs.Sas.{put}
use Rattle.tables.specs.declared.Counts.{Counts}
use Rattle.tables.specs.Layout.{dom_at, pre_at, eff_at}
use Rattle.turned.specs.Inside.Backs.{drop_at, lift_at, count_at}
use Rattle.turned.specs.declared.back.Turned.{Turned}

-- the value before a step that has an effect: that of the precondition, or 0 where there is none and any value will do
abbrev pub lift_of : ℕ → ℕ → ℕ
lift_of pre zero = 0
lift_of zero (suc e) = 0
lift_of (suc p) (suc e) = p

-- how many values of a variable will do before the step, beside the one that it has after it
abbrev pub ways_of : ℕ → ℕ → ℕ → ℕ
ways_of pre zero k = 1
ways_of zero (suc e) k = k
ways_of (suc p) (suc e) k = 1

abbrev pub ways_at : List ℕ → ℕ → ℕ → ℕ
ways_at facts o v = ways_of (pre_at facts o v) (eff_at facts o v) (dom_at facts v)

abbrev pub drop_digit : List ℕ → ℕ → ℕ → ℕ
drop_digit facts o v = put (eff_at facts o v) 0

abbrev pub lift_digit : List ℕ → ℕ → ℕ → ℕ
lift_digit facts o v = lift_of (pre_at facts o v) (eff_at facts o v)

-- the i-th of the numbers that the first v variables' values can add
unfoldable pub offset : List ℕ → ℕ → ℕ → ℕ → ℕ
offset facts o zero i = 0
offset facts o (suc v) i = offset facts o v (i % size (ways_at facts o) v) + i / size (ways_at facts o) v * size (dom_at facts) v

-- the first len places, again and again, each time with stride more
pub record Spread (len end stride : ℕ) (t t' : List ℕ) : Type 0 where
  pub size : length t' ≡ length t
  pub rule : (j : ℕ) → j < end → get_or t' j 0 ≡ get_or t (j % len) 0 + j / len * stride
  pub beyond : (x : ℕ) → end ≤ x → get_or t' x 0 ≡ get_or t x 0

-- the first len places hold the offsets of the first v variables
pub record Listed (facts : List ℕ) (o v len : ℕ) (t t' : List ℕ) : Type 0 where
  pub size : length t' ≡ length t
  pub count : len ≡ numbering.size (ways_at facts o) v
  pub list : (i : ℕ) → i < len → get_or t' i 0 ≡ offset facts o v i
  pub beyond : (x : ℕ) → len ≤ x → get_or t' x 0 ≡ get_or t x 0

-- operator o is turned round: its places of turns and of back
pub record TurnedAt (c : Counts) (facts : List ℕ) (n : ℕ) (turns : List Turned) (back : List ℕ) (o : ℕ) : Type 0 where
  pub drop : drop_at turns o ≡ number (dom_at facts) (drop_digit facts o) c.vars
  pub lift : lift_at turns o ≡ number (dom_at facts) (lift_digit facts o) c.vars
  pub count : count_at turns o ≡ size (ways_at facts o) c.vars
  pub list : (i : ℕ) → i < size (ways_at facts o) c.vars → get_or back (o * n + i) 0 ≡ offset facts o c.vars i

-- what was found of operator o
pub record TurnedTo (c : Counts) (facts : List ℕ) (o : ℕ) (r : Turned) : Type 0 where
  pub drop : r.drop ≡ number (dom_at facts) (drop_digit facts o) c.vars
  pub lift : r.lift ≡ number (dom_at facts) (lift_digit facts o) c.vars
