-- What is read of the lent tables beside a row of records: the task's own places, without those of the operators' facts and marks, which the row gives.
use Rattle.std.specs.Prelude.{◌≡◌, List, ℕ, ◌<◌, leb, length}
use Rattle.tables.specs.declared.Counts.{Counts}
use Rattle.tables.specs.Layout.{facts_room, shares_room, dom_at, init_at, goal_at, class_at, share_at}

-- two contents of the facts and the shares both have room or neither, and agree at the own places of a task of n operators; the operators' rows and marks may
-- differ. Edition and quota are handed over with the counts
pub record OwnBeside (c : Counts) (n : ℕ) (f g s z : List ℕ) : Type 0 where
  pub facts_room_lem : leb facts_room (length f) ≡ leb facts_room (length g)
  pub shares_room_lem : leb shares_room (length s) ≡ leb shares_room (length z)
  pub dom : (v : ℕ) → v < c.vars → dom_at f v ≡ dom_at g v
  pub init : (v : ℕ) → v < c.vars → init_at f v ≡ init_at g v
  pub goal : (v : ℕ) → v < c.vars → goal_at f v ≡ goal_at g v
  pub class : (m v x : ℕ) → m < c.maps → v < c.vars → x < dom_at f v → class_at f m v x ≡ class_at g m v x
  pub share : (m o : ℕ) → m < c.maps → o < n → share_at s m o ≡ share_at z m o
