-- Where a task's numbers stand in the lent tables: the one place that knows the layout.
-- A fact's place holds 0 where nothing is said of the variable, and k + 1 where it has the value k.
use Rattle.std.specs.Prelude.{ℕ, ◌+◌, ◌*◌, List, get_or}
use Rattle.tables.specs.declared.Counts.{Counts}
use Rattle.tables.specs.Editions.{read_in}

-- the tables of a task: its counts, its facts (a byte each), its costs and its shares
pub record Tables : Type 0 where
  pub counts : Counts
  pub facts : List ℕ
  pub costs : List ℕ
  pub shares : List ℕ

-- the facts stand in rows of 8 places: a place for each variable, or in a row of classes for each value
abbrev pub place : ℕ → ℕ → ℕ
place row v = row * 8 + v

-- how many values the variables have, the initial state, the goal
abbrev pub dom_row : ℕ
dom_row = 0

abbrev pub init_row : ℕ
init_row = 1

abbrev pub goal_row : ℕ
goal_row = 2

-- operator o's preconditions and effects; the classes of variable v in map m
abbrev pub pre_row : ℕ → ℕ
pre_row o = 3 + o

abbrev pub eff_row : ℕ → ℕ
eff_row o = 67 + o

abbrev pub class_row : ℕ → ℕ → ℕ
class_row m v = 131 + (m * 8 + v)

-- the operators' marks: as many places as there may be operators, so that they fill this row and the 7 after it, the last
abbrev pub mark_row : ℕ
mark_row = 195

-- the room for the largest task: 8 variables of 8 values, 64 operators, 8 maps
abbrev pub facts_room : ℕ
facts_room = 1624

abbrev pub costs_room : ℕ
costs_room = 64

abbrev pub shares_room : ℕ
shares_room = 512

-- the places of the facts, one by one
abbrev pub dom_place : ℕ → ℕ
dom_place v = place dom_row v

abbrev pub init_place : ℕ → ℕ
init_place v = place init_row v

abbrev pub goal_place : ℕ → ℕ
goal_place v = place goal_row v

abbrev pub pre_place : ℕ → ℕ → ℕ
pre_place o v = place (pre_row o) v

abbrev pub eff_place : ℕ → ℕ → ℕ
eff_place o v = place (eff_row o) v

abbrev pub class_place : ℕ → ℕ → ℕ → ℕ
class_place m v x = place (class_row m v) x

abbrev pub mark_place : ℕ → ℕ
mark_place o = place mark_row o

-- in the shares: what operator o costs in map m
abbrev pub share_place : ℕ → ℕ → ℕ
share_place m o = m * 64 + o

-- what stands in a row
abbrev pub row_at : List ℕ → ℕ → ℕ → ℕ
row_at f row v = get_or f (place row v) 0

abbrev pub dom_at : List ℕ → ℕ → ℕ
dom_at f v = row_at f dom_row v

abbrev pub init_at : List ℕ → ℕ → ℕ
init_at f v = row_at f init_row v

abbrev pub goal_at : List ℕ → ℕ → ℕ
goal_at f v = row_at f goal_row v

abbrev pub pre_at : List ℕ → ℕ → ℕ → ℕ
pre_at f o v = row_at f (pre_row o) v

abbrev pub eff_at : List ℕ → ℕ → ℕ → ℕ
eff_at f o v = row_at f (eff_row o) v

abbrev pub class_at : List ℕ → ℕ → ℕ → ℕ → ℕ
class_at f m v x = row_at f (class_row m v) x

abbrev pub mark_at : List ℕ → ℕ → ℕ
mark_at f o = row_at f mark_row o

abbrev pub cost_at : List ℕ → ℕ → ℕ
cost_at c o = get_or c o 0

abbrev pub share_at : List ℕ → ℕ → ℕ → ℕ
share_at s m o = get_or s (share_place m o) 0

-- the quota and the mark of operator o, which edition 2 alone reads
abbrev pub quota_of : Counts → ℕ
quota_of c = read_in c.edition c.quota

abbrev pub mark_of : Counts → List ℕ → ℕ → ℕ
mark_of c f o = read_in c.edition (mark_at f o)
