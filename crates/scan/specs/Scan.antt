-- The first fault of handed-in tables, by the text's rules and in the text's order: the lines one after another, each from left to right.
-- A line is the one that the same task's text would have.
use Rattle.scan.specs.Found.{Found, clean}
use Rattle.std.specs.Prelude.{Bool, true, false, ◌&&◌, not, List, ℕ, zero, suc, leb, ltb, length, Ok, Err}
use Rattle.refusals.specs.declared.Refusal.{Refusal}
use Rattle.refusals.specs.declared.Refusal.TheVariants.{OutOfRange, ClassMissing, SharesAboveCost, TooManyStates, TableTooShort, ValueOutside, IdleOperator}
use Rattle.meaning.specs.Sas.{Facts}
use Rattle.meaning.specs.Views.{abstract_states, idle}
use Rattle.meaning.specs.Limits.{most_vars, most_values, most_ops, most_cost, most_maps, most_states, most_edition, most_quota, most_mark}
use Rattle.meaning.specs.Split.{Task, sum, view}
use Rattle.tables.specs.declared.Counts.{Counts}
use Rattle.tables.specs.Layout.{Tables, facts_room, costs_room, shares_room, dom_at}
use Rattle.tables.specs.Task.{task_of, state_of}
use Rattle.tables.specs.Classes.{none_missing}
use Rattle.tables.specs.Lines.{line_of_edition, line_of_vars, line_of_dom, line_of_init, line_of_goal, line_of_quota, line_of_ops, line_of_op, line_of_maps, line_of_map, line_of_shares}

infixr 20 ◌then◌
-- a rule that holds, or the refusal that it is broken with
abbrev pub unless : Bool → Refusal → Found
unless true r = clean
unless false r = Err r

-- the first fault decides
abbrev pub ◌then◌ : Found → Found → Found
Ok tt then g = g
Err r then g = Err r

-- the rules f i, f (i + 1), .., n of them
unfoldable pub each : (ℕ → Found) → ℕ → ℕ → Found
each f zero i = clean
each f (suc n) i = f i then each f n (suc i)

-- from lo to hi
abbrev pub within : ℕ → ℕ → ℕ → Bool
within lo hi x = leb lo x && leb x hi

-- facts that name a value of their variable
unfoldable pub facts_fault : Task → Facts → ℕ → Found
facts_fault T F line = each (λ v. unless (leb (F v) (T.sas.dom v)) (OutOfRange line)) T.sas.vars 0

-- the line of operator o: the operator's cost, its preconditions, its effects, its mark; at its end it isn't idle
unfoldable pub operator_fault : Task → ℕ → Found
operator_fault T o =
    unless (leb (T.sas.cost o) most_cost) (OutOfRange (line_of_op T.edition o))
    then facts_fault T (T.sas.pre o) (line_of_op T.edition o)
    then facts_fault T (T.sas.eff o) (line_of_op T.edition o)
    then unless (leb (T.mark o) most_mark) (OutOfRange (line_of_op T.edition o))
    then unless (not (idle T.sas o)) (IdleOperator (line_of_op T.edition o))

-- a variable's classes: each below its number of values; at their end none missing
unfoldable pub classes_fault : Task → ℕ → ℕ → ℕ → Found
classes_fault T m line v =
    each (λ x. unless (ltb (T.class m v x) (T.sas.dom v)) (OutOfRange line)) (T.sas.dom v) 0
    then unless (none_missing (T.class m v) (T.sas.dom v)) (ClassMissing line)

-- the line of map m: variable by variable, and at its end not too many abstract states
unfoldable pub map_fault : Task → ℕ → Found
map_fault T m =
    each (classes_fault T m (line_of_map T.edition T.sas.ops m)) T.sas.vars 0
    then unless (leb (abstract_states T.sas (view T m)) most_states) (TooManyStates (line_of_map T.edition T.sas.ops m))

-- the line of map m's shares
unfoldable pub shares_fault : Task → ℕ → Found
shares_fault T m =
    each (λ o. unless (leb (T.share m o) most_cost) (OutOfRange (line_of_shares T.edition T.sas.ops T.maps m))) T.sas.ops 0

-- after all else: an operator's shares total at most its cost
unfoldable pub split_fault : Task → ℕ → Found
split_fault T o = unless (leb (sum (λ m. T.share m o) T.maps) (T.sas.cost o)) (SharesAboveCost (line_of_op T.edition o))

-- the whole task
unfoldable pub task_fault : Task → Found
task_fault T =
    unless (within 1 most_edition T.edition) (OutOfRange line_of_edition)
    then unless (within 1 most_vars T.sas.vars) (OutOfRange line_of_vars)
    then each (λ v. unless (within 1 most_values (T.sas.dom v)) (OutOfRange line_of_dom)) T.sas.vars 0
    then each (λ v. unless (ltb (T.sas.init v) (T.sas.dom v)) (OutOfRange line_of_init)) T.sas.vars 0
    then facts_fault T T.sas.goal line_of_goal
    then unless (leb T.quota most_quota) (OutOfRange line_of_quota)
    then unless (leb T.sas.ops most_ops) (OutOfRange (line_of_ops T.edition))
    then each (operator_fault T) T.sas.ops 0
    then unless (within 1 most_maps T.maps) (OutOfRange (line_of_maps T.edition T.sas.ops))
    then each (map_fault T) T.maps 0
    then each (shares_fault T) T.maps 0
    then each (split_fault T) T.sas.ops 0

-- the lent tables have room for the largest task
unfoldable pub roomy : Tables → Bool
roomy t = leb facts_room (length t.facts) && leb costs_room (length t.costs) && leb shares_room (length t.shares)

-- handed-in tables: 8 before all
unfoldable pub tables_fault : Tables → Found
tables_fault t = unless (roomy t) TableTooShort then task_fault (task_of t)

-- a lent state: one place a variable, and each value in its variable
unfoldable pub state_fault : Counts → List ℕ → List ℕ → Found
state_fault c facts s =
    unless (leb c.vars (length s)) TableTooShort
    then each (λ v. unless (ltb (state_of s v) (dom_at facts v)) (ValueOutside v)) c.vars 0

-- the first fault of what every entry that takes a state is handed: the tables, then the state
unfoldable pub input_fault : Tables → List ℕ → Found
input_fault t s = tables_fault t then state_fault t.counts t.facts s
