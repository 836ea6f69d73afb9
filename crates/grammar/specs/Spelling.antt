-- The text that spells a task, line by line as the paper has it; and the tables that hold a task, with 0 in every place that isn't its own.
use Rattle.std.specs.Prelude.{cond, ℕ, zero, suc, ◌+◌, ◌/◌, ◌%◌, List, [], ◌∷◌, ◌++◌, set, replicate, ltb}
use Prim.Native.String.{String}
use Rattle.meaning.specs.Sas.{Facts}
use Rattle.meaning.specs.Split.{Task}
use Rattle.tables.specs.Layout.{
  Tables,
  facts_room,
  costs_room,
  shares_room,
  dom_place,
  init_place,
  goal_place,
  pre_place,
  eff_place,
  class_place,
  mark_place,
  share_place,
}
use Rattle.tables.specs.Editions.{has_quota, read_in}
use Rattle.tables.specs.Task.{task_of}
use Rattle.grammar.specs.Fields.{zero_digit, bytes_of, line_end, comma, dash, slash, colon, semicolon}

-- ---- THE TEXT

-- the last digits of v, at most n of them
unfoldable pub last_digits : ℕ → ℕ → List ℕ
last_digits zero v = []
last_digits (suc n) v = cond (ltb v 10) ((zero_digit + v) ∷ []) (last_digits n (v / 10) ++ ((zero_digit + v % 10) ∷ []))

-- a number in decimal, without a leading zero
unfoldable pub digits : ℕ → List ℕ
digits v = last_digits (suc v) v

-- the mark between two things of a row: none after the last
unfoldable pub gap : ℕ → ℕ → List ℕ
gap mark zero = []
gap mark (suc n) = mark ∷ []

-- n things, from the i-th on, parted by the mark
unfoldable pub joined : ℕ → (ℕ → List ℕ) → ℕ → ℕ → List ℕ
joined mark f zero i = []
joined mark f (suc n) i = f i ++ gap mark n ++ joined mark f n (suc i)

-- n numbers parted by commas
unfoldable pub numbers : (ℕ → ℕ) → ℕ → List ℕ
numbers f n = joined comma (λ i. digits (f i)) n 0

-- a fact, variable:value
unfoldable pub fact : ℕ → ℕ → List ℕ
fact v x = digits v ++ colon ∷ digits x

-- the facts about n variables from v on, each after a comma; a place that holds 0 is no fact, k + 1 is the value k
unfoldable pub another_fact : ℕ → ℕ → List ℕ
another_fact zero v = []
another_fact (suc k) v = comma ∷ fact v k

unfoldable pub more_facts : Facts → ℕ → ℕ → List ℕ
more_facts F zero v = []
more_facts F (suc n) v = another_fact (F v) v ++ more_facts F n (suc v)

-- the first fact about v, with those that follow it; or the list without it
unfoldable pub first_fact : ℕ → ℕ → List ℕ → List ℕ → List ℕ
first_fact zero v more without = without
first_fact (suc k) v more without = fact v k ++ more

-- a list of facts about n variables from v on, in rising order of variable: - if it is empty
unfoldable pub some_facts : Facts → ℕ → ℕ → List ℕ
some_facts F zero v = dash ∷ []
some_facts F (suc n) v = first_fact (F v) v (more_facts F n (suc v)) (some_facts F n (suc v))

-- a line
unfoldable pub keyed : String → List ℕ → List ℕ
keyed key xs = bytes_of key ++ xs ++ line_end ∷ []

-- n lines, from the i-th on
unfoldable pub stacked : (ℕ → List ℕ) → ℕ → ℕ → List ℕ
stacked f zero i = []
stacked f (suc n) i = f i ++ stacked f n (suc i)

-- what edition 2 alone spells
unfoldable pub spelled_in : ℕ → List ℕ → List ℕ
spelled_in e xs = cond (has_quota e) xs []

-- op=cost;preconditions;effects, and in edition 2 ;mark
unfoldable pub op_text : Task → ℕ → List ℕ
op_text T o =
    digits (T.sas.cost o)
    ++ semicolon ∷ some_facts (T.sas.pre o) T.sas.vars 0
    ++ semicolon ∷ some_facts (T.sas.eff o) T.sas.vars 0
    ++ spelled_in T.edition (semicolon ∷ digits (T.mark o))

-- the classes of each variable's values, parted by /
unfoldable pub map_text : Task → ℕ → List ℕ
map_text T m = joined slash (λ v. numbers (T.class m v) (T.sas.dom v)) T.sas.vars 0

-- one number an operator; - exactly if there are none
unfoldable pub share_text : (ℕ → ℕ) → ℕ → List ℕ
share_text share zero = dash ∷ []
share_text share (suc n) = numbers share (suc n)

-- the lines in their order; in edition 2 the quota's after the goal's
unfoldable pub spelled : Task → List ℕ
spelled T =
    keyed "edition=" (digits T.edition)
    ++ keyed "vars=" (digits T.sas.vars)
    ++ keyed "dom=" (numbers T.sas.dom T.sas.vars)
    ++ keyed "init=" (numbers T.sas.init T.sas.vars)
    ++ keyed "goal=" (some_facts T.sas.goal T.sas.vars 0)
    ++ spelled_in T.edition (keyed "quota=" (digits T.quota))
    ++ keyed "ops=" (digits T.sas.ops)
    ++ stacked (λ o. keyed "op=" (op_text T o)) T.sas.ops 0
    ++ keyed "maps=" (digits T.maps)
    ++ stacked (λ m. keyed "map=" (map_text T m)) T.maps 0
    ++ stacked (λ m. keyed "share=" (share_text (T.share m) T.sas.ops)) T.maps 0

-- the text that spells a task's tables, whatever stands in them
abbrev pub text_of : Tables → List ℕ
text_of t = spelled (task_of t)

-- ---- THE TABLES

-- n changes of a table, from the i-th on
unfoldable pub changed : {A : Type 0} → (ℕ → A → A) → ℕ → ℕ → A → A
changed f zero i w = w
changed f (suc n) i w = changed f n (suc i) (f i w)

-- n numbers, each in its place
unfoldable pub row_put : (ℕ → ℕ) → (ℕ → ℕ) → ℕ → List ℕ → List ℕ
row_put place f n = changed (λ i w. set w (place i) (f i)) n 0

-- what is said of a variable; where nothing is, the place stays 0
unfoldable pub fact_put : ℕ → ℕ → List ℕ → List ℕ
fact_put zero place w = w
fact_put (suc k) place w = set w place (suc k)

unfoldable pub fact_row : (ℕ → ℕ) → Facts → ℕ → List ℕ → List ℕ
fact_row place F n = changed (λ v. fact_put (F v) (place v)) n 0

-- a mark, where the edition has marks; else the place stays 0
unfoldable pub mark_put : ℕ → ℕ → ℕ → List ℕ → List ℕ
mark_put e place x w = cond (has_quota e) (set w place x) w

-- the preconditions, the effects and the mark of an operator, the classes of a map
unfoldable pub op_rows : Task → ℕ → List ℕ → List ℕ
op_rows T o w =
    mark_put T.edition (mark_place o) (T.mark o)
    (fact_row (eff_place o) (T.sas.eff o) T.sas.vars (fact_row (pre_place o) (T.sas.pre o) T.sas.vars w))

unfoldable pub map_rows : Task → ℕ → List ℕ → List ℕ
map_rows T m = changed (λ v. row_put (class_place m v) (T.class m v) (T.sas.dom v)) T.sas.vars 0

unfoldable pub head_rows : Task → List ℕ → List ℕ
head_rows T w =
    fact_row goal_place T.sas.goal T.sas.vars
    (row_put init_place T.sas.init T.sas.vars (row_put dom_place T.sas.dom T.sas.vars w))

-- the task's own numbers in tables of 0
unfoldable pub tables_of : Task → Tables
tables_of T =
    record {
      counts =
          record { vars = T.sas.vars; ops = T.sas.ops; maps = T.maps; edition = T.edition; quota = read_in T.edition T.quota };
      facts = changed (map_rows T) T.maps 0 (changed (op_rows T) T.sas.ops 0 (head_rows T (replicate facts_room 0)));
      costs = row_put (λ o. o) T.sas.cost T.sas.ops (replicate costs_room 0);
      shares = changed (λ m. row_put (share_place m) (T.share m) T.sas.ops) T.maps 0 (replicate shares_room 0);
    }

-- the tables with the task's own places as they are, and 0 in every other
abbrev pub canon : Tables → Tables
canon t = tables_of (task_of t)
