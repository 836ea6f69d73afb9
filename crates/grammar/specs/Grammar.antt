-- The task text as a grammar, from left to right, the first fault deciding.
use Rattle.scan.specs.Found.{Found}
use Rattle.std.specs.Prelude.{ℕ, zero, suc, ◌+◌, ◌-◌, ◌*◌, List, [], ◌∷◌, Bool, true, false, not, cond, get_or, set, take, drop, replicate, ltb, leb, eqb, Ok, Err}
use Prim.Native.String.{String}
use Rattle.refusals.specs.declared.Refusal.{Refusal}
use Rattle.refusals.specs.declared.Refusal.TheVariants.{
  OffForm,
  OutOfRange,
  NotRising,
  ClassMissing,
  TooManyStates,
  IdleOperator,
}
use Rattle.tables.specs.Layout.{
  Tables,
  facts_room,
  costs_room,
  shares_room,
  dom_place,
  init_place,
  goal_place,
  pre_place,
  eff_place,
  class_place,
  mark_place,
  share_place,
  dom_at,
  class_at,
}
use Rattle.tables.specs.Editions.{has_quota}
use Rattle.tables.specs.declared.Counts.{Counts}
use Rattle.grammar.specs.Fields.{zero_digit, is_digit, bytes_of, line_end, comma, dash, slash, colon, semicolon, Outcome, leaves, filled, admitted}
use Rattle.meaning.specs.Limits.{most_vars, most_values, most_ops, most_cost, most_maps, most_states, most_edition, most_quota, most_mark}
use Rattle.meaning.specs.Views.{abstract_states, idle}
use Rattle.meaning.specs.Split.{view}
use Rattle.tables.specs.Task.{sas_of, task_of}
use Rattle.tables.specs.Classes.{none_missing}
use Rattle.scan.specs.Scan.{each, split_fault}

-- accepted with the task's tables, or refused
pub data Verdict : Type 0 where
  accepted : Tables → Verdict
  refused : Refusal → Verdict

-- what follows: it gets the text that is left, the line it stands in, and the tables filled so far
abbrev pub Rest : Type 0
Rest = List ℕ → ℕ → Tables → Verdict

-- a part of the text: it gets the same, and what follows it
abbrev pub Part : Type 0
Part = List ℕ → ℕ → Tables → Rest → Verdict

-- one part after another
infixr 20 ◌▸◌
unfoldable pub ◌▸◌ : Part → Part → Part
◌▸◌ p q t l T k = p t l T (λ u m U. q u m U k)

-- nothing is read
unfoldable pub nothing : Part
nothing t l T k = k t l T

-- what stands next depends on the tables so far
unfoldable pub ask : (Tables → Part) → Part
ask p t l T k = p T t l T k

unfoldable pub keep : (Tables → Tables) → Part
keep f t l T k = k t l (f T)

-- this must hold here, before the next byte is read
unfoldable pub demand : Bool → (ℕ → Refusal) → Part
demand true r t l T k = k t l T
demand false r t l T k = refused (r l)

-- these bytes must stand here
unfoldable pub lit : List ℕ → Part
lit [] t l T k = k t l T
lit (b ∷ bs) [] l T k = refused (OffForm l)
lit (b ∷ bs) (x ∷ t) l T k = (demand (eqb x b) OffForm ▸ lit bs) t l T k

-- p after the byte b, or q where another byte or the end stands
unfoldable pub choice : ℕ → Part → Part → Part
choice b p q [] l T k = q [] l T k
choice b p q (x ∷ t) l T k = cond {A = List ℕ → Verdict} (eqb x b) (λ u. p u l T k) (λ u. q (x ∷ u) l T k) t

-- the digits that a text begins with: how many, and their value
unfoldable pub run_len : List ℕ → ℕ
run_len [] = 0
run_len (b ∷ t) = cond (is_digit b) (suc (run_len t)) 0

unfoldable pub decimal : ℕ → List ℕ → ℕ
decimal v [] = v
decimal v (b ∷ t) = decimal (10 * v + (b - zero_digit)) t

-- not empty, and without a needless leading zero
unfoldable pub formed : List ℕ → Bool
formed t = cond (eqb (run_len t) 0) false (cond (eqb (get_or t 0 0) zero_digit) (eqb (run_len t) 1) true)

unfoldable pub fits : ℕ → ℕ → ℕ → Bool
fits v least limit = cond (leb least v) (ltb v limit) false

-- a number from least to below limit, and then what follows it; its form first, then its value, however long
unfoldable pub numeral : ℕ → ℕ → (ℕ → Part) → Part
numeral least limit p t l T k =
    (demand (formed t) OffForm
    ▸ demand (fits (decimal 0 (take (run_len t) t)) least limit) OutOfRange
    ▸ p (decimal 0 (take (run_len t) t)))
    (drop (run_len t) t)
    l
    T
    k

-- the mark between two things of a row: none after the last
unfoldable pub parted : ℕ → ℕ → Part
parted zero mark t l T k = k t l T
parted (suc n) mark t l T k = lit (mark ∷ []) t l T k

-- n numbers parted by commas, from the i-th on, each in its range and kept in its place
unfoldable pub number_row : ℕ → (ℕ → Tables → ℕ) → (ℕ → ℕ → Tables → Tables) → ℕ → ℕ → Part
number_row least limit put zero i t l T k = k t l T
number_row least limit put (suc n) i t l T k =
    numeral least (limit i T) (λ v. keep (put i v) ▸ parted n comma ▸ number_row least limit put n (i + 1)) t l T k

unfoldable pub end_of_line : Part
end_of_line = lit (line_end ∷ []) ▸ (λ t l T k. k t (l + 1) T)

unfoldable pub text_line : String → Part → Part
text_line key p = lit (bytes_of key) ▸ p ▸ end_of_line

-- n lines, from the i-th on
unfoldable pub text_lines : (ℕ → Part) → ℕ → ℕ → Part
text_lines p zero i t l T k = k t l T
text_lines p (suc n) i t l T k = (p i ▸ text_lines p n (i + 1)) t l T k

-- the tables with one number more: a count
abbrev pub with_counts : (Counts → Counts) → Tables → Tables
with_counts f T = record { counts = f T.counts; facts = T.facts; costs = T.costs; shares = T.shares }

abbrev pub put_edition : ℕ → Tables → Tables
put_edition e = with_counts (λ c. record { vars = c.vars; ops = c.ops; maps = c.maps; edition = e; quota = c.quota })

abbrev pub put_vars : ℕ → Tables → Tables
put_vars n = with_counts (λ c. record { vars = n; ops = c.ops; maps = c.maps; edition = c.edition; quota = c.quota })

abbrev pub put_quota : ℕ → Tables → Tables
put_quota q = with_counts (λ c. record { vars = c.vars; ops = c.ops; maps = c.maps; edition = c.edition; quota = q })

abbrev pub put_ops : ℕ → Tables → Tables
put_ops n = with_counts (λ c. record { vars = c.vars; ops = n; maps = c.maps; edition = c.edition; quota = c.quota })

abbrev pub put_maps : ℕ → Tables → Tables
put_maps n = with_counts (λ c. record { vars = c.vars; ops = c.ops; maps = n; edition = c.edition; quota = c.quota })

-- a fact, a class or a mark; a cost; a share

abbrev pub put_fact : ℕ → ℕ → Tables → Tables
put_fact i v T = record { counts = T.counts; facts = set T.facts i v; costs = T.costs; shares = T.shares }

abbrev pub put_cost : ℕ → ℕ → Tables → Tables
put_cost o v T = record { counts = T.counts; facts = T.facts; costs = set T.costs o v; shares = T.shares }

abbrev pub put_share : ℕ → ℕ → Tables → Tables
put_share i v T = record { counts = T.counts; facts = T.facts; costs = T.costs; shares = set T.shares i v }

-- edition=, 1 or 2
unfoldable pub edition_line : Part
edition_line = text_line "edition=" (numeral 1 (most_edition + 1) (λ e. keep (put_edition e)))

-- this in edition 2, and nothing in edition 1
unfoldable pub in_second : Part → Part
in_second p t l T k = cond (has_quota T.counts.edition) (p t l T k) (k t l T)

-- vars=, dom= and init=
unfoldable pub vars_line : Part
vars_line = text_line "vars=" (numeral 1 (most_vars + 1) (λ n. keep (put_vars n)))

unfoldable pub dom_line : Part
dom_line = text_line "dom=" (ask (λ T. number_row 1 (λ v U. most_values + 1) (λ v n. put_fact (dom_place v) n) T.counts.vars 0))

unfoldable pub init_line : Part
init_line = text_line "init=" (ask (λ T. number_row 0 (λ v U. dom_at U.facts v) (λ v x. put_fact (init_place v) x) T.counts.vars 0))

-- facts from the variable `least` on, of which at most n can still come: the variable's range and order before its colon, then the value's range;
-- a comma means one more, anything else ends the list
unfoldable pub facts_from : (ℕ → ℕ) → ℕ → ℕ → Part
facts_from place zero least t l T k = numeral 0 T.counts.vars (λ v. demand false NotRising) t l T k
facts_from place (suc n) least t l T k =
    numeral
    0
    T.counts.vars
    (λ v.
    demand (leb least v) NotRising
    ▸ lit (colon ∷ [])
    ▸ numeral 0 (dom_at T.facts v) (λ x. keep (put_fact (place v) (x + 1)) ▸ choice comma (facts_from place n (v + 1)) nothing))
    t
    l
    T
    k

-- a list of facts: - if it is empty
unfoldable pub fact_list : (ℕ → ℕ) → Part
fact_list place = choice dash nothing (ask (λ T. facts_from place T.counts.vars 0))

unfoldable pub goal_line : Part
goal_line = text_line "goal=" (fact_list goal_place)

-- quota=, in edition 2
unfoldable pub quota_line : Part
quota_line = in_second (text_line "quota=" (numeral 0 (most_quota + 1) (λ q. keep (put_quota q))))

-- ops=, and one op=cost;preconditions;effects for each, in edition 2 with ;mark, which at its end isn't idle
unfoldable pub ops_line : Part
ops_line = text_line "ops=" (numeral 0 (most_ops + 1) (λ n. keep (put_ops n)))

unfoldable pub mark_field : ℕ → Part
mark_field o = in_second (lit (semicolon ∷ []) ▸ numeral 0 (most_mark + 1) (λ x. keep (put_fact (mark_place o) x)))

unfoldable pub operator_fields : ℕ → Part
operator_fields o =
    numeral 0 (most_cost + 1) (λ c. keep (put_cost o c))
    ▸ lit (semicolon ∷ [])
    ▸ fact_list (pre_place o)
    ▸ lit (semicolon ∷ [])
    ▸ fact_list (eff_place o)
    ▸ mark_field o
    ▸ ask (λ T. demand (not (idle (sas_of T) o)) IdleOperator)

unfoldable pub op_lines : Part
op_lines = ask (λ T. text_lines (λ o. text_line "op=" (operator_fields o)) T.counts.ops 0)

-- in map m the classes of variable v, one for each of its values; at their end none is missing
unfoldable pub class_list : ℕ → ℕ → Part
class_list m v =
    ask (λ T. number_row 0 (λ x U. dom_at U.facts v) (λ x c. put_fact (class_place m v x) c) (dom_at T.facts v) 0)
    ▸ ask (λ T. demand (none_missing (class_at T.facts m v) (dom_at T.facts v)) ClassMissing)

-- those of the last n variables, from v on, parted by /
unfoldable pub class_lists : ℕ → ℕ → ℕ → Part
class_lists m zero v = nothing
class_lists m (suc n) v = class_list m v ▸ parted n slash ▸ class_lists m n (v + 1)

-- a map: its variables' classes; at their end not too many abstract states
unfoldable pub map_classes : ℕ → Part
map_classes m =
    ask (λ T. class_lists m T.counts.vars 0)
    ▸ ask (λ T. demand (leb (abstract_states (sas_of T) (view (task_of T) m)) most_states) TooManyStates)

-- maps=, and one map= for each
unfoldable pub maps_line : Part
maps_line = text_line "maps=" (numeral 1 (most_maps + 1) (λ n. keep (put_maps n)))

unfoldable pub map_lines : Part
map_lines = ask (λ T. text_lines (λ m. text_line "map=" (map_classes m)) T.counts.maps 0)

-- a map's shares, one number an operator; - exactly if there are no operators
unfoldable pub amounts : ℕ → ℕ → Part
amounts m zero t l T k = lit (dash ∷ []) t l T k
amounts m (suc n) t l T k = number_row 0 (λ o U. most_cost + 1) (λ o v. put_share (share_place m o) v) (suc n) 0 t l T k

unfoldable pub share_lines : Part
share_lines = ask (λ T. text_lines (λ m. text_line "share=" (amounts m T.counts.ops)) T.counts.maps 0)

-- the lines of a text, in this order
unfoldable pub task_lines : Part
task_lines =
    edition_line
    ▸ vars_line
    ▸ dom_line
    ▸ init_line
    ▸ goal_line
    ▸ quota_line
    ▸ ops_line
    ▸ op_lines
    ▸ maps_line
    ▸ map_lines
    ▸ share_lines

-- after all else: no operator's shares total more than its cost
unfoldable pub settled : Found → Tables → Verdict
settled (Ok tt) T = accepted T
settled (Err r) T = refused r

-- after the last line nothing stands
unfoldable pub the_end : Rest
the_end [] l T = settled (each (split_fault (task_of T)) T.counts.ops 0) T
the_end (b ∷ t) l T = refused (OffForm l)

-- tables with nothing in them yet
unfoldable pub no_task : Tables
no_task =
    record {
      counts = record { vars = 0; ops = 0; maps = 0; edition = 0; quota = 0 };
      facts = replicate facts_room 0;
      costs = replicate costs_room 0;
      shares = replicate shares_room 0;
    }

unfoldable pub verdict : List ℕ → Verdict
verdict text = task_lines text 1 no_task the_end

-- a refusal leaves every lent table as it was; an accepted task fills them
unfoldable pub outcome : Verdict → List ℕ → List ℕ → List ℕ → Outcome
outcome (accepted T) f c s =
    leaves (Ok T.counts) (filled facts_room T.facts f) (filled costs_room T.costs c) (filled shares_room T.shares s)
outcome (refused r) f c s = leaves (Err r) f c s

-- THE READER: what it answers to a text, and what it leaves in the lent tables
unfoldable pub read_text : List ℕ → List ℕ → List ℕ → List ℕ → Outcome
read_text text f c s = admitted text f c s (outcome (verdict text) f c s)
