-- What C lends, and what the exported entries leave behind: the word that goes back, and every lent place. A start and an offer: lent_runs/specs/Left.antt.
-- A row of counts that is lent too short is 8 and nothing else, before all.
use Rattle.refusals.specs.declared.Refusal.{Refusal}
use Rattle.grammar.specs.Readings.{Reading}
use Rattle.std.specs.Prelude.{◌≡◌, cond, List, [], ℕ, ltb, length, get_or, set, Ok, Err, Result, Option}
use Rattle.refusals.specs.declared.Refusal.TheVariants.{TableTooShort}
use Rattle.tables.specs.declared.Counts.{Counts}
use Rattle.tables.specs.Layout.{Tables}
use Rattle.tables.specs.Task.{tables, Slice, was}
use Rattle.grammar.specs.Fields.{Outcome}
use Rattle.grammar.specs.Grammar.{read_text}
use Rattle.grammar.specs.Writing.{Page, write_text}
use Rattle.views.specs.Entries.{DistancesGiven, DistanceGiven, BestGiven, BoundGiven}
use Rattle.words.specs.Words.{refused_word, reading_word, written_word, distances_word, distance_word, best_word, bound_word}

-- the row of counts: variables, operators, maps, edition, quota; further places aren't read
abbrev pub counts_row : ℕ
counts_row = 5

abbrev pub counts_in : List ℕ → Counts
counts_in row =
    record { vars = get_or row 0 0; ops = get_or row 1 0; maps = get_or row 2 0; edition = get_or row 3 0; quota = get_or row 4 0 }

-- a row that is lent too short is as a table that is too short: beside it there are no facts
unfoldable pub facts_beside : List ℕ → List ℕ → List ℕ
facts_beside row facts = cond (ltb (length row) counts_row) [] facts

-- the tables of a task that is lent by its row of counts and its three tables. `Short-row` (proofs/Handed.antt): with a row that is too short they are 8
abbrev pub row_tables : List ℕ → List ℕ → List ℕ → List ℕ → Tables
row_tables row facts costs shares = tables (counts_in row) (facts_beside row facts) costs shares

abbrev pub lent_task : Slice → Slice → Slice → Slice → Tables
lent_task counts facts costs shares = row_tables (was counts) (was facts) (was costs) (was shares)

-- READING: the word, the lent counts and the three lent tables
pub record ReadLeft : Type 0 where
  pub word : ℕ
  pub counts : List ℕ
  pub facts : List ℕ
  pub costs : List ℕ
  pub shares : List ℕ

abbrev pub read_left : ℕ → List ℕ → List ℕ → List ℕ → List ℕ → ReadLeft
read_left w n f c s = record { word = w; counts = n; facts = f; costs = c; shares = s }

-- the lent counts after a reading: the task's, if it was accepted
abbrev pub counts_put : Counts → List ℕ → List ℕ
counts_put c row = set (set (set (set (set row 0 c.vars) 1 c.ops) 2 c.maps) 3 c.edition) 4 c.quota

abbrev pub counts_after : Reading → List ℕ → List ℕ
counts_after (Ok c) counts = counts_put c counts
counts_after (Err r) counts = counts

abbrev pub read_counted : Outcome → List ℕ → ReadLeft
read_counted o counts = read_left (reading_word o.answer) (counts_after o.answer counts) o.facts o.costs o.shares

unfoldable pub read_handed : List ℕ → List ℕ → List ℕ → List ℕ → List ℕ → ReadLeft
read_handed text counts f c s =
    cond (ltb (length counts) counts_row) (read_left (refused_word TableTooShort) counts f c s) (read_counted (read_text text f c s) counts)

-- WRITING: the word, and the lent buffer
pub record WriteLeft : Type 0 where
  pub word : ℕ
  pub bytes : List ℕ

abbrev pub write_left : ℕ → List ℕ → WriteLeft
write_left w b = record { word = w; bytes = b }

abbrev pub write_told : Page → WriteLeft
write_told p = write_left (written_word p.answer) p.bytes

abbrev pub write_handed : Tables → List ℕ → WriteLeft
write_handed t buffer = write_told (write_text t buffer)

-- DISTANCES, A DISTANCE, A BEST STEP, THE BOUND: the word of the answer that the desk gives
abbrev pub DistancesHanded : Tables → ℕ → List ℕ → List ℕ → ℕ → List ℕ → List ℕ → Type 0
DistancesHanded t map out best w out' best' = (a : Result ℕ Refusal) × DistancesGiven t map out best a out' best' × (w ≡ distances_word a)

abbrev pub DistanceHanded : Tables → ℕ → List ℕ → ℕ → Type 0
DistanceHanded t map s w = (a : Result (Option ℕ) Refusal) × DistanceGiven t map s a × (w ≡ distance_word a)

abbrev pub BestHanded : Tables → ℕ → List ℕ → ℕ → Type 0
BestHanded t map s w = (a : Result (Option ℕ) Refusal) × BestGiven t map s a × (w ≡ best_word a)

abbrev pub BoundHanded : Tables → List ℕ → ℕ → Type 0
BoundHanded t s w = (a : Result (Option ℕ) Refusal) × BoundGiven t s a × (w ≡ bound_word a)
