-- The run and its ledger: what a step changes, what a start and a log give, and what an offer is answered and leaves behind.
use Rattle.scan.specs.Found.{Found}
use Rattle.std.specs.Prelude.{ℕ, ◌+◌, ◌-◌, Bool, ◌&&◌, ◌||◌, cond, List, [], ◌∷◌, Option, Some, None, Result, Ok, Err, ltb, leb, eqb, get_or, set, take, drop, replicate}
use Rattle.std.specs.Cmp.Lexicographic.{pointwise}
use Rattle.std.specs.List.{list_all}
use Rattle.std.specs.Option.{option_eq}
use Rattle.refusals.specs.declared.Refusal.{Refusal}
use Rattle.refusals.specs.declared.Refusal.TheVariants.{NoSuchOperator, MayNotRun, NotTheNext, OtherOperator, RunFull, NotARun, BeyondQuota}
use Rattle.meaning.specs.Views.{every}
use Rattle.meaning.specs.Split.{Task}
use Rattle.meaning.specs.Columns.{cost_columns, stored_tests, gain}
use Rattle.tables.specs.declared.Counts.{Counts}
use Rattle.tables.specs.Layout.{Tables, dom_at}
use Rattle.tables.specs.Task.{task_of}
use Rattle.tables.specs.Steps.{may_run, can_store, overwritten, stepped, copied}
use Rattle.scan.specs.Scan.{tables_fault, input_fault}
use Rattle.meaning.specs.Limits.{most_vars, most_steps}
use Rattle.ledger.specs.declared.Run.{Run}
use Rattle.ledger.specs.declared.replay.Standing.{Standing}
use Rattle.ledger.specs.declared.Answer.{Answer}
use Rattle.ledger.specs.declared.Answer.TheVariants.{Accepted, Repeated}
use Rattle.ledger.specs.declared.Offered.{Offered}

-- all columns that a run has: those of the cost, and that of the stored tests, which is no payment
abbrev pub all_columns : ℕ
all_columns = cost_columns + 1

abbrev pub booked_at : Task → List ℕ → ℕ → ℕ → ℕ
booked_at T columns o column = get_or columns column 0 + gain T column o

-- the columns after operator o
unfoldable pub booked : Task → List ℕ → ℕ → List ℕ
booked T columns o = overwritten (booked_at T columns o) columns all_columns

-- where a run stands: the state now and the columns, which are what a step changes beside the log
abbrev pub standing : Run → Standing
standing r = record { now = r.now; columns = r.columns }

-- where it stands at its start, and where after operator o
unfoldable pub at_start : List ℕ → Standing
at_start s = record { now = s; columns = replicate all_columns 0 }

unfoldable pub onward : Tables → Standing → ℕ → Standing
onward t x o = record { now = stepped t.counts t.facts x.now o; columns = booked (task_of t) x.columns o }

-- a fresh run: an empty log, columns of 0 and its start as the state now
unfoldable pub fresh : List ℕ → Run
fresh s =
    record { start = s; log = replicate most_steps 0; len = 0; now = (at_start s).now; columns = (at_start s).columns }

-- the run with operator o run once more
unfoldable pub advanced : Tables → Run → ℕ → Run
advanced t r o =
    record {
      start = r.start;
      log = set r.log r.len o;
      len = r.len + 1;
      now = (onward t (standing r) o).now;
      columns = (onward t (standing r) o).columns;
    }

-- the operator exists and may run in the state
unfoldable pub can_run : Counts → List ℕ → List ℕ → ℕ → Bool
can_run c facts s o = ltb o c.ops && may_run c facts s o

-- it doesn't store beyond the quota, after as many stored tests as the columns tell
unfoldable pub within_quota : Counts → List ℕ → List ℕ → ℕ → Bool
within_quota c facts columns o = can_store c facts (get_or columns stored_tests 0) o

-- it can be the next step where a run stands
unfoldable pub can_follow : Counts → List ℕ → Standing → ℕ → Bool
can_follow c facts x o = can_run c facts x.now o && within_quota c facts x.columns o

-- where a list of steps leads; nowhere, if one of them can't be the next
unfoldable pub replayed : Tables → Standing → List ℕ → Option Standing
replayed t x [] = Some x
replayed t x (o ∷ os) = cond (can_follow t.counts t.facts x o) (replayed t (onward t x o) os) None

-- what a run's start and log give
unfoldable pub given : Tables → Run → Option Standing
given t r = replayed t (at_start r.start) (take r.len r.log)

-- a start: each value x in its variable v, and 0 beyond the variables
unfoldable pub start_at : Counts → List ℕ → ℕ → ℕ → Bool
start_at c facts v x = cond (ltb v c.vars) (ltb x (dom_at facts v)) (eqb x 0)

abbrev pub starts_at : Counts → List ℕ → List ℕ → ℕ → Bool
starts_at c facts s v = start_at c facts v (get_or s v 0)

unfoldable pub start_in : Counts → List ℕ → List ℕ → Bool
start_in c facts s = every (starts_at c facts s) most_vars

-- every number is 0
unfoldable pub zeros : List ℕ → Bool
zeros xs = list_all (λ x. eqb x 0) xs

-- two stand alike: in the same state, with the same columns
abbrev pub alike : Standing → Standing → Bool
alike x y = pointwise eqb x.now y.now && pointwise eqb x.columns y.columns

-- the run is what its start and log give: the log isn't too long, the start is one, unused places of the log are 0, each step can run and keeps the quota, and
-- the run stands where they lead
unfoldable pub is_run : Tables → Run → Bool
is_run t r =
    leb r.len most_steps && start_in t.counts t.facts r.start && zeros (drop r.len r.log)
    && option_eq alike (given t r) (Some (standing r))

-- an old number: repeated with the logged operator, and 14 with another
unfoldable pub old_step : Run → ℕ → ℕ → Result Answer Refusal
old_step r number o = cond (eqb (get_or r.log (number - 1) 0) o) (Ok Repeated) (Err (OtherOperator number))

-- the next number: 15 if full, 12 if it may not run, 19 if it stores beyond the quota, else accepted
unfoldable pub next_step : Counts → List ℕ → Run → ℕ → ℕ → Result Answer Refusal
next_step c facts r number o =
    cond (leb most_steps r.len) (Err (RunFull number))
    (cond (can_run c facts r.now o) (cond (within_quota c facts r.columns o) (Ok Accepted) (Err (BeyondQuota number)))
    (Err (MayNotRun number)))

-- an offer to a run: 10, then 13 at number 0 or beyond the next, then old or next
unfoldable pub offer_judged : Counts → List ℕ → Run → ℕ → ℕ → Result Answer Refusal
offer_judged c facts r number o =
    cond (leb c.ops o) (Err (NoSuchOperator number))
    (cond (eqb number 0 || ltb (r.len + 1) number) (Err (NotTheNext number))
    (cond (leb number r.len) (old_step r number o) (next_step c facts r number o)))

-- a fault refuses, before all that comes after it
abbrev pub refused_or : Found → Result Answer Refusal → Result Answer Refusal
refused_or (Ok tt) a = a
refused_or (Err f) a = Err f

-- the answer to an offer: tables, then 17, then the offer itself
abbrev pub run_answered : Tables → Run → ℕ → ℕ → Result Answer Refusal
run_answered t r number o = cond (is_run t r) (offer_judged t.counts t.facts r number o) (Err NotARun)

unfoldable pub answered : Tables → Run → ℕ → ℕ → Result Answer Refusal
answered t r number o = refused_or (tables_fault t) (run_answered t r number o)

-- only an accepted offer moves the run
abbrev pub moved : Tables → Run → ℕ → Result Answer Refusal → Run
moved t r o (Ok Accepted) = advanced t r o
moved t r o (Ok Repeated) = r
moved t r o (Err f) = r

-- AN OFFER: the run after it together with the answer
unfoldable pub offered : Tables → Run → ℕ → ℕ → Offered
offered t r number o = record { run = moved t r o (answered t r number o); answer = answered t r number o }

-- a refused start hands back a run of zeros
unfoldable pub started : Found → Run → Offered
started (Ok tt) r = record { run = r; answer = Ok Accepted }
started (Err f) r = record { run = fresh (replicate most_vars 0); answer = Err f }

-- A START: tables, then the state; the run starts from the lent state's values, with 0 beyond the variables
unfoldable pub begun : Tables → List ℕ → Offered
begun t s = started (input_fault t s) (fresh (copied s t.counts.vars))
