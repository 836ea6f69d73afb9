-- Judging a sequence: the refusals in document 01's order, or passed with its cost.
use Rattle.std.specs.Result.{result_and}
use Rattle.std.specs.Prelude.{ℕ, suc, ◌+◌, cond, List, [], ◌∷◌, leb, length, Result, Ok, Err}
use Rattle.refusals.specs.declared.Refusal.{Refusal}
use Rattle.refusals.specs.declared.Refusal.TheVariants.{SequenceTooLong, NoGoal}
use Rattle.meaning.specs.Sas.{State, after}
use Rattle.meaning.specs.Views.{complies}
use Rattle.meaning.specs.Split.{Task}
use Rattle.tables.specs.Layout.{Tables}
use Rattle.tables.specs.Task.{task_of, state_of}
use Rattle.sequences.specs.declared.stepping.Hitch.{Hitch}
use Rattle.sequences.specs.Stepping.{step_of, refusal_of, taken_apart}
use Rattle.scan.specs.Scan.{input_fault}
use Rattle.meaning.specs.Limits.{most_steps}

-- a step that can't be taken ends the judging with its number k; one that was taken goes on with its cost
abbrev pub onto : Result ℕ Hitch → ℕ → (ℕ → Result ℕ Refusal) → Result ℕ Refusal
onto m k on = taken_apart m (λ h. Err (refusal_of h k)) on

-- the steps in order, after k steps that stored n tests and cost p together; 16 last, at the length
unfoldable pub walked : Task → ℕ → ℕ → ℕ → State → List ℕ → Result ℕ Refusal
walked T k n p s [] = cond (complies T.sas T.sas.goal s) (Ok p) (Err (NoGoal k))
walked T k n p s (o ∷ os) =
    onto (step_of T n s o) (suc k) (λ cost. walked T (suc k) (n + T.mark o) (p + cost) (after T.sas o s) os)

-- 11 before any step; each sequence counts its own storing steps from 0
unfoldable pub limited : Task → State → List ℕ → Result ℕ Refusal
limited T s ops = cond (leb (length ops) most_steps) (walked T 0 0 0 s ops) (Err SequenceTooLong)

-- JUDGING: the tables, the state, the length, the steps in order, the goal; a fault of what was handed in decides before all
unfoldable pub judged_of : Tables → List ℕ → List ℕ → Result ℕ Refusal
judged_of t s ops = result_and (input_fault t s) (limited (task_of t) (state_of s) ops)
