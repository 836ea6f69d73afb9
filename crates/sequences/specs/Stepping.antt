-- A step of a sequence, over the task that the lent tables spell.
use Rattle.std.specs.Prelude.{ℕ, cond, ltb, Result, Ok, Err}
use Rattle.refusals.specs.declared.Refusal.{Refusal}
use Rattle.refusals.specs.declared.Refusal.TheVariants.{NoSuchOperator, MayNotRun, BeyondQuota}
use Rattle.meaning.specs.Sas.{State}
use Rattle.meaning.specs.Views.{complies}
use Rattle.meaning.specs.Split.{Task}
use Rattle.meaning.specs.Quota.{may_store}
use Rattle.sequences.specs.declared.stepping.Hitch.{Hitch}
use Rattle.sequences.specs.declared.stepping.Hitch.TheVariants.{NoSuch, MayNot, Beyond}

-- what a step answers after n stored tests: 10 before 12, 12 before 19, else it is taken at its cost
unfoldable pub step_of : Task → ℕ → State → ℕ → Result ℕ Hitch
step_of T n s o =
    cond (ltb o T.sas.ops) (cond (complies T.sas (T.sas.pre o) s) (cond (may_store T n o) (Ok (T.sas.cost o)) (Err Beyond)) (Err MayNot))
    (Err NoSuch)

-- the refusal of step k
abbrev pub refusal_of : Hitch → ℕ → Refusal
refusal_of NoSuch k = NoSuchOperator k
refusal_of MayNot k = MayNotRun k
refusal_of Beyond k = BeyondQuota k

-- a step's answer taken apart: by `out` where it can't be taken, else on with its cost
abbrev pub taken_apart : {A : Type 0} → Result ℕ Hitch → (Hitch → A) → (ℕ → A) → A
taken_apart (Ok cost) out on = on cost
taken_apart (Err h) out on = out h
