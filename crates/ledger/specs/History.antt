-- What the offers alone say was really run, and what a run must tell of it at every moment.
use Rattle.std.specs.Prelude.{ℕ, ◌+◌, ◌*◌, ◌≤◌, ◌<◌, ◌≡◌, ◌↔◌, Bool, ◌&&◌, cond, List, [], ◌∷◌, ◌++◌, Result, Ok, Err, ltb, eqb, length, get_or, take}
use Rattle.refusals.specs.declared.Refusal.{Refusal}
use Rattle.meaning.specs.Sas.{State, IsState, MayRun, Runs, end, paid}
use Rattle.meaning.specs.Views.{complies}
use Rattle.meaning.specs.Split.{Task, sum}
use Rattle.tables.specs.Layout.{Tables}
use Rattle.tables.specs.Task.{task_of, state_of}
use Rattle.ledger.specs.declared.Run.{Run}
use Rattle.ledger.specs.declared.Answer.{Answer}
use Rattle.ledger.specs.declared.Answer.TheVariants.{Accepted, Repeated}
use Rattle.meaning.specs.Limits.{most_vars, most_cost, most_steps}
use Rattle.ledger.specs.Ledger.{all_columns, offered, begun}
use Rattle.meaning.specs.Columns.{cost_columns, stored_tests, gain}
use Rattle.meaning.specs.Quota.{stored, KeepsQuota, may_store}

-- an offer: a step number and an operator
pub record Offer : Type 0 where
  pub number : ℕ
  pub op : ℕ

-- the operator exists and may run where the steps done lead, and after what they stored it doesn't store beyond the quota
unfoldable pub may_follow : Task → State → List ℕ → ℕ → Bool
may_follow T s done o = ltb o T.sas.ops && complies T.sas (T.sas.pre o) (end T.sas done s) && may_store T (stored T done) o

-- an offer is a step really run after the steps done: it has the next number, there is room, and its operator may follow
unfoldable pub really_runs : Task → State → List ℕ → Offer → Bool
really_runs T s done x =
    eqb x.number (length done + 1) && ltb (length done) most_steps && may_follow T s done x.op

-- the steps that further offers add to the steps done
unfoldable pub added : Task → State → List ℕ → List Offer → List ℕ
added T s done [] = []
added T s done (x ∷ xs) =
    cond (really_runs T s done x) (x.op ∷ added T s (done ++ (x.op ∷ [])) xs) (added T s done xs)

-- THE STEPS REALLY RUN, told by the task, the start and the offers alone
abbrev pub really_run : Task → State → List Offer → List ℕ
really_run T s xs = added T s [] xs

-- the run after offers, each made to the run that the one before handed back
unfoldable pub ran : Tables → Run → List Offer → Run
ran t r [] = r
ran t r (x ∷ xs) = ran t (offered t r x.number x.op).run xs

-- the run after a start and offers
abbrev pub run_after : Tables → List ℕ → List Offer → Run
run_after t s xs = ran t (begun t s).run xs

-- A RUN TELLS THE STEPS: its log is they, in order and each occurrence once; they may run one after another from the start, keep the quota, and lead to the
-- state now; and each column is what they add to it. Unused places are 0
pub record Tells (T : Task) (s : State) (done : List ℕ) (r : Run) : Type 0 where
  pub few : length done ≤ most_steps
  pub len : r.len ≡ length done
  pub log : take (length done) r.log ≡ done
  pub log_unused : (i : ℕ) → length done ≤ i → get_or r.log i 0 ≡ 0
  pub legal : Runs T.sas done s
  pub keeps : KeepsQuota T done
  pub start : (v : ℕ) → v < T.sas.vars → state_of r.start v ≡ s v
  pub start_unused : (v : ℕ) → T.sas.vars ≤ v → state_of r.start v ≡ 0
  pub now : (v : ℕ) → v < T.sas.vars → state_of r.now v ≡ end T.sas done s v
  pub now_unused : (v : ℕ) → T.sas.vars ≤ v → state_of r.now v ≡ 0
  pub column : (c : ℕ) → c < all_columns → get_or r.columns c 0 ≡ paid (gain T c) done

-- A RUN IS WHAT ITS START AND LOG GIVE: the start is a state of the task, and the run tells steps from there
abbrev pub GivenByStartAndLog : Task → Run → Type 0
GivenByStartAndLog T r = IsState T.sas (state_of r.start) × ((done : List ℕ) × Tells T (state_of r.start) done r)

-- TWO MOMENTS: the steps between run from the earlier state to the later one and keep the quota, and each column grew by what they add to it
pub record Between (T : Task) (os : List ℕ) (earlier later : Run) : Type 0 where
  pub legal : Runs T.sas os (state_of earlier.now)
  pub keeps : KeepsQuota T os
  pub now : (v : ℕ) → v < T.sas.vars → state_of later.now v ≡ end T.sas os (state_of earlier.now) v
  pub column : (c : ℕ) → c < all_columns → get_or later.columns c 0 ≡ get_or earlier.columns c 0 + paid (gain T c) os

-- a run as its type has it: the lengths of its lists
pub record Sized (r : Run) : Type 0 where
  pub start : length r.start ≡ most_vars
  pub log : length r.log ≡ most_steps
  pub now : length r.now ≡ most_vars
  pub columns : length r.columns ≡ all_columns

-- A RUN'S COLUMNS ARE WITHIN ITS STEPS: it has no more steps than a run may have; no column has more than the highest cost for each of them, and neither
-- have those of the cost together
pub record WithinSteps (r : Run) : Type 0 where
  pub steps : r.len ≤ most_steps
  pub column : (c : ℕ) → c < all_columns → get_or r.columns c 0 ≤ r.len * most_cost
  pub together : sum (λ c. get_or r.columns c 0) cost_columns ≤ r.len * most_cost

-- ---- the stored tests

-- how many tests a run says were stored; read from it alone, whether the quota is met
abbrev pub stored_in : Run → ℕ
stored_in r = get_or r.columns stored_tests 0

abbrev pub QuotaMet : Task → Run → Type 0
QuotaMet T r = stored_in r ≡ T.quota

-- the steps of a run's own log
abbrev pub steps_in : Run → List ℕ
steps_in r = take r.len r.log

-- how many of a list's steps are storing ones, counted place by place
abbrev pub storing_steps : Task → List ℕ → ℕ
storing_steps T os = sum (λ i. cond (eqb (T.mark (get_or os i 0)) 1) 1 0) (length os)

-- A RUN TELLS THE STORED TESTS of the steps: as many as storing steps were run, and never more than the quota; and it reads as met exactly if so many were run
pub record TellsStored (T : Task) (done : List ℕ) (r : Run) : Type 0 where
  pub counted : stored_in r ≡ storing_steps T done
  pub within : stored_in r ≤ T.quota
  pub met : QuotaMet T r ↔ (storing_steps T done ≡ T.quota)

-- what an offer of operator o stores, by its answer: an accepted one its mark, a repeated or refused one nothing; and what offers stored, by their answers alone
abbrev pub stored_by : Task → ℕ → Result Answer Refusal → ℕ
stored_by T o (Ok Accepted) = T.mark o
stored_by T o (Ok Repeated) = 0
stored_by T o (Err f) = 0

unfoldable pub stored_by_all : Tables → Run → List Offer → ℕ
stored_by_all t r [] = 0
stored_by_all t r (x ∷ xs) =
    stored_by (task_of t) x.op (offered t r x.number x.op).answer + stored_by_all t (offered t r x.number x.op).run xs

-- A STORING STEP AT THE QUOTA: it has the next number, there is room, its operator exists and may run in the state now, and stores a test; but the quota is met
pub record StoresBeyond (T : Task) (r : Run) (number o : ℕ) : Type 0 where
  pub next : number ≡ r.len + 1
  pub room : r.len < most_steps
  pub exists : o < T.sas.ops
  pub runs : MayRun T.sas o (state_of r.now)
  pub stores : T.mark o ≡ 1
  pub met : QuotaMet T r
