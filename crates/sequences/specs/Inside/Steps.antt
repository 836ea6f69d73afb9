-- What a walk over a list of operators starts from: a task that is fit for the steps.
use Rattle.std.specs.Prelude.{ℕ, ◌≤◌, ◌<◌}
use Rattle.meaning.specs.Limits.{most_vars, most_ops, most_cost, most_quota}
use Rattle.meaning.specs.Split.{Task}

-- what accepted tables give the steps
pub record Usable (T : Task) : Type 0 where
  pub vars : T.sas.vars ≤ most_vars
  pub ops : T.sas.ops ≤ most_ops
  pub costs : (o : ℕ) → o < T.sas.ops → T.sas.cost o ≤ most_cost
  pub quota : T.quota ≤ most_quota
