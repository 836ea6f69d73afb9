-- A task with its maps and its split of the costs (003), and which of its operators store a test; and the rules of documents 01 and 02 for all of it.
use Rattle.std.specs.Prelude.{◌≡◌, ℕ, zero, suc, ◌+◌, ◌≤◌, ◌<◌, max}
use Rattle.meaning.specs.Limits.{most_vars, most_values, most_ops, most_cost, most_maps, most_states, most_edition, most_quota, most_mark}
use Rattle.meaning.specs.Sas.{Sas, Idle, Proper}
use Rattle.meaning.specs.Views.{View, abstract_states}

-- the task, its maps (the class of each value of each variable) and its shares (what an operator costs in each map); the edition of its text, the quota of
-- stored tests, and each operator's mark: how many tests it stores, 1 or 0. In edition 1 quota and marks are 0
pub record Task : Type 0 where
  pub sas : Sas
  pub maps : ℕ
  pub class : ℕ → ℕ → ℕ → ℕ
  pub share : ℕ → ℕ → ℕ
  pub edition : ℕ
  pub quota : ℕ
  pub mark : ℕ → ℕ

-- one more than the largest of the first n classes
abbrev pub count_of : (ℕ → ℕ) → ℕ → ℕ
count_of c zero = 0
count_of c (suc n) = max (count_of c n) (suc (c n))

-- the sum of the first k numbers
abbrev pub sum : (ℕ → ℕ) → ℕ → ℕ
sum f zero = 0
sum f (suc k) = sum f k + f k

-- the view of map m
abbrev pub view : Task → ℕ → View
view T m = record { classes = λ v. count_of (T.class m v) (T.sas.dom v); class = T.class m; price = T.share m }

-- a split passes exactly if no operator's shares total more than its cost
abbrev pub SplitPasses : Task → Type 0
SplitPasses T = (o : ℕ) → o < T.sas.ops → sum (λ m. T.share m o) T.maps ≤ T.sas.cost o

-- the rules and ranges of documents 01 and 02
pub record Valid (T : Task) : Type 0 where
  pub edition : (1 ≤ T.edition) × (T.edition ≤ most_edition)
  pub vars : (1 ≤ T.sas.vars) × (T.sas.vars ≤ most_vars)
  pub values : (v : ℕ) → v < T.sas.vars → T.sas.dom v ≤ most_values
  pub proper : Proper T.sas
  pub quota : T.quota ≤ most_quota
  pub ops : T.sas.ops ≤ most_ops
  pub costs : (o : ℕ) → o < T.sas.ops → T.sas.cost o ≤ most_cost
  pub marks : (o : ℕ) → o < T.sas.ops → T.mark o ≤ most_mark
  pub none_idle : (o : ℕ) → o < T.sas.ops → Idle T.sas o → ⊥
  pub maps : (1 ≤ T.maps) × (T.maps ≤ most_maps)
  pub classes : (m v x : ℕ) → m < T.maps → v < T.sas.vars → x < T.sas.dom v → T.class m v x < T.sas.dom v
  pub none_missing : (m v c : ℕ) → m < T.maps → v < T.sas.vars → c < (view T m).classes v
      → (x : ℕ) × (x < T.sas.dom v) × (T.class m v x ≡ c)
  pub few_states : (m : ℕ) → m < T.maps → abstract_states T.sas (view T m) ≤ most_states
  pub shares : (m o : ℕ) → m < T.maps → o < T.sas.ops → T.share m o ≤ most_cost
  pub split : SplitPasses T
