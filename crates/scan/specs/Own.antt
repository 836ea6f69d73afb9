-- What is read of lent tables and of a lent state: a task's own places, as far as its counts go, and whether there is room for the largest task.
use Rattle.std.specs.Prelude.{◌≡◌, List, ℕ, ◌<◌, leb, length}
use Rattle.tables.specs.declared.Counts.{Counts}
use Rattle.tables.specs.Layout.{Tables, dom_at, init_at, goal_at, pre_at, eff_at, class_at, cost_at, share_at, quota_of, mark_of}
use Rattle.tables.specs.Task.{state_of}
use Rattle.scan.specs.Scan.{roomy}

-- the same counts, as far as they are read: in edition 1 the quota isn't
pub record SameCounts (c d : Counts) : Type 0 where
  pub vars : c.vars ≡ d.vars
  pub ops : c.ops ≡ d.ops
  pub maps : c.maps ≡ d.maps
  pub edition : c.edition ≡ d.edition
  pub quota : quota_of c ≡ quota_of d

-- t and u have the same counts and both have room or neither, and they agree at every place of the task's own: what stands in any other place may differ. The
-- marks are the task's own in edition 2 alone
pub record OwnSame (t u : Tables) : Type 0 where
  pub counts : SameCounts t.counts u.counts
  pub room : roomy t ≡ roomy u
  pub dom : (v : ℕ) → v < t.counts.vars → dom_at t.facts v ≡ dom_at u.facts v
  pub init : (v : ℕ) → v < t.counts.vars → init_at t.facts v ≡ init_at u.facts v
  pub goal : (v : ℕ) → v < t.counts.vars → goal_at t.facts v ≡ goal_at u.facts v
  pub pre : (o v : ℕ) → o < t.counts.ops → v < t.counts.vars → pre_at t.facts o v ≡ pre_at u.facts o v
  pub eff : (o v : ℕ) → o < t.counts.ops → v < t.counts.vars → eff_at t.facts o v ≡ eff_at u.facts o v
  pub class : (m v x : ℕ) → m < t.counts.maps → v < t.counts.vars → x < dom_at t.facts v
      → class_at t.facts m v x ≡ class_at u.facts m v x
  pub cost : (o : ℕ) → o < t.counts.ops → cost_at t.costs o ≡ cost_at u.costs o
  pub share : (m o : ℕ) → m < t.counts.maps → o < t.counts.ops → share_at t.shares m o ≡ share_at u.shares m o
  pub mark : (o : ℕ) → o < t.counts.ops → mark_of t.counts t.facts o ≡ mark_of u.counts u.facts o

-- two lent states both have a place a variable or neither has, and they agree there: further places may differ
pub record OwnState (c : Counts) (s z : List ℕ) : Type 0 where
  pub room : leb c.vars (length s) ≡ leb c.vars (length z)
  pub values : (v : ℕ) → v < c.vars → state_of s v ≡ state_of z v
