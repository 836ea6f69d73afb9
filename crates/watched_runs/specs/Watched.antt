-- THE BOUND DOESN'T JUMP: what a planner may trust who watches a run. The moments are runs that `begin` and `offer` hand back; what is watched are the answers of
-- `bound`, and of `distance_at` for a map alone, at their states now.
use Rattle.std.specs.Prelude.{◌≡◌, List, ℕ, ◌+◌, ◌-◌, ◌≤◌, ◌<◌, Option, Result, length, get_or}
use Rattle.refusals.specs.declared.Refusal.{Refusal}
use Rattle.graph.specs.Cost.{Cost, none, fin}
use Rattle.meaning.specs.Sas.{State}
use Rattle.meaning.specs.Split.{sum}
use Rattle.tables.specs.Layout.{Tables}
use Rattle.tables.specs.Task.{state_of}
use Rattle.views.specs.Entries.{distance_said, bound_said, DistanceGiven, BoundGiven}
use Rattle.ledger.specs.declared.Run.{Run}
use Rattle.ledger.specs.Ledger.{all_columns}

-- v at the earlier moment is at most w at the later one and k more, with none above every number: so if v is none, w is
abbrev pub FallsAtMost : ℕ → Cost → Cost → Type 0
FallsAtMost k none none = Unit {0}
FallsAtMost k none (fin b) = ⊥
FallsAtMost k (fin a) none = Unit {0}
FallsAtMost k (fin a) (fin b) = a ≤ b + k

-- two answers, the earlier first: neither is a refusal, and what they say falls by at most k
abbrev pub KeepsPace : {A : Type 0} → (Cost → A) → ℕ → A → A → Type 0
KeepsPace said k x y = (v : Cost) × (w : Cost) × (x ≡ said v) × (y ≡ said w) × FallsAtMost k v w

-- what stands in column m of a run
abbrev pub column_of : Run → ℕ → ℕ
column_of r m = get_or r.columns m 0

-- what the first k maps were paid between two moments, by what stood and what stands in their columns
abbrev pub paid_between : (ℕ → ℕ) → (ℕ → ℕ) → ℕ → ℕ
paid_between earlier later k = sum (λ m. later m - earlier m) k

-- a lent list shows a state: it has a place for each variable at least, and there the state's values
abbrev pub Shows : ℕ → List ℕ → State → Type 0
Shows vars a s = (vars ≤ length a) × ((v : ℕ) → v < vars → state_of a v ≡ s v)

-- TWO MOMENTS OF A RUN, with what is answered at a and b, which show their states now: no column falls; a map's distance falls by at most what the map was paid
-- in between, and the bound by at most what the maps were paid together
pub record NeverJumps (t : Tables) (earlier later : Run) (a b : List ℕ) : Type 0 where
  pub column : (c : ℕ) → c < all_columns → column_of earlier c ≤ column_of later c
  pub map : (m : ℕ) → m < t.counts.maps → (x y : Result (Option ℕ) Refusal) → DistanceGiven t m a x → DistanceGiven t m b y
      → KeepsPace distance_said (column_of later m - column_of earlier m) x y
  pub bound : (x y : Result (Option ℕ) Refusal) → BoundGiven t a x → BoundGiven t b y
      → KeepsPace bound_said (paid_between (column_of earlier) (column_of later) t.counts.maps) x y
