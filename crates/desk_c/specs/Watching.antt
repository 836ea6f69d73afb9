-- What a C program may trust that watches a run in lent memory: crates/watched_runs/specs/Watched.antt over the words that go back, and the columns where they
-- stand in the run's words.
use Rattle.std.specs.Prelude.{List, ℕ, ◌-◌, ◌≤◌, ◌<◌}
use Rattle.tables.specs.Layout.{Tables}
use Rattle.views.specs.Entries.{distance_said, bound_said}
use Rattle.ledger.specs.Ledger.{all_columns}
use Rattle.words.specs.Words.{distance_word, bound_word}
use Rattle.lent_runs.specs.Lent.{column_in}
use Rattle.lent_runs.specs.Left.{RunLeft}
use Rattle.watched_runs.specs.Watched.{KeepsPace, paid_between}
use Rattle.desk_c.specs.Handing.{DistanceHanded, BoundHanded}

-- two moments of a run, by the memory at each, with the words that are answered at a and b: no column falls; a map's distance falls by at most what the map was
-- paid in between, and the bound by at most what the maps were paid together
pub record NeverJumpsLent (t : Tables) (earlier later : RunLeft) (a b : List ℕ) : Type 0 where
  pub column : (c : ℕ) → c < all_columns → column_in earlier.words c ≤ column_in later.words c
  pub map : (m : ℕ) → m < t.counts.maps → (x y : ℕ) → DistanceHanded t m a x → DistanceHanded t m b y
      → KeepsPace (λ v. distance_word (distance_said v)) (column_in later.words m - column_in earlier.words m) x y
  pub bound : (x y : ℕ) → BoundHanded t a x → BoundHanded t b y
      → KeepsPace (λ v. bound_word (bound_said v)) (paid_between (column_in earlier.words) (column_in later.words) t.counts.maps) x y
