-- A map's answer at a state's image: what the function below `distance_at` and `best_at` gives.
use Rattle.scan.specs.Found.{clean}
use Rattle.std.specs.Prelude.{◌≡◌, List, [], ℕ}
use Rattle.tables.specs.Layout.{Tables}
use Rattle.tables.specs.Task.{task_of, tables, state_of}
use Rattle.sweep.specs.declared.rounds.Pick.{Pick}
use Rattle.sweep.specs.Inside.Classes.{AtImage}
use Rattle.views.specs.Entries.{distance_fault}

-- nothing is at fault, and p is what map m has at the image, whatever the task costs
pub record AskedImage (t : Tables) (m : ℕ) (s : List ℕ) (p : Pick) : Type 0 where
  pub faultless : distance_fault t m s ≡ clean
  pub at : AtImage (task_of (tables t.counts t.facts [] t.shares)) (state_of s) m p
