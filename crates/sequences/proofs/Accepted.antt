-- Accepted tables are fit for the steps. Assumes nothing.
use Prim.Native.Nat.{ℕ}
use mathlib.Core.Path.{◌≡◌, sym, ◌∙◌}
use mathlib.Core.List.{List}
use Rattle.scan.specs.Found.{Found, clean}
use Rattle.tables.specs.Layout.{Tables}
use Rattle.tables.specs.Task.{task_of}
use Rattle.scan.specs.Scan.{input_fault}
use Rattle.scan.proofs.Validity.{clean_valid}
use Rattle.sequences.specs.Inside.Steps.{Usable}
use Rattle.sequences.proofs.Passing.{input_clean}

pub usable : (t : Tables) (s : List ℕ) {f : Found} → f ≡ input_fault t s → f ≡ clean → Usable (task_of t)
usable t s e c =
    let ok = clean_valid t (input_clean t s (sym e ∙ c)).0 in
    record { vars = ok.vars.1; ops = ok.ops; costs = ok.costs; quota = ok.quota }
