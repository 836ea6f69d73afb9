-- The lists of a run have their lengths: of a run taken out of lent memory, and of a run begun. Assumes nothing.
use Prim.Native.Nat.{ℕ}
use mathlib.Core.Path.{◌∙◌}
use mathlib.Core.List.{List}
use lib.ListN.{replicate, length-replicate}
use Rattle.std.specs.Prelude.{Ok, Err}
use Rattle.scan.specs.Found.{Found}
use Rattle.tables.specs.Layout.{Tables}
use Rattle.tables.specs.Task.{state_of}
use Rattle.scan.specs.Scan.{input_fault}
use Rattle.tables.proofs.Laws.{length_filled}
use Rattle.meaning.specs.Limits.{most_vars, most_steps}
use Rattle.tables.specs.Steps.{copied}
use Rattle.ledger.specs.declared.Run.{Run}
use Rattle.ledger.specs.Ledger.{all_columns, fresh, started, begun}
use Rattle.ledger.specs.History.{Sized}
use Rattle.ledger.proofs.Runs.{fresh_sized}
use Rattle.lent_runs.specs.Lent.{columns_from, run_in}
use Rattle.lent_runs.proofs.Parts.{part_length}

pub run_in_lengths : (bytes words : List ℕ) → Sized (run_in bytes words)
unfolding run_in
run_in_lengths bytes words =
    record {
      start = part_length bytes 0 8;
      log = part_length words 0 most_steps;
      now = part_length bytes most_vars most_vars;
      columns = part_length words columns_from all_columns;
    }

-- ---- a start

pub begun_sized : (t : Tables) (s : List ℕ) → Sized (begun t s).run
unfolding begun started copied
begun_sized t s =
    either (input_fault t s) (fresh (copied s t.counts.vars))
    (fresh_sized (copied s t.counts.vars)
    (length_filled (state_of s) (replicate most_vars 0) t.counts.vars ∙ length-replicate {A = ℕ} most_vars 0))
  where
    either : (f : Found) (r : Run) → Sized r → Sized (started f r).run
    either (Ok tt) r z = z
    either (Err f) r z = fresh_sized (replicate most_vars 0) (length-replicate {A = ℕ} most_vars 0)
