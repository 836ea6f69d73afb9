-- More operators than there may be: every such number is refused alike, so that it does not show that a row's length is counted to one above the limit only. Assumes nothing.
use Prim.Native.Nat.{ℕ, ◌<◌}
use mathlib.Core.Path.{◌≡◌, refl, ap}
use mathlib.Core.List.{List}
use native.Mathlib.Omega.{arith}
use lib.ListN.{length}
use borrow.Author.Tests.{lt-leb}
use Rattle.meaning.specs.Limits.{most_ops}
use Rattle.tables.specs.declared.Counts.{Counts}
use Rattle.scan.specs.Found.{Found}
use Rattle.std.specs.Prelude.{min}
use Rattle.std.specs.Result.{result_and}
use Rattle.tables.specs.Task.{tables}
use Rattle.scan.specs.Scan.{◌then◌, facts_fault, task_fault, roomy, tables_fault, state_fault, input_fault}
use Rattle.scan.proofs.Validity.{clean_valid}
use Rattle.scan.proofs.Unread.{unless_same}
use Rattle.sequences.specs.Judging.{judged_of}
use Rattle.sequences.proofs.Passing.{input_clean}
use Rattle.records.specs.declared.OpRecord.{OpRecord}
use Rattle.records.specs.Records.{more_ops, records_tables}

-- the counts with another number of operators
abbrev pub numbered : Counts → ℕ → Counts
numbered c n = record { vars = c.vars; ops = n; maps = c.maps; edition = c.edition; quota = c.quota }

module _ (c : Counts) (f k shares : List ℕ) (a b : ℕ) (p : most_ops < a) (q : most_ops < b) where
  many_fault : tables_fault (tables (numbered c a) f k shares) ≡ tables_fault (tables (numbered c b) f k shares)
  unfolding tables_fault task_fault facts_fault roomy
  many_fault = rw (lt-leb a most_ops p, lt-leb b most_ops q) refl

  many_input : (s : List ℕ) → input_fault (tables (numbered c a) f k shares) s ≡ input_fault (tables (numbered c b) f k shares) s
  unfolding input_fault state_fault
  many_input s = ap (λ (x : Found). x then state_fault (numbered c a) f s) many_fault

  many_alike : (s ops : List ℕ) → judged_of (tables (numbered c a) f k shares) s ops ≡ judged_of (tables (numbered c b) f k shares) s ops
  unfolding judged_of
  many_alike s ops =
      unless_same result_and (λ r x y. refl) _ _ _ _ (many_input s)
      (λ e. absurd (let z : ⊥ = omega (arith, (clean_valid (tables (numbered c a) f k shares) (input_clean (tables (numbered c a) f k shares) s e).0).ops) in z))

-- with the whole length for the number of operators the answer is the same
pub many_records : (c : Counts) (facts shares s ops : List ℕ) (rows : List OpRecord) → most_ops < length rows
    → judged_of (records_tables c facts shares rows) s ops
    ≡ judged_of (tables (numbered c (length rows)) (records_tables c facts shares rows).facts (records_tables c facts shares rows).costs shares) s ops
unfolding records_tables
many_records c facts shares s ops rows h =
    let T = records_tables c facts shares rows in
    let above : most_ops < min (length rows) more_ops = omega arith in
    many_alike c T.facts T.costs shares (min (length rows) more_ops) (length rows) above h s ops
