-- A run in lent memory: where its parts stand, and how it is taken out and written back.
use Rattle.std.specs.Prelude.{ℕ, zero, suc, ◌+◌, List, get_or, set, replicate}
use Rattle.meaning.specs.Limits.{most_vars, most_steps}
use Rattle.ledger.specs.declared.Run.{Run}
use Rattle.ledger.specs.Ledger.{all_columns}

-- the list with f i at each place k + i, for i below n
unfoldable pub placed : (ℕ → ℕ) → ℕ → List ℕ → ℕ → List ℕ
placed f k l zero = l
placed f k l (suc n) = set (placed f k l n) (k + n) (f n)

-- the n numbers of a list from place k on
unfoldable pub part : List ℕ → ℕ → ℕ → List ℕ
part l k n = placed (λ i. get_or l (k + i) 0) 0 (replicate n 0) n

-- the list with the first n numbers of x from its place k on
unfoldable pub with_part : List ℕ → ℕ → List ℕ → ℕ → List ℕ
with_part l k x n = placed (λ i. get_or x i 0) k l n

-- the bytes: the start and the state now, one for each variable that there may be
abbrev pub run_bytes : ℕ
run_bytes = most_vars + most_vars

-- the words: the log, the number of its steps, the columns
abbrev pub columns_from : ℕ
columns_from = most_steps + 1

abbrev pub run_words : ℕ
run_words = columns_from + all_columns

unfoldable pub run_in : List ℕ → List ℕ → Run
run_in bytes words =
    record {
      start = part bytes 0 most_vars;
      log = part words 0 most_steps;
      len = get_or words most_steps 0;
      now = part bytes most_vars most_vars;
      columns = part words columns_from all_columns;
    }

-- what a C program looks at in it: the value now of variable v, and what stands in column m
abbrev pub now_in : List ℕ → ℕ → ℕ
now_in bytes v = get_or bytes (most_vars + v) 0

abbrev pub column_in : List ℕ → ℕ → ℕ
column_in words m = get_or words (columns_from + m) 0

-- the lent memory with the run in it; places beyond are as they were
unfoldable pub bytes_with : Run → List ℕ → List ℕ
bytes_with r bytes = with_part (with_part bytes 0 r.start most_vars) most_vars r.now most_vars

unfoldable pub words_with : Run → List ℕ → List ℕ
words_with r words = with_part (set (with_part words 0 r.log most_steps) most_steps r.len) columns_from r.columns all_columns
