-- Laws of a lent row of counts, and of what a reading hands back: each outcome from the facts that a way through the code has. Assumes nothing.
use Prim.Native.Nat.{ℕ, ◌≤◌, ◌<◌}
use mathlib.Core.Path.{◌≡◌, refl}
use mathlib.Core.List.{List, []}
use lib.ListN.{length}
use borrow.Author.Tests.{lt-ltb, le-ltb}
use Rattle.std.specs.Prelude.{Err}
use Rattle.grammar.specs.Readings.{Reading}
use Rattle.refusals.specs.declared.Refusal.TheVariants.{TableTooShort}
use Rattle.grammar.specs.Fields.{leaves}
use Rattle.grammar.specs.Grammar.{read_text}
use Rattle.scan.specs.Scan.{roomy, tables_fault}
use Rattle.words.specs.Words.{refused_word, reading_word}
use Rattle.desk_c.specs.Handing.{counts_row, counts_after, facts_beside, row_tables, read_left, read_handed}

module _ (text counts f c s : List ℕ) (w : ℕ) where
  pub read_short : length counts < counts_row → w ≡ refused_word TableTooShort → read_left w counts f c s ≡ read_handed text counts f c s
  unfolding read_handed
  read_short h e = rw (lt-ltb (length counts) counts_row h, e) refl

  module _ (long : counts_row ≤ length counts) (a : Reading) (f' c' s' : List ℕ) (left : leaves a f' c' s' ≡ read_text text f c s) where
    pub read_back : w ≡ reading_word a → {row : List ℕ} → row ≡ counts_after a counts → read_left w row f' c' s' ≡ read_handed text counts f c s
    unfolding read_handed
    read_back e q = rw (le-ltb (length counts) counts_row long, ← left, e, q) refl

-- ---- a lent row of counts

-- the facts beside it
pub beside_short : (row facts : List ℕ) → length row < counts_row → facts_beside row facts ≡ []
unfolding facts_beside
beside_short row facts h = rw (lt-ltb (length row) counts_row h) refl

pub beside_long : (row facts : List ℕ) → counts_row ≤ length row → facts_beside row facts ≡ facts
unfolding facts_beside
beside_long row facts h = rw (le-ltb (length row) counts_row h) refl

-- A ROW THAT IS TOO SHORT IS 8, whatever else was lent
pub short_row : (row facts costs shares : List ℕ) → length row < counts_row → tables_fault (row_tables row facts costs shares) ≡ Err TableTooShort
unfolding tables_fault roomy
short_row row facts costs shares h = rw (beside_short row facts h) refl
