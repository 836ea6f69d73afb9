-- The text written back: what the writer answers to lent tables and a lent buffer, and what it leaves in the buffer.
use Rattle.grammar.specs.Readings.{Written}
use Rattle.scan.specs.Found.{Found}
use Rattle.std.specs.Prelude.{ℕ, List, ◌++◌, length, drop, leb, Ok, Err}
use Rattle.refusals.specs.declared.Refusal.TheVariants.{TableTooShort}
use Rattle.meaning.specs.Limits.{most_bytes}
use Rattle.tables.specs.Layout.{Tables}
use Rattle.scan.specs.Scan.{unless, ◌then◌, tables_fault}
use Rattle.grammar.specs.Spelling.{text_of}

-- the places that a lent buffer needs, whatever the task: as many as a text may have bytes
abbrev pub text_room : ℕ
text_room = most_bytes

-- what a writing leaves behind: the answer, and the lent buffer
pub record Page : Type 0 where
  pub answer : Written
  pub bytes : List ℕ

abbrev pub page : Written → List ℕ → Page
page a b = record { answer = a; bytes = b }

-- a text in a buffer's first places, and then what was there
unfoldable pub over : List ℕ → List ℕ → List ℕ
over text buffer = text ++ drop (length text) buffer

-- 8 for a buffer that is too short, before all else; then what the tables are refused with
unfoldable pub write_fault : Tables → List ℕ → Found
write_fault t buffer = unless (leb text_room (length buffer)) TableTooShort then tables_fault t

-- the text's length and the text in the buffer; a refusal leaves every place of it as it was
unfoldable pub on_page : Found → List ℕ → List ℕ → Page
on_page (Ok tt) text buffer = page (Ok (length text)) (over text buffer)
on_page (Err r) text buffer = page (Err r) buffer

-- THE WRITER: what it answers to lent tables, and what it leaves in the lent buffer
unfoldable pub write_text : Tables → List ℕ → Page
write_text t buffer = on_page (write_fault t buffer) (text_of t) buffer
