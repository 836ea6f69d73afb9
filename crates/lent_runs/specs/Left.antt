-- What a start or an offer leaves behind: the word that goes back, and the lent bytes and words of the run.
-- Memory that is lent too short is 8 and nothing else, before all.
use Rattle.std.specs.Prelude.{Bool, cond, ◌||◌, List, ℕ, Result, Ok, Err, ltb, length}
use Rattle.refusals.specs.declared.Refusal.{Refusal}
use Rattle.refusals.specs.declared.Refusal.TheVariants.{TableTooShort}
use Rattle.tables.specs.Layout.{Tables}
use Rattle.ledger.specs.declared.Run.{Run}
use Rattle.ledger.specs.declared.Answer.{Answer}
use Rattle.ledger.specs.declared.Answer.TheVariants.{Accepted, Repeated}
use Rattle.ledger.specs.declared.Offered.{Offered}
use Rattle.ledger.specs.Ledger.{begun, offered}
use Rattle.words.specs.Words.{refused_word, answer_word}
use Rattle.lent_runs.specs.Lent.{run_bytes, run_words, run_in, bytes_with, words_with}

pub record RunLeft : Type 0 where
  pub word : ℕ
  pub bytes : List ℕ
  pub words : List ℕ

abbrev pub run_left : ℕ → List ℕ → List ℕ → RunLeft
run_left w b n = record { word = w; bytes = b; words = n }

-- only an accepted start or offer writes the run into lent memory; a refused start hands back no run of zeros there, since a refusal alters nothing that was lent
abbrev pub left_by : Result Answer Refusal → Run → List ℕ → List ℕ → RunLeft
left_by (Ok Accepted) r bytes words = run_left (answer_word (Ok Accepted)) (bytes_with r bytes) (words_with r words)
left_by (Ok Repeated) r bytes words = run_left (answer_word (Ok Repeated)) bytes words
left_by (Err f) r bytes words = run_left (answer_word (Err f)) bytes words

unfoldable pub handed : Offered → List ℕ → List ℕ → RunLeft
handed o bytes words = left_by o.answer o.run bytes words

-- the memory of a run is long enough, or 8
unfoldable pub run_short : List ℕ → List ℕ → Bool
run_short bytes words = ltb (length bytes) run_bytes || ltb (length words) run_words

abbrev pub unless_short : Offered → List ℕ → List ℕ → RunLeft
unless_short o bytes words = cond (run_short bytes words) (run_left (refused_word TableTooShort) bytes words) (handed o bytes words)

unfoldable pub begin_handed : Tables → List ℕ → List ℕ → List ℕ → RunLeft
begin_handed t start bytes words = unless_short (begun t start) bytes words

unfoldable pub offer_handed : Tables → List ℕ → List ℕ → ℕ → ℕ → RunLeft
offer_handed t bytes words number o = unless_short (offered t (run_in bytes words) number o) bytes words
