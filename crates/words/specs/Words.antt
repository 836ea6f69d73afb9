-- What goes back to C: one word an answer, a kind below 256 and a number above it. A refusal's kind is its number on the paper's list, and the number its place.
use Rattle.std.specs.Prelude.{ℕ, ◌+◌, ◌*◌, ◌<◌, Option, Some, None, Result, Ok, Err, IfOk, IfSome}
use Rattle.refusals.specs.declared.Refusal.{Refusal}
use Rattle.refusals.specs.Listed.{number_of, place_of}
use Rattle.scan.specs.Found.{Found}
use Rattle.grammar.specs.Readings.{Reading, Written}
use Rattle.sequences.specs.declared.choosing.Cheaper.{Cheaper}
use Rattle.sequences.specs.declared.choosing.Cheaper.TheVariants as cheaper
use Rattle.sequences.specs.declared.choosing.Choice.{Choice}
use Rattle.sequences.specs.Choosing.{list_of, steps_of}
use Rattle.ledger.specs.declared.Answer.{Answer}
use Rattle.ledger.specs.declared.Answer.TheVariants as ledger

-- the word of a kind and a number
abbrev pub word : ℕ → ℕ → ℕ
word kind x = kind + 256 * x

-- the kinds of the answers that are no refusals: done, with a number where there is one to tell; and those of 128 and above
abbrev pub done : ℕ
done = 0

abbrev pub nowhere : ℕ
nowhere = 128

abbrev pub repeated : ℕ
repeated = 129

abbrev pub first : ℕ
first = 130

abbrev pub second : ℕ
second = 131

abbrev pub neither : ℕ
neither = 132

-- ---- IN PARTS: done, with nothing to tell; a number; what may be none; which list is the cheaper, with its cost; an offer or a start that wasn't refused
abbrev pub done_word : {A : Type 0} → A → ℕ
done_word x = word done 0

abbrev pub number_word : ℕ → ℕ
number_word n = word done n

abbrev pub or_nowhere : {A : Type 0} → (A → ℕ) → Option A → ℕ
or_nowhere told (Some x) = told x
or_nowhere told None = word nowhere 0

abbrev pub named_word : Cheaper → ℕ
named_word (cheaper.First p) = word first p
named_word (cheaper.Second p) = word second p
named_word cheaper.Neither = word neither 0

abbrev pub booked_word : Answer → ℕ
booked_word ledger.Accepted = word done 0
booked_word ledger.Repeated = word repeated 0

-- a number that is told fits above its kind in a word of 64 bits
abbrev pub FitsAbove : ℕ → Type 0
FitsAbove n = n < 72057594037927936

-- a refusal: its number and its place
abbrev pub refused_word : Refusal → ℕ
refused_word r = word (number_of r) (place_of r)

-- what is told where nothing was refused, or the refusal
abbrev pub or_refused : {A : Type 0} → (A → ℕ) → Result A Refusal → ℕ
or_refused told (Ok x) = told x
or_refused told (Err r) = refused_word r

-- ---- THE ANSWERS. Clean tables
abbrev pub found_word : Found → ℕ
found_word = or_refused done_word

-- a reading; the counts go back beside it
abbrev pub reading_word : Reading → ℕ
reading_word = or_refused done_word

-- how many bytes a text has
abbrev pub written_word : Written → ℕ
written_word = or_refused number_word

-- the count of rounds
abbrev pub distances_word : Result ℕ Refusal → ℕ
distances_word = or_refused number_word

-- a distance, or none
abbrev pub distance_word : Result (Option ℕ) Refusal → ℕ
distance_word = or_refused (or_nowhere number_word)

-- an operator to take, or none
abbrev pub best_word : Result (Option ℕ) Refusal → ℕ
best_word = or_refused (or_nowhere number_word)

-- a sum, or none
abbrev pub bound_word : Result (Option ℕ) Refusal → ℕ
bound_word = or_refused (or_nowhere number_word)

-- every sum that the desk gives fits
abbrev pub SumFits : Result (Option ℕ) Refusal → Type 0
SumFits a = IfOk a (λ sum. IfSome sum FitsAbove)

-- the cost of a sequence that passed
abbrev pub judged_word : Result ℕ Refusal → ℕ
judged_word = or_refused number_word

-- which list is the cheaper, with its cost
abbrev pub cheaper_word : Result Cheaper Refusal → ℕ
cheaper_word = or_refused named_word

-- of which list the opening part is, and how many steps it has
abbrev pub opening_word : Result Choice Refusal → ℕ
opening_word d = word (list_of d first second) (steps_of d)

-- an offer or a start
abbrev pub answer_word : Result Answer Refusal → ℕ
answer_word = or_refused booked_word
