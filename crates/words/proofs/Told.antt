-- The words tell the answers apart: each is read back, by its kind w % 256 and its number w / 256, as the answer that it was made of,
-- so no two answers of an entry have the same word. Assumes nothing.
use mathlib.Core.Path.{◌≡◌, refl, sym, ap, ap₂, ◌∙◌}
use mathlib.Core.Bool.{Bool, true, cond, ◌&&◌}
use mathlib.Core.List.{[], ◌∷◌}
use Rattle.std.specs.Prelude.{Option, Some, None, Result, Ok, Err}
use Prim.Native.Nat.{ℕ, ◌/◌, ◌%◌, ◌<◌}
use native.Mathlib.Omega.{arith}
use lib.Dec.{ltb, eqb}
use lib.ListN.{get_or}
use Rattle.refusals.specs.declared.Refusal.{Refusal}
use Rattle.refusals.specs.declared.Refusal.TheVariants as refusal
use Rattle.refusals.specs.Listed.{number_of, place_of}
use Rattle.scan.specs.Found.{Found}
use Rattle.grammar.specs.Readings.{Written}
use Rattle.sequences.specs.declared.choosing.Cheaper.{Cheaper}
use Rattle.sequences.specs.declared.choosing.Cheaper.TheVariants as cheaper
use Rattle.sequences.specs.declared.choosing.Choice.{Choice}
use Rattle.sequences.specs.declared.choosing.Choice.TheVariants.{FirstPart, SecondPart, NoPart}
use Rattle.sequences.specs.Choosing.{list_of, steps_of}
use Rattle.ledger.specs.declared.Answer.{Answer}
use Rattle.ledger.specs.declared.Answer.TheVariants as ledger
use Rattle.words.specs.Words.{
  word,
  done,
  first,
  second,
  done_word,
  number_word,
  or_nowhere,
  named_word,
  booked_word,
  refused_word,
  or_refused,
  found_word,
  written_word,
  distances_word,
  distance_word,
  best_word,
  bound_word,
  judged_word,
  cheaper_word,
  opening_word,
  answer_word,
}

-- ---- a word

pub word_told : (k l x y : ℕ) → k < 256 → l < 256 → word k x ≡ word l y → (k ≡ l) × (x ≡ y)
word_told k l x y h g e = (omega arith, omega arith)

-- ---- a refusal

-- the refusal of a number on the paper's list and a place; none has the number 0
abbrev pub refusal_at : ℕ → ℕ → Refusal
refusal_at n p =
    get_or
    (refusal.TextTooLong
    ∷ refusal.TextTooLong
    ∷ refusal.OffForm p
    ∷ refusal.OutOfRange p
    ∷ refusal.NotRising p
    ∷ refusal.ClassMissing p
    ∷ refusal.SharesAboveCost p
    ∷ refusal.TooManyStates p
    ∷ refusal.TableTooShort
    ∷ refusal.ValueOutside p
    ∷ refusal.NoSuchOperator p
    ∷ refusal.SequenceTooLong
    ∷ refusal.MayNotRun p
    ∷ refusal.NotTheNext p
    ∷ refusal.OtherOperator p
    ∷ refusal.RunFull p
    ∷ refusal.NoGoal p
    ∷ refusal.NotARun
    ∷ refusal.IdleOperator p
    ∷ refusal.BeyondQuota p
    ∷ [])
    n refusal.TextTooLong

-- the kinds of refusals
abbrev pub refuses : ℕ → Bool
refuses k = ltb 0 k && ltb k 128

-- number and place give the refusal back, and its number is a refusal's kind
refusal_back : (r : Refusal) → (refusal_at (number_of r) (place_of r) ≡ r) × (refuses (number_of r) ≡ true) × (number_of r < 128)
refusal_back refusal.TextTooLong = (refl, refl, omega arith)
refusal_back (refusal.OffForm line) = (refl, refl, omega arith)
refusal_back (refusal.OutOfRange line) = (refl, refl, omega arith)
refusal_back (refusal.NotRising line) = (refl, refl, omega arith)
refusal_back (refusal.ClassMissing line) = (refl, refl, omega arith)
refusal_back (refusal.SharesAboveCost line) = (refl, refl, omega arith)
refusal_back (refusal.TooManyStates line) = (refl, refl, omega arith)
refusal_back refusal.TableTooShort = (refl, refl, omega arith)
refusal_back (refusal.ValueOutside variable) = (refl, refl, omega arith)
refusal_back (refusal.NoSuchOperator step) = (refl, refl, omega arith)
refusal_back refusal.SequenceTooLong = (refl, refl, omega arith)
refusal_back (refusal.MayNotRun step) = (refl, refl, omega arith)
refusal_back (refusal.NotTheNext step) = (refl, refl, omega arith)
refusal_back (refusal.OtherOperator step) = (refl, refl, omega arith)
refusal_back (refusal.RunFull step) = (refl, refl, omega arith)
refusal_back (refusal.NoGoal steps) = (refl, refl, omega arith)
refusal_back refusal.NotARun = (refl, refl, omega arith)
refusal_back (refusal.IdleOperator line) = (refl, refl, omega arith)
refusal_back (refusal.BeyondQuota step) = (refl, refl, omega arith)

pub number_small : (r : Refusal) → number_of r < 128
number_small r = (refusal_back r).2

pub refusal_told : (r q : Refusal) → number_of r ≡ number_of q → place_of r ≡ place_of q → r ≡ q
refusal_told r q e f = sym (refusal_back r).0 ∙ ap₂ refusal_at e f ∙ (refusal_back q).0

-- ---- an answer

-- a word read back: its kind and its number, and from these a refusal, or what else they say
abbrev pub read_back : {A : Type 0} → (ℕ → ℕ → A) → ℕ → Result A Refusal
read_back other w = cond (refuses (w % 256)) (Err (refusal_at (w % 256) (w / 256))) (Ok (other (w % 256) (w / 256)))

module _ {A : Type 0} (other : ℕ → ℕ → A) where
  -- the word of a kind and a number
  word_back : (k x : ℕ) → k < 256 → read_back other (word k x) ≡ cond (refuses k) (Err (refusal_at k x)) (Ok (other k x))
  word_back k x l =
      let e : word k x % 256 ≡ k = omega arith in
      let f : word k x / 256 ≡ x = omega arith in
      ap₂ {C = Result A Refusal} (λ m n. cond (refuses m) (Err (refusal_at m n)) (Ok (other m n))) e f

  refused_back : (r : Refusal) → read_back other (refused_word r) ≡ Err r
  refused_back r =
      word_back (number_of r) (place_of r) (omega (arith, number_small r)) ∙ rw (refusal_back r).1 (ap (λ (q : Refusal). Err q) (refusal_back r).0)

  -- what is told where nothing was refused is read back, if it is by itself
  pub back : (told : A → ℕ) → ((x : A) → read_back other (told x) ≡ Ok x) → (a : Result A Refusal) → read_back other (or_refused told a) ≡ a
  back told own (Ok x) = own x
  back told own (Err r) = refused_back r

  -- and what is read back is told apart
  told_apart : (told : A → ℕ) → ((x : A) → read_back other (told x) ≡ Ok x) → (a b : Result A Refusal) → or_refused told a ≡ or_refused told b → a ≡ b
  told_apart told own a b e = sym (back told own a) ∙ ap (read_back other) e ∙ back told own b

-- clean tables
pub found_told : (a b : Found) → found_word a ≡ found_word b → a ≡ b
found_told = told_apart (λ k x. tt) done_word (λ x. refl)

-- a number
abbrev pub number : ℕ → ℕ → ℕ
number k x = x

number_back : (n : ℕ) → read_back number (number_word n) ≡ Ok n
number_back n = word_back number done n (omega arith)

-- how many bytes a text has
pub written_told : (a b : Written) → written_word a ≡ written_word b → a ≡ b
written_told = told_apart number number_word number_back

-- the count of rounds
pub distances_told : (a b : Result ℕ Refusal) → distances_word a ≡ distances_word b → a ≡ b
distances_told = told_apart number number_word number_back

-- the cost of a sequence that passed
pub judged_told : (a b : Result ℕ Refusal) → judged_word a ≡ judged_word b → a ≡ b
judged_told = told_apart number number_word number_back

-- a number, or none
abbrev pub number_if : ℕ → ℕ → Option ℕ
number_if k x = cond (eqb k done) (Some x) None

number_if_back : (n : Option ℕ) → read_back number_if (or_nowhere number_word n) ≡ Ok n
number_if_back (Some n) = word_back number_if done n (omega arith)
number_if_back None = refl

-- a distance
pub distance_told : (a b : Result (Option ℕ) Refusal) → distance_word a ≡ distance_word b → a ≡ b
distance_told = told_apart number_if (or_nowhere number_word) number_if_back

-- an operator to take
pub best_told : (a b : Result (Option ℕ) Refusal) → best_word a ≡ best_word b → a ≡ b
best_told = told_apart number_if (or_nowhere number_word) number_if_back

-- a sum
pub bound_told : (a b : Result (Option ℕ) Refusal) → bound_word a ≡ bound_word b → a ≡ b
bound_told = told_apart number_if (or_nowhere number_word) number_if_back

-- which list is the cheaper
abbrev pub which : ℕ → ℕ → Cheaper
which k x = cond (eqb k first) (cheaper.First x) (cond (eqb k second) (cheaper.Second x) cheaper.Neither)

which_back : (n : Cheaper) → read_back which (named_word n) ≡ Ok n
which_back (cheaper.First p) = word_back which first p (omega arith)
which_back (cheaper.Second p) = word_back which second p (omega arith)
which_back cheaper.Neither = refl

pub cheaper_told : (a b : Result Cheaper Refusal) → cheaper_word a ≡ cheaper_word b → a ≡ b
cheaper_told = told_apart which named_word which_back

-- of which list the opening part is, and how many steps it has: all that the word is to tell, so neither and refused input are as the empty part of the first
list_small : (d : Result Choice Refusal) → list_of d first second < 256
list_small (Ok (FirstPart p)) = omega arith
list_small (Ok (SecondPart p)) = omega arith
list_small (Ok NoPart) = omega arith
list_small (Err r) = omega arith

pub opening_told : (d e : Result Choice Refusal) → opening_word d ≡ opening_word e → (list_of d first second ≡ list_of e first second) × (steps_of d ≡ steps_of e)
opening_told d e = word_told (list_of d first second) (list_of e first second) (steps_of d) (steps_of e) (list_small d) (list_small e)

-- an offer or a start
abbrev pub booked : ℕ → ℕ → Answer
booked k x = cond (eqb k done) ledger.Accepted ledger.Repeated

booked_back : (n : Answer) → read_back booked (booked_word n) ≡ Ok n
booked_back ledger.Accepted = refl
booked_back ledger.Repeated = refl

pub answer_told : (a b : Result Answer Refusal) → answer_word a ≡ answer_word b → a ≡ b
answer_told = told_apart booked booked_word booked_back
