-- A RUN IN LENT MEMORY IS CARRIED: what is handed back is what is taken again, handing back what was taken moves nothing, and places beyond the run's are as
-- they were. So a run that lives in C's memory, from its start through any offers, is the run of the desk's theorems: its history is told there too.
-- Assumes nothing.
use Prim.Native.Nat.{ℕ, ◌+◌, ◌≤◌}
use mathlib.Core.Path.{◌≡◌, refl, ap, sym, ◌∙◌, subst}
use mathlib.Core.List.{List, [], ◌∷◌}
use mathlib.Core.Logic.{◌↔◌}
use native.Mathlib.Omega.{arith}
use lib.ListN.{length, get_or, set, length-set}
use lib.Seq.{get_or-set_same, get_or-set_other, set-get_or}
use Rattle.scan.specs.Found.{clean}
use Rattle.std.specs.Prelude.{Result, Ok, Err}
use Rattle.refusals.specs.declared.Refusal.{Refusal}
use Rattle.refusals.specs.declared.Refusal.TheVariants.{TableTooShort, NotARun}
use Rattle.meaning.proofs.Facts.{by_cases}
use Rattle.tables.specs.Layout.{Tables}
use Rattle.tables.specs.Task.{task_of, state_of}
use Rattle.scan.specs.Scan.{tables_fault}
use Rattle.meaning.specs.Limits.{most_vars, most_steps}
use Rattle.ledger.specs.declared.Run.{Run}
use Rattle.ledger.specs.declared.Answer.{Answer}
use Rattle.ledger.specs.declared.Answer.TheVariants.{Accepted, Repeated}
use Rattle.ledger.specs.declared.Offered.{Offered}
use Rattle.ledger.specs.Ledger.{all_columns, begun, offered}
use Rattle.ledger.specs.History.{Offer, really_run, ran, run_after, Tells, GivenByStartAndLog, Sized, WithinSteps, steps_in, TellsStored}
use Rattle.ledger.proofs.Accepted.{offer_stays}
use Rattle.ledger.proofs.Entries.{offered_sized}
use Rattle.ledger.proofs.History.{history}
use Rattle.ledger.proofs.Seventeen.{seventeen_exactly, not_seventeen}
use Rattle.ledger.proofs.Within.{given_within}
use Rattle.ledger.proofs.Stored.{begun_stores, given_stores}
use Rattle.words.specs.Words.{refused_word, answer_word}
use Rattle.words.proofs.Told.{answer_told}
use Rattle.lent_runs.specs.Lent.{columns_from, part, with_part, run_bytes, run_words, run_in, bytes_with, words_with}
use Rattle.lent_runs.specs.Left.{RunLeft, run_left, left_by, handed, run_short, unless_short, begin_handed, offer_handed}
use Rattle.lent_runs.proofs.Parts as parts
use Rattle.lent_runs.proofs.Sizes.{run_in_lengths, begun_sized}
use Rattle.lent_runs.proofs.Handed.{long_enough, not_short}

-- ---- what is handed back is what is taken again

module _ (r : Run) (sized : Sized r) (bytes words : List ℕ) (long-bytes : run_bytes ≤ length bytes) (long-words : run_words ≤ length words) where
  abbrev started : List ℕ
  started = with_part bytes 0 r.start most_vars

  start_back : part (bytes_with r bytes) 0 most_vars ≡ r.start
  unfolding bytes_with
  start_back = parts.part_put_before started most_vars r.now most_vars 0 most_vars (omega arith) ∙ parts.part_put bytes 0 r.start most_vars sized.start (omega arith)

  now_back : part (bytes_with r bytes) most_vars most_vars ≡ r.now
  unfolding bytes_with
  now_back = parts.part_put started most_vars r.now most_vars sized.now (omega (arith, parts.part_put_length bytes 0 r.start most_vars))

  abbrev logged : List ℕ
  logged = with_part words 0 r.log most_steps

  abbrev counted : List ℕ
  counted = set logged most_steps r.len

  logged_length : length logged ≡ length words
  logged_length = parts.part_put_length words 0 r.log most_steps

  log_back : part (words_with r words) 0 most_steps ≡ r.log
  unfolding words_with
  log_back =
      parts.part_put_before counted columns_from r.columns all_columns 0 most_steps (omega arith)
      ∙ parts.part_same counted logged 0 most_steps (λ i h. get_or-set_other logged most_steps (0 + i) r.len 0 (λ e. omega arith))
      ∙ parts.part_put words 0 r.log most_steps sized.log (omega arith)

  len_back : get_or (words_with r words) most_steps 0 ≡ r.len
  unfolding words_with
  len_back =
      parts.put_before counted columns_from r.columns all_columns most_steps (omega arith)
      ∙ get_or-set_same logged most_steps r.len 0 (omega (arith, logged_length))

  columns_back : part (words_with r words) columns_from all_columns ≡ r.columns
  unfolding words_with
  columns_back =
      parts.part_put counted columns_from r.columns all_columns sized.columns
      (omega (arith, logged_length, length-set logged most_steps r.len))

  pub taken_back : run_in (bytes_with r bytes) (words_with r words) ≡ r
  unfolding run_in
  taken_back = rw (start_back, now_back, log_back, len_back, columns_back) refl

-- ---- handing back what was taken moves nothing

pub left_alone : (bytes words : List ℕ) → (bytes_with (run_in bytes words) bytes ≡ bytes) × (words_with (run_in bytes words) words ≡ words)
unfolding run_in bytes_with words_with
left_alone bytes words = (
  rw (parts.put_part bytes 0 most_vars) (parts.put_part bytes most_vars most_vars),
  rw (parts.put_part words 0 most_steps, set-get_or words most_steps 0) (parts.put_part words columns_from all_columns),
)

-- ---- places beyond the run's are as they were, and no length changes

pub beyond_kept : (r : Run) (bytes words : List ℕ) (k : ℕ)
    → (run_bytes ≤ k → get_or (bytes_with r bytes) k 0 ≡ get_or bytes k 0) × (run_words ≤ k → get_or (words_with r words) k 0 ≡ get_or words k 0)
unfolding bytes_with words_with
beyond_kept r bytes words k =
    let started = with_part bytes 0 r.start most_vars in
    let logged = with_part words 0 r.log most_steps in (
      λ h. parts.put_after started most_vars r.now most_vars k (omega arith) ∙ parts.put_after bytes 0 r.start most_vars k (omega arith),
      λ h.
          parts.put_after (set logged most_steps r.len) columns_from r.columns all_columns k (omega arith)
          ∙ get_or-set_other logged most_steps k r.len 0 (λ e. omega arith)
          ∙ parts.put_after words 0 r.log most_steps k (omega arith),
    )

pub lengths_kept : (r : Run) (bytes words : List ℕ)
    → (length (bytes_with r bytes) ≡ length bytes) × (length (words_with r words) ≡ length words)
lengths_kept r bytes words =
    (parts.bytes_length r bytes (bytes_with r bytes) refl, parts.words_length r words (words_with r words) refl)

-- ---- the run in what an entry left

abbrev pub run_lent : RunLeft → Run
run_lent m = run_in m.bytes m.words

either_way : {A : Type 0} (a : Result Answer Refusal) → (a ≡ Ok Accepted → A) → ((a ≡ Ok Accepted → ⊥) → A) → A
either_way (Ok Accepted) f g = f refl
either_way (Ok Repeated) f g = g (λ e. cc)
either_way (Err r) f g = g (λ e. cc)

-- ---- an answer that is handed back through lent memory

-- what an entry leaves there: the answer's word; the run, if the answer is accepted, and else every place as it was; and in any case the places beyond the
-- run's as they were, in memory as long as before
pub record Carried (bytes words : List ℕ) (o : Offered) (left : RunLeft) : Type 0 where
  pub told : left.word ≡ answer_word o.answer
  pub run : o.answer ≡ Ok Accepted → run_lent left ≡ o.run
  pub still : (o.answer ≡ Ok Accepted → ⊥) → (left.bytes ≡ bytes) × (left.words ≡ words)
  pub beyond : (k : ℕ) → (run_bytes ≤ k → get_or left.bytes k 0 ≡ get_or bytes k 0) × (run_words ≤ k → get_or left.words k 0 ≡ get_or words k 0)
  pub lengths : (length left.bytes ≡ length bytes) × (length left.words ≡ length words)

module _ (bytes words : List ℕ) (long-bytes : run_bytes ≤ length bytes) (long-words : run_words ≤ length words) where
  kept_carried : (a : Result Answer Refusal) (r : Run) → (a ≡ Ok Accepted → ⊥)
      → Carried bytes words (record { run = r; answer = a }) (run_left (answer_word a) bytes words)
  kept_carried a r h =
      record {
        told = refl;
        run = λ e. absurd (h e);
        still = λ n. (refl, refl);
        beyond = λ k. (λ b. refl, λ b. refl);
        lengths = (refl, refl);
      }

  answer_carried : (a : Result Answer Refusal) (r : Run) → Sized r
      → Carried bytes words (record { run = r; answer = a }) (left_by a r bytes words)
  answer_carried (Ok Accepted) r sized =
      record {
        told = refl;
        run = λ e. taken_back r sized bytes words long-bytes long-words;
        still = λ h. absurd (h refl);
        beyond = beyond_kept r bytes words;
        lengths = lengths_kept r bytes words;
      }
  answer_carried (Ok Repeated) r sized = kept_carried (Ok Repeated) r (λ e. cc)
  answer_carried (Err f) r sized = kept_carried (Err f) r (λ e. cc)

  unless_short_carried : (o : Offered) → Sized o.run → Carried bytes words o (unless_short o bytes words)
  unfolding handed
  unless_short_carried o sized = rw (not_short bytes words long-bytes long-words) (answer_carried o.answer o.run sized)

  pub begins_carried : (t : Tables) (s : List ℕ) → Carried bytes words (begun t s) (begin_handed t s bytes words)
  unfolding begin_handed
  begins_carried t s = unless_short_carried (begun t s) (begun_sized t s)

  pub offers_carried : (t : Tables) (number o : ℕ) → Carried bytes words (offered t (run_in bytes words) number o) (offer_handed t bytes words number o)
  unfolding offer_handed
  offers_carried t number o =
      unless_short_carried (offered t (run_in bytes words) number o)
      (offered_sized t (run_in bytes words) (run_in_lengths bytes words) number o)

  -- accepted or not, the run in lent memory is then the run that the offer gives
  pub offer_run : (t : Tables) (number o : ℕ) → run_lent (offer_handed t bytes words number o) ≡ (offered t (run_in bytes words) number o).run
  unfolding offered
  offer_run t number o =
      let carried = offers_carried t number o in
      either_way (offered t (run_in bytes words) number o).answer carried.run
      (λ h.
      ap (λ (l : List ℕ). run_in l (offer_handed t bytes words number o).words) (carried.still h).0
      ∙ ap (run_in bytes) (carried.still h).1
      ∙ sym (offer_stays t (run_in bytes words) number o h))

-- ---- any offers, each made to the run that the one before left in lent memory

unfoldable pub offers_handed : Tables → RunLeft → List Offer → RunLeft
offers_handed t m [] = m
offers_handed t m (x ∷ xs) = offers_handed t (offer_handed t m.bytes m.words x.number x.op) xs

pub memory_ran : (t : Tables) (xs : List Offer) (m : RunLeft) → run_bytes ≤ length m.bytes → run_words ≤ length m.words
    → run_lent (offers_handed t m xs) ≡ ran t (run_lent m) xs
unfolding offers_handed ran
memory_ran t [] m b w = refl
memory_ran t (x ∷ xs) m b w =
    let m' = offer_handed t m.bytes m.words x.number x.op in
    let lengths = (offers_carried m.bytes m.words b w t x.number x.op).lengths in
    memory_ran t xs m' (omega (arith, lengths.0)) (omega (arith, lengths.1))
    ∙ ap (λ (r : Run). ran t r xs) (offer_run m.bytes m.words b w t x.number x.op)

-- THE HISTORY IN LENT MEMORY: after an accepted start and any offers, the run there is the one that the desk's theorems speak of, and tells the steps really run
module _ (t : Tables) (s bytes words : List ℕ) (long-bytes : run_bytes ≤ length bytes) (long-words : run_words ≤ length words)
    (accepted : (begun t s).answer ≡ Ok Accepted) where
  pub memory_after : (xs : List Offer) → run_lent (offers_handed t (begin_handed t s bytes words) xs) ≡ run_after t s xs
  memory_after xs =
      let carried = begins_carried bytes words long-bytes long-words t s in
      memory_ran t xs (begin_handed t s bytes words) (omega (arith, carried.lengths.0)) (omega (arith, carried.lengths.1))
      ∙ ap (λ (r : Run). ran t r xs) (carried.run accepted)

  pub history_carried : (xs : List Offer)
      → Tells (task_of t) (state_of s) (really_run (task_of t) (state_of s) xs) (run_lent (offers_handed t (begin_handed t s bytes words) xs))
  history_carried xs = rw (memory_after xs) (history t s accepted xs)

  -- so it tells the tests that these stored
  pub stored_carried : (xs : List Offer)
      → TellsStored (task_of t) (really_run (task_of t) (state_of s) xs) (run_lent (offers_handed t (begin_handed t s bytes words) xs))
  stored_carried xs = rw (memory_after xs) (begun_stores t s accepted xs)

-- AND WHATEVER C PUTS THERE: an offer is answered 17 if and only if the memory is long enough, the tables are clean, and what stands in the memory isn't what its
-- start and log give
module _ (t : Tables) (bytes words : List ℕ) (number o : ℕ) where
  abbrev Seventeen : Type 0
  Seventeen =
      (run_bytes ≤ length bytes) × (run_words ≤ length words) × (tables_fault t ≡ clean) × (GivenByStartAndLog (task_of t) (run_in bytes words) → ⊥)

  exactly : ((offered t (run_in bytes words) number o).answer ≡ Err NotARun)
      ↔ ((tables_fault t ≡ clean) × (GivenByStartAndLog (task_of t) (run_in bytes words) → ⊥))
  exactly = seventeen_exactly t (run_in bytes words) number o (run_in_lengths bytes words)

  told_so : (offer_handed t bytes words number o).word ≡ refused_word NotARun → Seventeen
  unfolding offer_handed
  told_so e =
      by_cases (run_short bytes words)
      (λ p.
      let q : refused_word TableTooShort ≡ refused_word NotARun = rw p at e in
      absurd (let n : ⊥ = omega arith in n))
      (λ p.
      let long = long_enough bytes words p in
      let told = (offers_carried bytes words long.0 long.1 t number o).told in
      let h = exactly.0 (answer_told (offered t (run_in bytes words) number o).answer (Err NotARun) (sym told ∙ e)) in
      (long.0, long.1, h.0, h.1))

  pub memory_seventeen_exactly : ((offer_handed t bytes words number o).word ≡ refused_word NotARun) ↔ Seventeen
  memory_seventeen_exactly =
      (told_so, λ h. (offers_carried bytes words h.0 h.1 t number o).told ∙ ap answer_word (exactly.1 (h.2, h.3)))

  -- what isn't 17 is what its start and log give, before the offer and after it; so its columns are within the steps, and it tells the tests of its own log
  module _ (long-bytes : run_bytes ≤ length bytes) (long-words : run_words ≤ length words) (clean : tables_fault t ≡ clean)
      (other : (offer_handed t bytes words number o).word ≡ refused_word NotARun → ⊥) where
    abbrev before : Run
    before = run_in bytes words

    abbrev after : Run
    after = run_lent (offer_handed t bytes words number o)

    memory_given : GivenByStartAndLog (task_of t) before × GivenByStartAndLog (task_of t) after
    memory_given =
        let given =
        not_seventeen t before number o clean (run_in_lengths bytes words)
        (λ e. other ((offers_carried bytes words long-bytes long-words t number o).told ∙ ap answer_word e)) in
        (given.0, subst (GivenByStartAndLog (task_of t)) (sym (offer_run bytes words long-bytes long-words t number o)) given.1)

    pub memory_within : WithinSteps before × WithinSteps after
    memory_within = (given_within t clean before memory_given.0, given_within t clean after memory_given.1)

    pub memory_stores : TellsStored (task_of t) (steps_in before) before × TellsStored (task_of t) (steps_in after) after
    memory_stores = (given_stores t clean before memory_given.0, given_stores t clean after memory_given.1)
