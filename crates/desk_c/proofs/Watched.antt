-- THE BOUND DOESN'T JUMP, for a run that a C program keeps in lent memory: memory of any origin that isn't 17, and so that which `desk_begin` fills. Over the words
-- that `desk_begin`, `desk_bound` and `desk_distance_at` hand back, and the state now and the columns where they stand in the memory that any calls of `desk_offer`
-- leave, one after another. By the theorems of crates/watched_runs, as lent memory carries the desk's own run. Assumes nothing.
use Rattle.std.specs.Prelude.{Ok}
use mathlib.Core.Path.{◌≡◌, sym, ap, ap₂, ◌∙◌, subst}
use mathlib.Core.List.{List, ◌++◌}
use Prim.Native.Nat.{ℕ, ◌-◌, ◌≤◌, ◌<◌}
use native.Mathlib.Omega.{arith}
use lib.ListN.{length}
use Rattle.scan.specs.Found.{clean}
use Rattle.refusals.specs.declared.Refusal.TheVariants.{TableTooShort}
use Rattle.meaning.specs.Limits.{most_vars}
use Rattle.meaning.specs.Split.{sum, Valid}
use Rattle.meaning.proofs.Columns.{sum_same}
use Rattle.meaning.proofs.Facts.{by_cases}
use Rattle.scan.specs.Scan.{tables_fault}
use Rattle.scan.proofs.Validity.{clean_valid}
use Rattle.tables.specs.Layout.{Tables}
use Rattle.tables.specs.Task.{task_of, state_of}
use Rattle.views.specs.Entries.{distance_said, bound_said}
use Rattle.views.proofs.Answered.{distance_said_lem, bound_said_lem}
use Rattle.ledger.specs.declared.Run.{Run}
use Rattle.ledger.specs.declared.Answer.TheVariants.{Accepted}
use Rattle.ledger.specs.Ledger.{all_columns, begun}
use Rattle.ledger.specs.History.{Offer, ran, run_after, GivenByStartAndLog}
use Rattle.ledger.proofs.Entries.{accepted_began}
use Rattle.words.specs.Words.{word, done, nowhere, refused_word, distance_word, bound_word}
use Rattle.words.proofs.Told.{distance_told, bound_told, answer_told}
use Rattle.lent_runs.specs.Lent.{run_bytes, run_words, columns_from, run_in, now_in, column_in}
use Rattle.lent_runs.specs.Left.{RunLeft, run_short, begin_handed}
use Rattle.lent_runs.proofs.Parts.{part_at}
use Rattle.lent_runs.proofs.Sizes.{run_in_lengths}
use Rattle.lent_runs.proofs.Handed.{long_enough}
use Rattle.lent_runs.proofs.Carried.{run_lent, begins_carried, offers_handed, memory_ran, memory_after}
use Rattle.watched_runs.specs.Watched.{KeepsPace, column_of, Shows, NeverJumps}
use Rattle.watched_runs.proofs.Pace.{none_kept, told_keeps_pace}
use Rattle.watched_runs.proofs.Kept.{kept_never_jumps}
use Rattle.watched_runs.proofs.Theorems as watched
use Rattle.desk_c.specs.Handing.{DistanceHanded, BoundHanded}
use Rattle.desk_c.specs.Watching.{NeverJumpsLent}

-- where the earlier word is none, the later is: of a map, and of the bound
module _ (t : Tables) (earlier later : RunLeft) (a b : List ℕ) (never : NeverJumpsLent t earlier later a b) where
  pub map_none_stays : (m : ℕ) → m < t.counts.maps → (x y : ℕ) → DistanceHanded t m a x → DistanceHanded t m b y → x ≡ word nowhere 0 → y ≡ word nowhere 0
  map_none_stays m l x y f g =
      none_kept (λ v. distance_word (distance_said v)) (λ v w e. distance_said_lem v w (distance_told (distance_said v) (distance_said w) e)) _ (never.map m l x y f g)

  pub none_stays : (x y : ℕ) → BoundHanded t a x → BoundHanded t b y → x ≡ word nowhere 0 → y ≡ word nowhere 0
  none_stays x y f g =
      none_kept (λ v. bound_word (bound_said v)) (λ v w e. bound_said_lem v w (bound_told (bound_said v) (bound_said w) e)) _ (never.bound x y f g)

-- ---- what C looks at in memory that carries a run is the run's own

module _ (t : Tables) (valid : Valid (task_of t)) (m : RunLeft) (r : Run) (carries : run_lent m ≡ r) where
  shown : (a : List ℕ) → Shows t.counts.vars a (now_in m.bytes) → Shows t.counts.vars a (state_of r.now)
  unfolding run_in
  shown a (long, same) = (
    long,
    λ v l.
        let small : v < most_vars = omega (arith, valid.vars.1) in
        same v l ∙ sym (part_at m.bytes most_vars most_vars v small) ∙ ap (λ (x : Run). state_of x.now v) carries,
  )

  column_is : (c : ℕ) → c < all_columns → column_in m.words c ≡ column_of r c
  unfolding run_in
  column_is c l = sym (part_at m.words columns_from all_columns c l) ∙ ap (λ (x : Run). column_of x c) carries

  map_column : (k : ℕ) → k < t.counts.maps → column_in m.words k ≡ column_of r k
  map_column k l = column_is k (omega (arith, valid.maps.1))

-- so what is promised of two runs is promised of memory that carries them
lent_never_jumps : (t : Tables) (valid : Valid (task_of t)) (m n : RunLeft) (r q : Run) → run_lent m ≡ r → run_lent n ≡ q → (a b : List ℕ)
    → NeverJumps t r q a b → NeverJumpsLent t m n a b
lent_never_jumps t valid m n r q e g a b never =
    let grew : (k : ℕ) → k < t.counts.maps → column_in n.words k - column_in m.words k ≡ column_of q k - column_of r k =
    λ k l. ap₂ ◌-◌ (map_column t valid n q g k l) (map_column t valid m r e k l) in
    record {
      column = λ c l. omega (arith, column_is t valid m r e c l, column_is t valid n q g c l, never.column c l);
      map = λ k l x y f h. told_keeps_pace distance_said distance_word (grew k l) f.2 h.2 (never.map k l f.0 h.0 f.1 h.1);
      bound =
          λ x y f h.
          told_keeps_pace bound_said bound_word (sum_same _ _ t.counts.maps grew) f.2 h.2 (never.bound f.0 h.0 f.1 h.1);
    }

-- BETWEEN TWO MOMENTS of any memory that isn't 17, being long enough and what its start and log give: after the offers xs, and after the offers ys that follow
-- them; a and b show the states now, as C lends them
pub never_jumps : (t : Tables) (m : RunLeft) → run_bytes ≤ length m.bytes → run_words ≤ length m.words → tables_fault t ≡ clean
    → GivenByStartAndLog (task_of t) (run_lent m) → (xs ys : List Offer) (a b : List ℕ) → Shows t.counts.vars a (now_in (offers_handed t m xs).bytes)
    → Shows t.counts.vars b (now_in (offers_handed t m (xs ++ ys)).bytes) → NeverJumpsLent t (offers_handed t m xs) (offers_handed t m (xs ++ ys)) a b
never_jumps t m long-bytes long-words clean given xs ys a b p q =
    let valid = clean_valid t clean in
    let earlier = offers_handed t m xs in
    let later = offers_handed t m (xs ++ ys) in
    let e : run_lent earlier ≡ ran t (run_lent m) xs = memory_ran t xs m long-bytes long-words in
    let g : run_lent later ≡ ran t (run_lent m) (xs ++ ys) = memory_ran t (xs ++ ys) m long-bytes long-words in
    lent_never_jumps t valid earlier later (ran t (run_lent m) xs) (ran t (run_lent m) (xs ++ ys)) e g a b
    (kept_never_jumps t (run_lent m) clean (run_in_lengths m.bytes m.words) given xs ys a b (shown t valid earlier (ran t (run_lent m) xs) e a p)
    (shown t valid later (ran t (run_lent m) (xs ++ ys)) g b q))

-- ---- MEMORY THAT `desk_begin` FILLED, its word being done, is such, and carries the run from its start

module _ (t : Tables) (s bytes words : List ℕ) (filled : (begin_handed t s bytes words).word ≡ word done 0) where
  -- the memory that it was lent was long enough, and the start was accepted
  begun_behind : (run_bytes ≤ length bytes) × (run_words ≤ length words) × ((begun t s).answer ≡ Ok Accepted)
  unfolding begin_handed
  begun_behind =
      by_cases (run_short bytes words)
      (λ p.
      let q : refused_word TableTooShort ≡ word done 0 = rw p at filled in
      absurd (let n : ⊥ = omega arith in n))
      (λ p.
      let long = long_enough bytes words p in
      let told = (begins_carried bytes words long.0 long.1 t s).told in
      (long.0, long.1, answer_told (begun t s).answer (Ok Accepted) (sym told ∙ filled)))

  pub begun_long : (run_bytes ≤ length (begin_handed t s bytes words).bytes) × (run_words ≤ length (begin_handed t s bytes words).words)
  begun_long =
      let b = begun_behind in
      let lengths = (begins_carried bytes words b.0 b.1 t s).lengths in
      (omega (arith, lengths.0, b.0), omega (arith, lengths.1, b.1))

  pub begun_clean : tables_fault t ≡ clean
  begun_clean = (accepted_began t s begun_behind.2).clean

  pub begun_given : GivenByStartAndLog (task_of t) (run_lent (begin_handed t s bytes words))
  begun_given =
      let b = begun_behind in
      subst (GivenByStartAndLog (task_of t)) (sym ((begins_carried bytes words b.0 b.1 t s).run b.2)) (watched.begun_given t s b.2)

  abbrev since : List Offer → RunLeft
  since xs = offers_handed t (begin_handed t s bytes words) xs

  from_begun : (xs : List Offer) → run_lent (since xs) ≡ run_after t s xs
  from_begun = let b = begun_behind in memory_after t s bytes words b.0 b.1 b.2

  -- AT EVERY MOMENT the bound at the start is at most what the maps were paid so far and the bound now; and so of each map alone
  module _ (xs : List Offer) (a b : List ℕ) (p : Shows t.counts.vars a (state_of s)) (q : Shows t.counts.vars b (now_in (since xs).bytes)) where
    seen : Shows t.counts.vars b (state_of (run_after t s xs).now)
    seen = shown t (clean_valid t begun_clean) (since xs) (run_after t s xs) (from_begun xs) b q

    pub map_from_start : (k : ℕ) → k < t.counts.maps → (x y : ℕ) → DistanceHanded t k a x → DistanceHanded t k b y
        → KeepsPace (λ v. distance_word (distance_said v)) (column_in (since xs).words k) x y
    map_from_start k l x y f g =
        told_keeps_pace distance_said distance_word (map_column t (clean_valid t begun_clean) (since xs) (run_after t s xs) (from_begun xs) k l) f.2 g.2
        (watched.map_from_start t s begun_behind.2 xs a b p seen k l f.0 g.0 f.1 g.1)

    pub bound_from_start : (x y : ℕ) → BoundHanded t a x → BoundHanded t b y
        → KeepsPace (λ v. bound_word (bound_said v)) (sum (column_in (since xs).words) t.counts.maps) x y
    bound_from_start x y f g =
        told_keeps_pace bound_said bound_word
        (sum_same _ _ t.counts.maps (map_column t (clean_valid t begun_clean) (since xs) (run_after t s xs) (from_begun xs))) f.2 g.2
        (watched.bound_from_start t s begun_behind.2 xs a b p seen f.0 g.0 f.1 g.1)
