-- Laws of runs: when two stand alike, when the unused places of a log are 0, what replaying a log gives, and what a run has that its start and log give.
-- Assumes nothing.
use Prim.Native.Nat.{ℕ, zero, suc, ◌+◌, ◌-◌, ◌≤◌, ◌<◌}
use mathlib.Core.Path.{◌≡◌, refl, ap, ap₂, sym, ◌∙◌}
use mathlib.Core.List.{List, [], ◌∷◌}
use mathlib.Core.Bool.{Bool, true, false, ◌&&◌, and-false, false≢true}
use native.Mathlib.Numerals.{add-one}
use native.Mathlib.Omega.{arith}
use lib.Dec.{ltb, leb, eqb}
use lib.ListN.{length, get_or, take, drop, drop_of_length-le, length-take, length-set, length-replicate}
use lib.Seq.{drop-cons, get_or-drop}
use borrow.Author.Tests.{lt-leb, le-leb, eq-eqb, leb-true, eqb-true, ltb-true}
use Rattle.meaning.specs.Limits.{most_vars, most_steps}
use Rattle.meaning.specs.Split.{Valid}
use Rattle.meaning.proofs.Facts.{and_left, and_right, by_cases}
use Rattle.tables.specs.declared.Counts.{Counts}
use Rattle.tables.specs.Layout.{Tables}
use Rattle.tables.specs.Task.{task_of}
use Rattle.tables.specs.Steps.{may_run, stepped}
use Rattle.tables.proofs.Meant.{stepped_length}
use Rattle.std.specs.Prelude.{Option, Some, None}
use Rattle.std.specs.Option.{option_eq}
use Rattle.std.specs.Str.{bytes_eq}
use Rattle.std.proofs.lemmas.Slice.Eq.{bytes_eq-Decides}
use Rattle.ledger.specs.declared.Run.{Run}
use Rattle.ledger.specs.declared.replay.Standing.{Standing}
use Rattle.ledger.specs.Ledger.{all_columns, booked, at_start, onward, standing, fresh, advanced, can_run, can_follow, replayed, given, start_in, zeros, alike, is_run}
use Rattle.ledger.specs.History.{Sized}
use Rattle.ledger.specs.Inside.Bounded.{Bounded}
use Rattle.ledger.proofs.Answers.{follow_parts}
use Rattle.ledger.proofs.Gains.{booked_length, booked_most, start_bounded}
use Rattle.meaning.proofs.Columns.{gain_small}

-- ---- several tests that all hold

pub three : (a b c : Bool) → (a && b && c) ≡ true → (a ≡ true) × (b ≡ true) × (c ≡ true)
three a b c p =
    let q = and_left (a && b) c p in
    (and_left a b q, and_right a b q, and_right (a && b) c p)

four : (a b c d : Bool) → (a && b && c && d) ≡ true → (a ≡ true) × (b ≡ true) × (c ≡ true) × (d ≡ true)
four a b c d p =
    let q = three a b c (and_left (a && b && c) d p) in
    (q.0, q.1, q.2, and_right (a && b && c) d p)

-- ---- where two runs stand

pub alike_refl : (x : Standing) → alike x x ≡ true
alike_refl x = rw ((bytes_eq-Decides x.now x.now).1 refl, (bytes_eq-Decides x.columns x.columns).1 refl) refl

-- who stands alike stands at the same place
stood : (x : Standing) (o : Option Standing) → option_eq alike o (Some x) ≡ true → o ≡ Some x
stood x None p = absurd (false≢true p)
stood x (Some y) p =
    let n = bytes_eq y.now x.now in
    let c = bytes_eq y.columns x.columns in
    ap₂ (λ (s columns : List ℕ). Some (record { now = s; columns = columns })) ((bytes_eq-Decides y.now x.now).0 (and_left n c p))
    ((bytes_eq-Decides y.columns x.columns).0 (and_right n c p))

-- two runs have the same numbers at the places that count
pub record SamePlaces (r q : Run) : Type 0 where
  pub start : (v : ℕ) → v < most_vars → get_or r.start v 0 ≡ get_or q.start v 0
  pub now : (v : ℕ) → v < most_vars → get_or r.now v 0 ≡ get_or q.now v 0
  pub len : r.len ≡ q.len
  pub log : (i : ℕ) → i < most_steps → get_or r.log i 0 ≡ get_or q.log i 0
  pub columns : (c : ℕ) → c < all_columns → get_or r.columns c 0 ≡ get_or q.columns c 0

-- ---- a step takes a run to where the step leads

pub advanced_stands : (t : Tables) (r : Run) (o : ℕ) → standing (advanced t r o) ≡ onward t (standing r) o
unfolding advanced onward
advanced_stands t r o = refl

-- ---- a run as its type has it: a fresh one, and one with a step more

pub fresh_sized : (s : List ℕ) → length s ≡ most_vars → Sized (fresh s)
unfolding fresh at_start
fresh_sized s e =
    record { start = e; log = length-replicate {A = ℕ} most_steps 0; now = e; columns = length-replicate {A = ℕ} all_columns 0 }

pub advanced_sized : (t : Tables) (r : Run) (o : ℕ) → Sized r → Sized (advanced t r o)
unfolding advanced onward
advanced_sized t r o sized =
    let on = advanced_stands t r o in
    record {
      start = sized.start;
      log = length-set r.log r.len o ∙ sized.log;
      now = ap (λ (x : Standing). length x.now) on ∙ stepped_length t r.now o ∙ sized.now;
      columns = ap (λ (x : Standing). length x.columns) on ∙ booked_length (task_of t) r.columns o ∙ sized.columns;
    }

-- ---- unused places of a log

-- the next place and those after it; past the last one nothing is left
pub zeros_next : (l : List ℕ) (i : ℕ) → i < length l → zeros (drop i l) ≡ (eqb (get_or l i 0) 0 && zeros (drop (i + 1) l))
unfolding zeros
zeros_next l i h = rw (add-one, drop-cons l i 0 h) refl

pub zeros_end : (l : List ℕ) (i : ℕ) → length l ≤ i → zeros (drop i l) ≡ true
unfolding zeros
zeros_end l i h = rw (drop_of_length-le l h) refl

-- they are 0 exactly if none is another number
all_zeros : (l : List ℕ) → ((i : ℕ) → get_or l i 0 ≡ 0) → zeros l ≡ true
unfolding zeros
all_zeros [] h = refl
all_zeros (x ∷ xs) h = rw (eq-eqb x 0 (h 0)) (all_zeros xs (λ i. h (suc i)))

zeros_all : (l : List ℕ) → zeros l ≡ true → (i : ℕ) → get_or l i 0 ≡ 0
unfolding zeros
zeros_all [] p i = refl
zeros_all (x ∷ xs) p zero = eqb-true x 0 (and_left (eqb x 0) (zeros xs) p)
zeros_all (x ∷ xs) p (suc i) = zeros_all xs (and_right (eqb x 0) (zeros xs) p) i

pub unused_zeros : (l : List ℕ) (k : ℕ) → ((i : ℕ) → k ≤ i → get_or l i 0 ≡ 0) → zeros (drop k l) ≡ true
unused_zeros l k h = all_zeros (drop k l) (λ i. get_or-drop k l i 0 ∙ h (k + i) (omega arith))

pub zeros_unused : (l : List ℕ) (k : ℕ) → zeros (drop k l) ≡ true → (i : ℕ) → k ≤ i → get_or l i 0 ≡ 0
zeros_unused l k p i h =
    let e : k + (i - k) ≡ i = omega arith in
    ap (λ (j : ℕ). get_or l j 0) (sym e) ∙ sym (get_or-drop k l (i - k) 0) ∙ zeros_all (drop k l) p (i - k)

-- ---- replaying

pub can_exists : (c : Counts) (facts s : List ℕ) (o : ℕ) → can_run c facts s o ≡ true → o < c.ops
unfolding can_run
can_exists c facts s o p = ltb-true o c.ops (and_left (ltb o c.ops) (may_run c facts s o) p)

pub follow_exists : (c : Counts) (facts : List ℕ) (x : Standing) (o : ℕ) → can_follow c facts x o ≡ true → o < c.ops
follow_exists c facts x o p = can_exists c facts x.now o (follow_parts c facts x o p).0

module _ (t : Tables) where
  pub replayed_yes : (x : Standing) (o : ℕ) (os : List ℕ) → can_follow t.counts t.facts x o ≡ true
      → replayed t x (o ∷ os) ≡ replayed t (onward t x o) os
  unfolding replayed
  replayed_yes x o os p = rw (replayed, p) refl

  pub replayed_no : (x : Standing) (o : ℕ) (os : List ℕ) → can_follow t.counts t.facts x o ≡ false
      → replayed t x (o ∷ os) ≡ None
  unfolding replayed
  replayed_no x o os p = rw (replayed, p) refl

  -- a step, from what it does to the state and to the columns
  pub stepped_onward : (x : Standing) (o : ℕ) (s columns : List ℕ) → s ≡ stepped t.counts t.facts x.now o → columns ≡ booked (task_of t) x.columns o
      → record { now = s; columns = columns } ≡ onward t x o
  unfolding onward
  stepped_onward x o s columns p q = ap₂ (λ (s columns : List ℕ). record { now = s; columns = columns }) p q

  -- the replaying loop: x is where the first i of the steps lead from s
  module _ (s os : List ℕ) (x : Standing) (i : ℕ) (so_far : replayed t (at_start s) os ≡ replayed t x (drop i os)) where
    left_over : i < length os → replayed t x (drop i os) ≡ replayed t x (get_or os i 0 ∷ drop (i + 1) os)
    left_over h = rw (add-one, drop-cons os i 0 h) refl

    pub given_next : (y : Standing) → i < length os → can_follow t.counts t.facts x (get_or os i 0) ≡ true → y ≡ onward t x (get_or os i 0)
        → replayed t (at_start s) os ≡ replayed t y (drop (i + 1) os)
    given_next y h p e =
        so_far
        ∙ left_over h
        ∙ replayed_yes x (get_or os i 0) (drop (i + 1) os) p
        ∙ ap (λ (z : Standing). replayed t z (drop (i + 1) os)) (sym e)

    pub given_stop : i < length os → can_follow t.counts t.facts x (get_or os i 0) ≡ false → None ≡ replayed t (at_start s) os
    given_stop h p = sym (so_far ∙ left_over h ∙ replayed_no x (get_or os i 0) (drop (i + 1) os) p)

    pub given_end : length os ≤ i → Some x ≡ replayed t (at_start s) os
    unfolding replayed
    given_end h = sym (so_far ∙ ap (replayed t x) (drop_of_length-le os h))

  -- ---- no column has more than the steps can have paid

  module _ (valid : Valid (task_of t)) where
    pub bounded_step : (steps : ℕ) (x y : Standing) (o : ℕ) → o < t.counts.ops → Bounded steps x.columns → y ≡ onward t x o
        → Bounded (steps + 1) y.columns
    unfolding onward
    bounded_step steps x y o g b e c h =
        rw e (omega (arith, booked_most (task_of t) x.columns o c h, gain_small (task_of t) valid o g c, b c h))

    bounded_replayed : (os : List ℕ) (steps : ℕ) (x y : Standing) → replayed t x os ≡ Some y → Bounded steps x.columns
        → Bounded (steps + length os) y.columns
    unfolding replayed
    bounded_replayed [] steps x y e b = let same : x ≡ y = cc in rw (← same) (λ c h. omega (arith, b c h))
    bounded_replayed (o ∷ os) steps x y e b =
        by_cases (can_follow t.counts t.facts x o)
        (λ p c h.
        let next = bounded_step steps x (onward t x o) o (follow_exists t.counts t.facts x o p) b refl in
        omega (arith, bounded_replayed os (steps + 1) (onward t x o) y (sym (replayed_yes x o os p) ∙ e) next c h))
        (λ p. absurd (let q = sym (replayed_no x o os p) ∙ e in cc))

  -- ---- what a run has that is what its start and log give

  module _ (r : Run) where
    pub record Tested : Type 0 where
      pub len : r.len ≤ most_steps
      pub inside : start_in t.counts t.facts r.start ≡ true
      pub unused : zeros (drop r.len r.log) ≡ true
      pub same : given t r ≡ Some (standing r)

    pub run_tested : is_run t r ≡ true → Tested
    unfolding is_run
    run_tested p =
        let i = start_in t.counts t.facts r.start in
        let z = zeros (drop r.len r.log) in
        let h = four (leb r.len most_steps) i z (option_eq alike (given t r) (Some (standing r))) p in
        record { len = leb-true r.len most_steps h.0; inside = h.1; unused = h.2; same = stood (standing r) (given t r) h.3 }

    pub run_bounded : Valid (task_of t) → is_run t r ≡ true → Bounded r.len r.columns
    unfolding given
    run_bounded valid p c h =
        let os = take r.len r.log in
        let most = bounded_replayed valid os 0 (at_start r.start) (standing r) (run_tested p).same (start_bounded r.start) c h in
        omega (arith, most, length-take r.len r.log)

    -- ---- its tests, one after another

    pub run_long : most_steps < r.len → false ≡ is_run t r
    unfolding is_run
    run_long h = rw (lt-leb r.len most_steps h) refl

    pub run_outside : start_in t.counts t.facts r.start ≡ false → false ≡ is_run t r
    unfolding is_run
    run_outside p = rw (p, and-false) refl

    pub run_used : zeros (drop r.len r.log) ≡ false → false ≡ is_run t r
    unfolding is_run
    run_used p = rw (p, and-false) refl

    pub run_stands : (b : Bool) → r.len ≤ most_steps → start_in t.counts t.facts r.start ≡ true
        → zeros (drop r.len r.log) ≡ true
        → b ≡ option_eq alike (given t r) (Some (standing r))
        → b ≡ is_run t r
    unfolding is_run
    run_stands b h s z d = rw (le-leb r.len most_steps h, s, z) d

    -- a step of the log can't be taken, or the log leads to where the run stands or not
    pub run_stuck : r.len ≤ most_steps → start_in t.counts t.facts r.start ≡ true
        → zeros (drop r.len r.log) ≡ true
        → given t r ≡ None
        → false ≡ is_run t r
    run_stuck h s z e = run_stands false h s z (rw e refl)

    pub run_ends : {b : Bool} {x : Standing} → r.len ≤ most_steps → start_in t.counts t.facts r.start ≡ true
        → zeros (drop r.len r.log) ≡ true
        → given t r ≡ Some x
        → b ≡ alike x (standing r)
        → b ≡ is_run t r
    run_ends {b = b} h s z e d = run_stands b h s z (rw e d)
