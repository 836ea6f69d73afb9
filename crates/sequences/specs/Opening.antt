-- The opening part of a lent list, handed back as a part of the caller's own list.
use Rattle.std.specs.Prelude.{ℕ, ◌≡◌, List, take}
use Rattle.std.specs.Borrow.{Bor}
use Rattle.tables.specs.Layout.{Tables}
use Rattle.sequences.specs.Choosing.{chosen_of, list_of, steps_of}

-- r starts where the lent list a starts, so it is a part of the caller's own list, and it is that list's first n places
pub record Opening (r a : Bor (List ℕ)) (n : ℕ) : Type 0 where
  pub place : r.ref_ptr ≡ a.ref_ptr
  pub items : r.now ≡ take n a.now

-- r is the opening part that the cheaper of two names, of the caller's own first or second list
abbrev pub OpeningOf : Tables → List ℕ → Bor (List ℕ) → Bor (List ℕ) → Bor (List ℕ) → Type 0
OpeningOf t s a b r = Opening r (list_of (chosen_of t s a.now b.now) a b) (steps_of (chosen_of t s a.now b.now))
