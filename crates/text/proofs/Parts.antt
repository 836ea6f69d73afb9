-- The machine's step at a number and after a dash is that of `live`: the code asks first whether a list of facts or a mark is over, and whether a run ends. By
-- cases on those two questions. Assumes nothing.
use Prim.Native.Nat.{ℕ, ◌≤◌}
use native.Mathlib.Omega.{arith}
use mathlib.Core.Path.{◌≡◌, refl, ap, ◌∙◌}
use mathlib.Core.List.{List}
use mathlib.Core.Bool.{Bool, true, false}
use lib.Dec.{eqb}
use borrow.Author.Tests.{ne_eqb, eqb-true, eqb-false, not-true, not-false}
use Rattle.meaning.proofs.Facts.{by_cases}
use Rattle.text.specs.declared.Ctrl.{Ctrl}
use Rattle.grammar.specs.Fields.{is_digit, comma}
use Rattle.text.specs.Inside.Control.{St, mk, going, stopped, part_key, part_number, part_after_dash}
use Rattle.text.specs.Inside.Fields.{kind, kind_val, kind_mark, noted, fault}
use Rattle.text.specs.Inside.Steps.{list_end, list_over, after_number, after_value, after_part, run_fault, run_kept, closed, part_closed, dash_here, at_number, in_value, live}
use Rattle.grammar.proofs.Runs.{clash}

-- a value that ends no list has its comma
pub comma_next : (c : Ctrl) (b : ℕ) → list_over c b ≡ false → kind c.spot.field ≡ kind_val → eqb b comma ≡ true
unfolding list_over
comma_next c b h e = split (eqb c.spot.part part_after_dash) refl
  where
    split : (q : Bool) → eqb c.spot.part part_after_dash ≡ q → eqb b comma ≡ true
    split true q = clash refl (rw q at h)
    split false q = not-false (eqb b comma) (rw (q, e) at h)

-- and where no mark is over, none was read
pub no_mark : (c : Ctrl) (b : ℕ) → list_over c b ≡ false → (kind c.spot.field ≡ kind_val → ⊥) → eqb (kind c.spot.field) kind_mark ≡ false
unfolding list_over
no_mark c b h n = split (eqb c.spot.part part_after_dash) refl
  where
    split : (q : Bool) → eqb c.spot.part part_after_dash ≡ q → eqb (kind c.spot.field) kind_mark ≡ false
    split true q = clash refl (rw q at h)
    split false q = rw (q, ne_eqb (kind c.spot.field) kind_val n) at h

module _ (c : Ctrl) (w : List ℕ) (b : ℕ) where
  -- whether a list of facts or a mark is over
  pub over_list : list_over c b ≡ true → after_part c w b ≡ list_end c w b
  unfolding list_over after_part after_number after_value
  over_list h = split (eqb c.spot.part part_after_dash) refl
    where
      split : (q : Bool) → eqb c.spot.part part_after_dash ≡ q → after_part c w b ≡ list_end c w b
      split true q = rw q
      split false q =
          let k = kind c.spot.field in
          by_cases (eqb k kind_val) (λ e. rw (q, eqb-true k kind_val e, not-true (eqb b comma) (rw (q, e) at h))) (λ e. rw (q, eqb-true k kind_mark (rw (q, e) at h)))

  pub more_number : list_over c b ≡ false → after_part c w b ≡ after_number c w b
  unfolding list_over after_part
  more_number h = split (eqb c.spot.part part_after_dash) refl
    where
      split : (q : Bool) → eqb c.spot.part part_after_dash ≡ q → after_part c w b ≡ after_number c w b
      split true q = clash refl (rw q at h)
      split false q = rw q

  -- the run that ends here is kept, or its fault told
  pub closed_goes : (n : Ctrl) (u : List ℕ) → going (run_fault c w) ≡ true → mk n u ≡ run_kept c w → mk (after_part n u b) u ≡ part_closed c w b
  unfolding run_fault run_kept part_closed closed after_part noted
  closed_goes n u g h = ap (λ (s : St). mk (after_part s.ctrl s.area b) s.area) h ∙ split (eqb c.spot.part part_number) refl
    where
      split : (q : Bool) → eqb c.spot.part part_number ≡ q → mk (after_part (run_kept c w).ctrl (run_kept c w).area b) (run_kept c w).area ≡ part_closed c w b
      split true q =
          let g₁ : going (fault c w) ≡ true = rw q at g in
          let e : c.spot.part ≡ part_number = eqb-true c.spot.part part_number q in
          rw (q, ne_eqb c.spot.part part_after_dash (λ z. omega arith), g₁)
      split false q = rw q

  pub closed_stops : going (run_fault c w) ≡ false → mk (stopped c (run_fault c w)) w ≡ part_closed c w b
  unfolding run_fault part_closed closed
  closed_stops g = split (eqb c.spot.part part_number) refl
    where
      split : (q : Bool) → eqb c.spot.part part_number ≡ q → mk (stopped c (run_fault c w)) w ≡ part_closed c w b
      split true q = let g₁ : going (fault c w) ≡ false = rw q at g in rw (q, g₁)
      split false q = clash refl (rw q at g)

  -- at a number, or after a dash
  pub value_closed : c.spot.part ≡ part_number → is_digit b ≡ false → dash_here c b ≡ false → part_closed c w b ≡ in_value c w b
  unfolding part_closed in_value at_number
  value_closed e d h = simp (e, d, h)

  pub value_past : (c.spot.part ≡ part_number → ⊥) → part_closed c w b ≡ in_value c w b
  unfolding part_closed in_value
  value_past n = simp (ne_eqb c.spot.part part_number n)

  pub live_value : (c.spot.part ≡ part_key → ⊥) → c.spot.part ≤ part_after_dash → in_value c w b ≡ live c w b
  unfolding in_value live after_part
  live_value n h = split (eqb c.spot.part part_number) refl
    where
      split : (q : Bool) → eqb c.spot.part part_number ≡ q → in_value c w b ≡ live c w b
      split true q = rw (q, ne_eqb c.spot.part part_key n)
      split false q =
          let m : c.spot.part ≡ part_number → ⊥ = eqb-false c.spot.part part_number q in
          let e : c.spot.part ≡ part_after_dash = omega arith in
          rw e
