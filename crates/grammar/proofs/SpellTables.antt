-- What stands in the tables of a task: its own numbers, each in its place.
-- By induction on the changes: one writes a place, the others spare it. Assumes nothing.
use Prim.Native.Nat.{ℕ, zero, suc, ◌+◌, ◌≤◌, ◌<◌}
use native.Mathlib.Omega.{arith}
use mathlib.Core.Path.{◌≡◌, refl, sym, ap, ◌∙◌}
use mathlib.Core.List.{List}
use mathlib.Core.Bool.{true}
use lib.Dec.{eqb}
use lib.ListN.{length, get_or, set, replicate, length-set}
use lib.Seq.{get_or-set_same, get_or-set_other}
use borrow.Author.Tests.{eqb-true, eqb-false}
use Rattle.meaning.specs.Sas.{Facts}
use Rattle.meaning.proofs.Facts.{by_cases}
use Rattle.tables.specs.Editions.{has_quota}
use Rattle.grammar.specs.Spelling.{changed, row_put, fact_put, fact_row, mark_put}
use Rattle.grammar.proofs.Editions.{OnlySecond, put_either}

-- ---- changes one after another

-- a change leaves place p alone, and every length
abbrev pub Spares : (List ℕ → List ℕ) → ℕ → Type 0
Spares g p = (w : List ℕ) → get_or (g w) p 0 ≡ get_or w p 0

abbrev pub Long : (List ℕ → List ℕ) → Type 0
Long g = (w : List ℕ) → length (g w) ≡ length w

module _ (g : ℕ → List ℕ → List ℕ) where
  pub long_changed : ((j : ℕ) → Long (g j)) → (n i : ℕ) → Long (changed g n i)
  unfolding changed
  long_changed h zero i w = refl
  long_changed h (suc n) i w = long_changed h n (suc i) (g i w) ∙ h i w

  pub spares_changed : (p n i : ℕ) → ((j : ℕ) → i ≤ j → j < i + n → Spares (g j) p) → Spares (changed g n i) p
  unfolding changed
  spares_changed p zero i h w = refl
  spares_changed p (suc n) i h w =
      spares_changed p n (suc i) (λ j a b. h j (omega arith) (omega arith)) (g i w) ∙ h i (omega arith) (omega arith) w

  -- the j-th change writes x at p, where y stood; the others spare it
  pub writes_changed : (p x j n i : ℕ) → ((k : ℕ) → Long (g k)) → ((k : ℕ) → i ≤ k → k < i + n → (k ≡ j → ⊥) → Spares (g k) p) → (L y : ℕ)
      → ((w : List ℕ) → length w ≡ L → get_or w p 0 ≡ y → get_or (g j w) p 0 ≡ x) → i ≤ j → j < i + n → (w : List ℕ) → length w ≡ L → get_or w p 0 ≡ y
      → get_or (changed g n i w) p 0 ≡ x
  unfolding changed
  writes_changed p x j zero i long spare L y at a b w l z = absurd (let q : ⊥ = omega arith in q)
  writes_changed p x j (suc n) i long spare L y at a b w l z =
      by_cases (eqb i j)
      (λ q.
      let e : i ≡ j = eqb-true i j q in
      spares_changed p n (suc i) (λ k c d. spare k (omega arith) (omega arith) (λ z. omega arith)) (g i w)
      ∙ ap (λ (k : ℕ). get_or (g k w) p 0) e
      ∙ at w l z)
      (λ q.
      let e : i ≡ j → ⊥ = eqb-false i j q in
      writes_changed p x j n (suc i) long (λ k c d. spare k (omega arith) (omega arith)) L y at (omega arith) (omega arith) (g i w) (long i w ∙ l)
      (spare i (omega arith) (omega arith) e w ∙ z))

-- ---- a row of numbers

module _ (place f : ℕ → ℕ) where
  pub long_row : (n : ℕ) → Long (row_put place f n)
  unfolding row_put
  long_row n = long_changed (λ i w. set w (place i) (f i)) (λ j w. length-set w (place j) (f j)) n 0

  pub spares_row : (p n : ℕ) → ((j : ℕ) → j < n → p ≡ place j → ⊥) → Spares (row_put place f n) p
  unfolding row_put
  spares_row p n h = spares_changed (λ i w. set w (place i) (f i)) p n 0 (λ j a b w. get_or-set_other w (place j) p (f j) 0 (h j (omega arith)))

  pub writes_row : (n j : ℕ) → j < n → ((k : ℕ) → place j ≡ place k → k ≡ j) → (w : List ℕ) → place j < length w
      → get_or (row_put place f n w) (place j) 0 ≡ f j
  unfolding row_put
  writes_row n j h one w l =
      writes_changed (λ i x. set x (place i) (f i)) (place j) (f j) j n 0 (λ k x. length-set x (place k) (f k))
      (λ k a b c x. get_or-set_other x (place k) (place j) (f k) 0 (λ e. c (one k e)))
      (length w) (get_or w (place j) 0) (λ x m y. get_or-set_same x (place j) (f j) 0 (omega arith)) (omega arith) (omega arith) w refl refl

-- ---- a row of facts

long_said : (k p : ℕ) → Long (fact_put k p)
unfolding fact_put
long_said zero p w = refl
long_said (suc k) p w = length-set w p (suc k)

spares_said : (k p q : ℕ) → (q ≡ p → ⊥) → Spares (fact_put k p) q
unfolding fact_put
spares_said zero p q h w = refl
spares_said (suc k) p q h w = get_or-set_other w p q (suc k) 0 h

writes_said : (k p : ℕ) (w : List ℕ) → p < length w → get_or w p 0 ≡ 0 → get_or (fact_put k p w) p 0 ≡ k
unfolding fact_put
writes_said zero p w l z = z
writes_said (suc k) p w l z = get_or-set_same w p (suc k) 0 l

module _ (place : ℕ → ℕ) (F : Facts) where
  pub long_facts : (n : ℕ) → Long (fact_row place F n)
  unfolding fact_row
  long_facts n = long_changed (λ v. fact_put (F v) (place v)) (λ j. long_said (F j) (place j)) n 0

  pub spares_facts : (p n : ℕ) → ((j : ℕ) → j < n → p ≡ place j → ⊥) → Spares (fact_row place F n) p
  unfolding fact_row
  spares_facts p n h = spares_changed (λ v. fact_put (F v) (place v)) p n 0 (λ j a b. spares_said (F j) (place j) p (h j (omega arith)))

  pub writes_facts : (n j : ℕ) → j < n → ((k : ℕ) → place j ≡ place k → k ≡ j) → (w : List ℕ) → place j < length w → get_or w (place j) 0 ≡ 0 → get_or (fact_row place F n w) (place j) 0 ≡ F j
  unfolding fact_row
  writes_facts n j h one w l z =
      writes_changed (λ v. fact_put (F v) (place v)) (place j) (F j) j n 0 (λ k. long_said (F k) (place k))
      (λ k a b c. spares_said (F k) (place k) (place j) (λ e. c (one k e)))
      (length w) 0 (λ x m y. writes_said (F j) (place j) x (omega arith) y) (omega arith) (omega arith) w refl z

-- ---- a mark

module _ (e place x : ℕ) where
  pub long_mark : Long (mark_put e place x)
  long_mark w = put_either e place x w (λ u. length u ≡ length w) (λ h. length-set w place x) (λ h. refl)

  pub spares_mark : (p : ℕ) → (has_quota e ≡ true → p ≡ place → ⊥) → Spares (mark_put e place x) p
  spares_mark p n w = put_either e place x w (λ u. get_or u p 0 ≡ get_or w p 0) (λ h. get_or-set_other w place p x 0 (n h)) (λ h. refl)

  pub writes_mark : OnlySecond e x → (w : List ℕ) → place < length w → get_or w place 0 ≡ 0 → get_or (mark_put e place x w) place 0 ≡ x
  writes_mark s w l z = put_either e place x w (λ u. get_or u place 0 ≡ x) (λ h. get_or-set_same w place x 0 l) (λ h. z ∙ sym (s h))

pub zeros : (n i : ℕ) → ◌≡◌ {A = ℕ} (get_or (replicate n 0) i 0) 0
zeros zero i = refl
zeros (suc n) zero = refl
zeros (suc n) (suc i) = zeros n i
