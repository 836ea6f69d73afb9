-- Laws of the task of a map's classes: numbers of classes, the table, and images. Assumes nothing.
use mathlib.Core.Path.{◌≡◌, ap, ap₂, ◌∙◌, subst}
use mathlib.Core.List.{List, []}
use Prim.Native.Nat.{ℕ, zero, suc, ◌+◌, ◌*◌, ◌-◌, ◌%◌, ◌≤◌, ◌<◌, zero-le}
use native.Mathlib.Nat.{le_refl, mod-eq_of_lt, mul-add-mod_self_right}
use native.Mathlib.Omega.{arith}
use lib.ListN.{get_or}
use Rattle.meaning.specs.Limits.{most_vars}
use Rattle.meaning.specs.Numbering.{Positive}
use Rattle.meaning.specs.Sas.{IsState}
use Rattle.meaning.specs.Views.{seen, image}
use Rattle.meaning.specs.Split.{count_of, Valid}
use Rattle.meaning.proofs.Bounds.{view_onto}
use Rattle.tables.specs.declared.Counts.{Counts}
use Rattle.tables.specs.Layout.{row_at, dom_at, class_row, class_at}
use Rattle.tables.specs.Task.{state_of}
use Rattle.sweep.specs.Inside.Sweeps.{Made}
use Rattle.sweep.specs.Inside.Classes.{unpriced, view_of, seen_places, SeenAt, Classed}
use Rattle.sweep.proofs.Walking.{Digital}

-- ---- the number of classes

pub count_most : (c : ℕ → ℕ) (n k : ℕ) → ((x : ℕ) → x < n → c x < k) → count_of c n ≤ k
count_most c zero k h = zero-le
count_most c (suc n) k h = omega (arith, count_most c n k (λ x l. h x (omega arith)), h n (le_refl (suc n)))

pub count_some : (c : ℕ → ℕ) (n : ℕ) → 1 ≤ n → 1 ≤ count_of c n
count_some c zero l = l
count_some c (suc n) l = omega arith

-- ---- the table of the task of classes

module _ (c : Counts) (facts : List ℕ) (m : ℕ) where
  -- rows of facts seen by classes, and then the numbers of classes in the first row
  pub classed : (t₀ t : List ℕ) → c.vars ≤ most_vars → ((i : ℕ) → i < seen_places → SeenAt facts m i (get_or t₀ i 0))
      → Made (λ v x. x ≡ count_of (class_at facts m v) (dom_at facts v)) c.vars t₀ t → Classed c facts m t
  classed t₀ t few s made =
      record {
        counts = λ v l. let e : 0 * 8 + v ≡ v = omega arith in ap (λ (i : ℕ). get_or t i 0) e ∙ made.made v l;
        rows =
            λ row v lo hi lv h.
            let i = row * 8 + v in
            let e : i % 8 ≡ v = mul-add-mod_self_right row 8 v ∙ mod-eq_of_lt lv in
            let at : SeenAt facts m i (get_or t₀ i 0) = s i (omega arith) in
            made.kept i (omega arith)
            ∙ subst (λ (u : ℕ). class_at facts m u (get_or facts i 0 - 1) < 255 → get_or t₀ i 0 ≡ seen (class_at facts m u) (get_or facts i 0)) e at h;
      }

-- ---- the classes of an accepted task

module _ (c : Counts) (facts : List ℕ) (m : ℕ) (ok : Valid (unpriced c facts)) (lm : m < c.maps) where
  pub count_is : (v dom row n : ℕ) → dom ≡ dom_at facts v → row ≡ class_row m v → n ≡ count_of (row_at facts row) dom
      → n ≡ count_of (class_at facts m v) (dom_at facts v)
  count_is v dom row n d r e = e ∙ ap₂ (λ x y. count_of (row_at facts x) y) r d

  pub count_byte : (v n : ℕ) → v < c.vars → n ≡ count_of (class_at facts m v) (dom_at facts v) → n ≤ 8
  count_byte v n lv e =
      omega
      (arith, count_most (class_at facts m v) (dom_at facts v) (dom_at facts v) (λ x l. ok.classes m v x lm lv l), ok.values v lv)

  pub counts_positive : Positive (view_of facts m []).classes c.vars
  counts_positive v l = count_some (class_at facts m v) (dom_at facts v) (ok.proper.values v l)

  -- the classes of a state are digits of its image
  pub image_digital : (s : List ℕ) → IsState (unpriced c facts).sas (state_of s)
      → Digital (view_of facts m []).classes (image (view_of facts m []) (state_of s)) c.vars
  image_digital s h =
      record {
        positive = counts_positive;
        below = λ v l. (view_onto (unpriced c facts) ok m lm).inside v (state_of s v) l (h v l);
        few = ok.few_states m lm;
      }
