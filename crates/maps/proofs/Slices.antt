-- Laws of a part of a table that is lent to be written: its places are the part's, and the others stay. Assumes nothing.
use mathlib.Core.Path.{◌≡◌, sym, ap, ◌∙◌, subst}
use mathlib.Core.List.{List, ◌++◌}
use Prim.Native.Nat.{ℕ, ◌+◌, ◌-◌, ◌≤◌, ◌<◌}
use native.Mathlib.Omega.{arith}
use borrow.Rule.Slice.PartMut.{put_mid}
use lib.ListN.{length, get_or, take, drop}
use Rattle.std.proofs.lemmas.List.{length-append, length-take-le, length-drop, get_or-take, get_or-drop, get_or_append_left, get_or-append-add}
use Rattle.maps.specs.Inside.Made.{Made}

-- the k places of t from a on are written as those of s
module _ (t s : List ℕ) (a k : ℕ) (room : a + k ≤ length t) (long : length s ≡ k) where
  abbrev written : List ℕ
  written = put_mid a (a + k - a) t s

  abbrev back : List ℕ
  back = drop (a + k - a) (drop a t)

  front : length (take a t) ≡ a
  front = length-take-le a t (omega arith)

  pub written_size : length written ≡ length t
  written_size = omega (arith, front, length-append (take a t) (s ++ back), length-append s back, length-drop (a + k - a) (drop a t), length-drop a t)

  pub written_here : (i : ℕ) → i < k → get_or written (a + i) 0 ≡ get_or s i 0
  written_here i l =
      ap (λ (x : ℕ). get_or written (x + i) 0) (sym front)
      ∙ get_or-append-add (take a t) (s ++ back) i 0
      ∙ get_or_append_left s back 0 i (omega arith)

  pub written_below : (i : ℕ) → i < a → get_or written i 0 ≡ get_or t i 0
  written_below i l = get_or_append_left (take a t) (s ++ back) 0 i (omega (arith, front)) ∙ get_or-take a t i 0 l

  pub written_beyond : (i : ℕ) → a + k ≤ i → get_or written i 0 ≡ get_or t i 0
  written_beyond i l =
      let j : ℕ = i - (a + k) in
      let e : i ≡ length (take a t) + (length s + j) = omega (arith, front) in
      let f : a + (a + k - a + j) ≡ i = omega arith in
      ap (λ (x : ℕ). get_or written x 0) e
      ∙ get_or-append-add (take a t) (s ++ back) (length s + j) 0
      ∙ get_or-append-add s back j 0
      ∙ get_or-drop (a + k - a) (drop a t) j 0
      ∙ get_or-drop a t (a + k - a + j) 0
      ∙ ap (λ (x : ℕ). get_or t x 0) f

-- the first n places of t are made
pub made_front : {P : ℕ → ℕ → Type 0} {n : ℕ} {t s : List ℕ} → n ≤ length t → Made P n (take n t) s → Made P n t (s ++ drop n t)
made_front {P} {n} {t} {s} room m =
    let long : length s ≡ n = m.size ∙ length-take-le n t room in
    record {
      size = omega (arith, long, length-append s (drop n t), length-drop n t);
      made = λ a l. subst (P a) (sym (get_or_append_left s (drop n t) 0 a (omega (arith, long)))) (m.made a l);
      kept = λ a h.
          let j : ℕ = a - n in
          let e : a ≡ length s + j = omega (arith, long) in
          let f : n + j ≡ a = omega arith in
          ap (λ (x : ℕ). get_or (s ++ drop n t) x 0) e ∙ get_or-append-add s (drop n t) j 0 ∙ get_or-drop n t j 0 ∙ ap (λ (x : ℕ). get_or t x 0) f;
    }
