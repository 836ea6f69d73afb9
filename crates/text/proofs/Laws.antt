-- Small laws that the proofs of the reader share. Assumes nothing.
use Prim.Native.Nat.{ℕ, zero, suc, ◌<◌, ◌≤◌, ◌+◌, ◌*◌}
use native.Mathlib.Nat.{le_of_suc-le-suc, le_of_eq, mul-le-mul_right, sub_self}
use native.Mathlib.Omega.{arith}
use native.Mathlib.Numerals.{add-one}
use mathlib.Core.Path.{◌≡◌, refl}
use lib.Dec.{ltb, eqb}
use borrow.Author.Tests.{ne_eqb, eqb-true, ltb-true, ltb-false}
use mathlib.Core.Bool.{Bool, true, false, cond}
use mathlib.Core.List.{List, [], ◌∷◌, append-nil}
use lib.ListN.{length, get_or, take, drop, get_or-eq_default}
use lib.Seq.{drop-cons, take_all}
use Rattle.std.specs.Prelude.{Ok, Err}
use Rattle.scan.specs.Found.{Found, clean}
use Rattle.meaning.specs.Views.{every}
use Rattle.meaning.proofs.Facts.{every_true}
use Rattle.refusals.specs.declared.Refusal.{Refusal}
use Rattle.tables.specs.Layout.{facts_room, costs_room, shares_room}
use Rattle.grammar.specs.Fields.{leaves, filled}
use Rattle.text.specs.Inside.Area.{threes, costs_byte, shares_byte}
use Rattle.text.specs.Inside.Control.{St}
use Rattle.text.specs.Inside.Steps.{byte_read, feed}
use Rattle.text.specs.Inside.End.{last_fault, written, settled_as}

-- within a list the default is not read
pub get_d_any : (l : List ℕ) (i d e : ℕ) → i < length l → get_or l i d ≡ get_or l i e
get_d_any [] i d e h = let z : ⊥ = omega arith in absurd z
get_d_any (x ∷ l) zero d e h = refl
get_d_any (x ∷ l) (suc i) d e h = get_d_any l i d e (le_of_suc-le-suc h)

-- a product whose first factor is small fits
pub small_product : (p n : ℕ) → p ≤ 4096 → n < 4294967296 → p * n < 17592186044416
small_product p n h k = let m = mul-le-mul_right n h in omega arith

-- the loop over a piece takes one byte off what is left
pub feed_next : (s : St) (t : List ℕ) (i : ℕ) → i < length t → feed (byte_read s (get_or t i 0)) (drop (i + 1) t) ≡ feed s (drop i t)
unfolding feed
feed_next s t i h = rw (add-one, drop-cons t i 0)

-- a table of the fields has 0 at all but those named
abbrev pub among : List ℕ → ℕ → Bool
among [] f = false
among (x ∷ fs) f = cond (eqb f x) true (among fs f)

-- what the last arm of a match knows of its number: it is none of those before, the last of them outermost
abbrev pub Unmatched : List ℕ → ℕ → Type 0
Unmatched [] f = Unit {0}
Unmatched (x ∷ fs) f = Unmatched fs f × (f ≡ x → ⊥)

none_among : (fs : List ℕ) (f : ℕ) → Unmatched fs f → among fs f ≡ false
none_among [] f n = refl
none_among (x ∷ fs) f n = rw (ne_eqb f x n.1) (none_among fs f n.0)

pub table_else : (fs l : List ℕ) → every (λ f. cond (among fs f) true (eqb (get_or l f 0) 0)) (length l) ≡ true → (f : ℕ) → Unmatched fs f → get_or l f 0 ≡ 0
table_else fs l h f n = split (ltb f (length l)) refl
  where
    split : (q : Bool) → ltb f (length l) ≡ q → get_or l f 0 ≡ 0
    split true q =
        eqb-true (get_or l f 0) 0
        (rw (none_among fs f n) at (every_true (λ (f : ℕ). cond (among fs f) true (eqb (get_or l f 0) 0)) (length l) h f (ltb-true f (length l) q)))
    split false q = get_or-eq_default l 0 (ltb-false f (length l) q)

-- what a reading that is over leaves behind: nothing on a refusal, else the tables
module _ (s : St) (facts costs shares : List ℕ) (o : Found) (told : o ≡ last_fault s) where
  pub settled_refused : (r : Refusal) → o ≡ Err r → leaves (Err r) facts costs shares ≡ settled_as s facts costs shares
  unfolding settled_as
  settled_refused r e = rw (← told, e)

  pub settled_accepted : (f k h : List ℕ) → o ≡ clean → f ≡ filled facts_room (take facts_room s.area) facts → k ≡ filled costs_room (threes costs_room costs_byte s.area) costs
      → h ≡ filled shares_room (threes shares_room shares_byte s.area) shares → leaves (Ok s.ctrl.counts) f k h ≡ settled_as s facts costs shares
  unfolding settled_as written
  settled_accepted f k h e a b d = rw (← told, e, a, b, d)

-- a copy of all of it
pub filled_whole : (w : List ℕ) (n : ℕ) (out : List ℕ) → length w ≡ n → length out ≡ n → filled n (take n w) out ≡ w
unfolding filled
filled_whole w n out p q = rw (take_all n w (le_of_eq p), q, sub_self n) (append-nil w)
