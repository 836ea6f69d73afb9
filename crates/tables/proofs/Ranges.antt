-- `all` over the numbers below n answers what `every` says. Assumes nothing.
use Rattle.std.proofs.Common.{◌≡◌, ℕ, zero, suc, ◌+◌, Bool, true, false, ◌&&◌, Option, refl, ap, ◌∙◌, arith}
use Rattle.std.specs.Fn.{Called}
use Rattle.std.specs.Iterator.{YieldsThen}
use Rattle.std.specs.List.{FoldsTo, list_all, range_with_len}
use Rattle.std.specs.Option.{MatchOption}
use Rattle.std.specs.declared.ops.Range.{Range}
use Rattle.std.proofs.iter.Yields.{nat_range_steps}
use Rattle.std.proofs.lemmas.Iterator.{YieldsList-from_range}
use Rattle.std.proofs.lemmas.Iterator.Search.{all_from_yields_List}
use denote.Param.Members.{Mut}
use mathlib.Core.List.{List}
use Rattle.meaning.specs.Views.{every}

and_and : (p q r : Bool) → p && (q && r) ≡ (p && q) && r
and_and true q r = refl
and_and false q r = refl

and_true : (p : Bool) → p && true ≡ p
and_true true = refl
and_true false = refl

one_more : (f : ℕ → Bool) (a n : ℕ) → list_all f (range_with_len a (suc n)) ≡ list_all f (range_with_len a n) && f (a + n)
one_more f a zero = let e : a + 0 ≡ a = omega arith in rw e (and_true (f a))
one_more f a (suc n) =
    let e : a + 1 + n ≡ a + suc n = omega arith in
    ap (λ (b : Bool). f a && b) (one_more f (a + 1) n ∙ ap (λ (k : ℕ). list_all f (range_with_len (a + 1) n) && f k) e)
    ∙ and_and (f a) (list_all f (range_with_len (a + 1) n)) (f (a + suc n))

list_every : (f : ℕ → Bool) (n : ℕ) → list_all f (range_with_len 0 n) ≡ every f n
list_every f zero = refl
list_every f (suc n) = let e : 0 + n ≡ n = omega arith in one_more f 0 n ∙ rw (e, list_every f n) refl

pub every_below : {F : Type 0} {g : Mut F (ℕ × Unit {0}) Bool} {s : Range ℕ} (test : ℕ → Bool) (n : ℕ) (u : Range ℕ) (f : F) (r : Bool)
    → (xs : List ℕ) × (o : Option ℕ) × (j : F) × YieldsThen nat_range_steps s xs o u × FoldsTo (λ p x q. Called g p (x, tt) true q) f xs j × MatchOption o (r ≡ true) (λ x. (r ≡ false) × ((h : F) × Called g j (x, tt) false h))
    → s ≡ record { start = 0; end = n } → ((x : ℕ) (b : Bool) (q : F) → Called g f (x, tt) b q → (q ≡ f) × (b ≡ test x)) → r ≡ every test n
every_below test n u f r ran e k = all_from_yields_List test u f r ran (YieldsList-from_range 0 n n e (omega arith)) k ∙ list_every test n
