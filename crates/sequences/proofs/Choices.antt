-- The cheaper of two: the named opening part passes, within the quota, at exactly the named cost, and no opening part of either list that does costs less.
-- Assumes nothing.
use Prim.Native.Nat.{ℕ, suc, ◌≤◌}
use mathlib.Core.Path.{◌≡◌, refl, ap}
use mathlib.Core.Bool.{Bool, true, false, cond}
use mathlib.Core.List.{List}
use native.Mathlib.Omega.{arith}
use lib.Dec.{leb}
use lib.ListN.{length, take}
use borrow.Author.Tests.{leb-true, leb-false}
use Rattle.scan.specs.Found.{Found, clean}
use Rattle.meaning.specs.Sas.{State, paid}
use Rattle.meaning.specs.Split.{Task}
use Rattle.meaning.specs.Quota.{KeepsQuota, PassesWithin}
use Rattle.tables.specs.Layout.{Tables}
use Rattle.tables.specs.Task.{task_of, state_of}
use Rattle.std.specs.Result.{result_and}
use Rattle.std.specs.Prelude.{Option, Some, None, Result, Ok, Err}
use Rattle.refusals.specs.declared.Refusal.{Refusal}
use Rattle.sequences.specs.declared.choosing.Part.{Part}
use Rattle.sequences.specs.declared.choosing.Choice.{Choice}
use Rattle.sequences.specs.declared.choosing.Choice.TheVariants.{FirstPart, SecondPart, NoPart}
use Rattle.scan.specs.Scan.{input_fault}
use Rattle.meaning.specs.Limits.{most_steps}
use Rattle.sequences.specs.Choosing.{reached_of, choice_of, chosen_from, chosen_of}
use Rattle.sequences.proofs.Moments.{Moment, moment_of, moment_least, out_none}

-- every opening part of a list within the limit that passes, within the quota, costs at least p
abbrev pub AtLeast : Task → State → List ℕ → ℕ → Type 0
AtLeast T s os p = (j : ℕ) → length os ≤ most_steps → PassesWithin T (take j os) s → p ≤ paid T.sas.cost (take j os)

-- no opening part of a list within the limit passes within the quota
abbrev pub NonePasses : Task → State → List ℕ → Type 0
NonePasses T s os = (j : ℕ) → length os ≤ most_steps → PassesWithin T (take j os) s → ⊥

-- the first n steps of the list os, up to its first goal moment, pass at the cost p and keep the quota, and no opening part of it that does is cheaper
pub record Named (T : Task) (s : State) (os : List ℕ) (n p : ℕ) : Type 0 where
  pub within : length os ≤ most_steps
  pub moment : Moment T.sas s os n p
  pub quota : KeepsQuota T (take n os)
  pub least : AtLeast T s os p

-- what each choice promises; a tie names the first, so where the second is named the first costs more
abbrev pub Promised : Tables → List ℕ → List ℕ → List ℕ → Result Choice Refusal → Type 0
Promised t s a b (Ok (FirstPart p)) = (input_fault t s ≡ clean) × Named (task_of t) (state_of s) a p.steps p.cost × AtLeast (task_of t) (state_of s) b p.cost
Promised t s a b (Ok (SecondPart p)) = (input_fault t s ≡ clean) × Named (task_of t) (state_of s) b p.steps p.cost × AtLeast (task_of t) (state_of s) a (suc p.cost)
Promised t s a b (Ok NoPart) = (input_fault t s ≡ clean) × NonePasses (task_of t) (state_of s) a × NonePasses (task_of t) (state_of s) b
Promised t s a b (Err r) = input_fault t s ≡ Err r

-- ---- which of two

-- the other list, if it reaches a goal at all, does so at the cost p or more
abbrev NoLess : Option Part → ℕ → Type 0
NoLess y p = (r : Part) → y ≡ Some r → p ≤ r.cost

abbrev Says : Option Part → Option Part → Choice → Type 0
Says x y (FirstPart p) = (x ≡ Some p) × NoLess y p.cost
Says x y (SecondPart p) = (y ≡ Some p) × NoLess x (suc p.cost)
Says x y NoPart = (x ≡ None) × (y ≡ None)

choice_says : (x y : Option Part) → Says x y (choice_of x y)
choice_says (Some p) (Some q) = at (leb p.cost q.cost) refl
  where
    at : (b : Bool) → leb p.cost q.cost ≡ b → Says (Some p) (Some q) (cond b (FirstPart p) (SecondPart q))
    at true l = (refl, λ r f. let h : q ≡ r = cc in omega (arith, leb-true p.cost q.cost l, ap (λ (x : Part). x.cost) h))
    at false l = (refl, λ r f. let h : p ≡ r = cc in omega (arith, leb-false p.cost q.cost l, ap (λ (x : Part). x.cost) h))
choice_says (Some p) None = (refl, λ r f. absurd (cc))
choice_says None (Some q) = (refl, λ r f. absurd (cc))
choice_says None None = (refl, refl)

-- ---- the lists

module _ (T : Task) (s : State) where
  -- a list's opening parts cost at least what it reaches a goal at
  at_least : (os : List ℕ) (p : ℕ) → NoLess (reached_of T s os) p → AtLeast T s os p
  at_least os p h j l g = at (reached_of T s os) refl
    where
      at : (r : Option Part) → reached_of T s os ≡ r → p ≤ paid T.sas.cost (take j os)
      at (Some r) e = omega (arith, h r e, moment_least T.sas s os r.steps r.cost j (moment_of T s os r.steps r.cost e).1 g.0)
      at None e = absurd (out_none T s os j e l g)

  named : (os : List ℕ) (p : Part) → reached_of T s os ≡ Some p → Named T s os p.steps p.cost
  named os p e =
      let m = moment_of T s os p.steps p.cost e in
      record { within = m.0; moment = m.1; quota = m.2; least = λ j l g. moment_least T.sas s os p.steps p.cost j m.1 g.0 }

  none_passes : (os : List ℕ) → reached_of T s os ≡ None → NonePasses T s os
  none_passes os e j l g = out_none T s os j e l g

-- THE CHEAPER OF TWO costs at most either list that reaches a goal, and its opening part passes at exactly the named cost
pub chosen_promised : (t : Tables) (s a b : List ℕ) → Promised t s a b (chosen_of t s a b)
unfolding chosen_of
chosen_promised t s a b = at (input_fault t s) refl
  where
    T : Task
    T = task_of t

    keeps : (d : Choice) → input_fault t s ≡ clean → Says (reached_of T (state_of s) a) (reached_of T (state_of s) b) d → Promised t s a b (Ok d)
    keeps (FirstPart p) e h = (e, named T (state_of s) a p h.0, at_least T (state_of s) b p.cost h.1)
    keeps (SecondPart p) e h = (e, named T (state_of s) b p h.0, at_least T (state_of s) a (suc p.cost) h.1)
    keeps NoPart e h = (e, none_passes T (state_of s) a h.0, none_passes T (state_of s) b h.1)

    at : (f : Found) → input_fault t s ≡ f → Promised t s a b (result_and f (Ok (chosen_from T (state_of s) a b)))
    at (Ok tt) e = keeps (chosen_from T (state_of s) a b) e (choice_says (reached_of T (state_of s) a) (reached_of T (state_of s) b))
    at (Err r) e = e
