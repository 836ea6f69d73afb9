-- What the contracts of the three entries give: no second answer meets them, and what each answer promises. Assumes nothing.
use Prim.Native.Nat.{ℕ, zero, suc, ◌<◌}
use mathlib.Core.Path.{◌≡◌, refl, sym, ◌∙◌, subst}
use mathlib.Core.List.{List, []}
use native.Mathlib.Omega.{arith}
use lib.ListN.{take}
use denote.Ref.{Bor}
use Rattle.scan.specs.Found.{clean}
use Rattle.graph.specs.Cost.{◌⊑◌}
use Rattle.meaning.specs.Sas.{State, Passes, paid}
use Rattle.meaning.specs.Split.{Task}
use Rattle.meaning.specs.Quota.{KeepsQuota, PassesWithin}
use Rattle.meaning.specs.Bound.{bound}
use Rattle.meaning.proofs.Bounds.{admissible}
use Rattle.tables.specs.Layout.{Tables}
use Rattle.tables.specs.Task.{task_of, sas_of, state_of}
use Rattle.refusals.specs.declared.Refusal.{Refusal}
use Rattle.scan.proofs.Validity.{clean_valid, state_clean}
use Rattle.std.specs.Prelude.{Result, Ok, Err}
use Rattle.sequences.specs.declared.choosing.Choice.{Choice}
use Rattle.sequences.specs.declared.choosing.Choice.TheVariants.{FirstPart, SecondPart, NoPart}
use Rattle.sequences.specs.declared.choosing.Cheaper.{Cheaper}
use Rattle.scan.specs.Scan.{input_fault}
use Rattle.std.specs.Result.{result_map_both}
use Rattle.sequences.specs.Judging.{judged_of}
use Rattle.sequences.specs.Choosing.{chosen_of, named_of, cheaper_of, list_named, cost_named, list_of, steps_of}
use Rattle.sequences.specs.Opening.{Opening, OpeningOf}
use Rattle.sequences.proofs.Passing.{input_clean, clean_input, passed_exactly}
use Rattle.sequences.proofs.Moments.{Moment}
use Rattle.sequences.proofs.Choices.{AtLeast, NonePasses, Named, Promised, chosen_promised}

-- ---- no second answer

pub judge_unique : (t : Tables) (s ops : List ℕ) (r r' : Result ℕ Refusal) → r ≡ judged_of t s ops → r' ≡ judged_of t s ops → r ≡ r'
judge_unique t s ops r r' p q = p ∙ sym q

pub cheaper_unique : (t : Tables) (s a b : List ℕ) (r r' : Result Cheaper Refusal) → r ≡ cheaper_of t s a b → r' ≡ cheaper_of t s a b → r ≡ r'
cheaper_unique t s a b r r' p q = p ∙ sym q

-- the part's place in the caller's memory, and what stands there
pub opening_unique : (t : Tables) (s : List ℕ) (a b r r' : Bor (List ℕ)) → OpeningOf t s a b r → OpeningOf t s a b r'
    → (r.ref_ptr ≡ r'.ref_ptr) × (r.now ≡ r'.now)
opening_unique t s a b r r' p q = (p.place ∙ sym q.place, p.items ∙ sym q.items)

-- ---- the bound

-- DEMAND 3, for accepted tables and state: a sequence that passes costs at least the bound of its start
bound_below : (t : Tables) (s ops : List ℕ) (c : ℕ) → input_fault t s ≡ clean → Passes (sas_of t) ops (state_of s) → c ≡ paid (sas_of t).cost ops
    → bound (task_of t) (state_of s) ⊑ c
bound_below t s ops c e p q =
    let i = input_clean t s e in
    subst (λ (x : ℕ). bound (task_of t) (state_of s) ⊑ x) (sym q)
    (admissible (task_of t) (clean_valid t i.0) ops (state_of s) ((state_clean t s).0 i.1).1 p)

-- a passed sequence, by the desk's own judging
pub passed_bound : (t : Tables) (s ops : List ℕ) (c : ℕ) → judged_of t s ops ≡ Ok c → bound (task_of t) (state_of s) ⊑ c
passed_bound t s ops c e =
    let h = (passed_exactly t s ops c).0 e in
    bound_below t s ops c (clean_input t s h.tables h.state) h.passes.0 h.cost

-- ---- the cheaper of two

-- what the number of the named list and the named cost promise: that list has an opening part that passes, within the quota, at exactly that cost, and neither
-- list has a cheaper one; where the second is named, the first has none at that cost either. Neither: no opening part of either passes within the quota, and the
-- cost is 0. All of it of lists within the step limit; one above it is out
abbrev pub CheaperPromised : Task → State → List ℕ → List ℕ → ℕ → ℕ → Type 0
CheaperPromised T s a b zero p = NonePasses T s a × NonePasses T s b × (p ≡ 0)
CheaperPromised T s a b (suc zero) p = ((n : ℕ) × Named T s a n p) × AtLeast T s b p
CheaperPromised T s a b (suc (suc k)) p = ((n : ℕ) × Named T s b n p) × AtLeast T s a (suc p)

module _ (t : Tables) (s a b : List ℕ) where
  abbrev PromisedOf : Result Cheaper Refusal → Type 0
  PromisedOf x = CheaperPromised (task_of t) (state_of s) a b (list_named x) (cost_named x)

  pub cheaper_promised : input_fault t s ≡ clean → PromisedOf (cheaper_of t s a b)
  cheaper_promised e = at (chosen_of t s a b) (chosen_promised t s a b)
    where
      at : (d : Result Choice Refusal) → Promised t s a b d → PromisedOf (result_map_both named_of (λ r. r) d)
      at (Ok (FirstPart p)) h = ((p.steps, h.1), h.2)
      at (Ok (SecondPart p)) h = ((p.steps, h.1), h.2)
      at (Ok NoPart) h = (h.1, h.2, refl)
      at (Err r) h = absurd (cc (sym e ∙ h))

  -- what was handed in decides before all
  pub cheaper_refused : (r : Refusal) → input_fault t s ≡ Err r → cheaper_of t s a b ≡ Err r
  unfolding chosen_of
  cheaper_refused r e = rw e refl

  -- the named cost too is at least the bound
  pub cheaper_bound : 0 < list_named (cheaper_of t s a b) → bound (task_of t) (state_of s) ⊑ cost_named (cheaper_of t s a b)
  cheaper_bound = at (chosen_of t s a b) (chosen_promised t s a b)
    where
      at : (d : Result Choice Refusal) → Promised t s a b d → 0 < list_named (result_map_both named_of (λ r. r) d)
          → bound (task_of t) (state_of s) ⊑ cost_named (result_map_both named_of (λ r. r) d)
      at (Ok (FirstPart p)) h l = bound_below t s (take p.steps a) p.cost h.0 h.1.moment.passes h.1.moment.cost
      at (Ok (SecondPart p)) h l = bound_below t s (take p.steps b) p.cost h.0 h.1.moment.passes h.1.moment.cost
      at (Ok NoPart) h l = absurd (let z : ⊥ = omega arith in z)
      at (Err r) h l = absurd (let z : ⊥ = omega arith in z)

-- ---- the opening part that is handed back

-- it starts where the list starts, and passes at the cost p, within the quota
pub record PassingPart (T : Task) (s : State) (r os : Bor (List ℕ)) (p : ℕ) : Type 0 where
  pub place : r.ref_ptr ≡ os.ref_ptr
  pub passes : PassesWithin T r.now s
  pub cost : p ≡ paid T.sas.cost r.now

-- by the number of the named list and the named cost; where none is named, the empty part at the start of the first list
abbrev pub OpeningPromised : Task → State → Bor (List ℕ) → Bor (List ℕ) → Bor (List ℕ) → ℕ → ℕ → Type 0
OpeningPromised T s a b r zero p = (r.ref_ptr ≡ a.ref_ptr) × (r.now ≡ [])
OpeningPromised T s a b r (suc zero) p = PassingPart T s r a p
OpeningPromised T s a b r (suc (suc k)) p = PassingPart T s r b p

passing_part : (T : Task) (s : State) (r os : Bor (List ℕ)) (n p : ℕ) → Opening r os n → Moment T.sas s os.now n p → KeepsQuota T (take n os.now)
    → PassingPart T s r os p
passing_part T s r os n p o m q =
    record {
      place = o.place;
      passes = subst (λ (l : List ℕ). PassesWithin T l s) (sym o.items) (m.passes, q);
      cost = subst (λ (l : List ℕ). p ≡ paid T.sas.cost l) (sym o.items) m.cost;
    }

module _ (t : Tables) (s : List ℕ) (a b r : Bor (List ℕ)) where
  abbrev OpeningBy : Result Cheaper Refusal → Type 0
  OpeningBy x = OpeningPromised (task_of t) (state_of s) a b r (list_named x) (cost_named x)

  pub opening_promised : OpeningOf t s a b r → OpeningBy (cheaper_of t s a.now b.now)
  opening_promised o = at (chosen_of t s a.now b.now) (chosen_promised t s a.now b.now) o
    where
      at : (d : Result Choice Refusal) → Promised t s a.now b.now d → Opening r (list_of d a b) (steps_of d) → OpeningBy (result_map_both named_of (λ r. r) d)
      at (Ok (FirstPart p)) h o = passing_part (task_of t) (state_of s) r a p.steps p.cost o h.1.moment h.1.quota
      at (Ok (SecondPart p)) h o = passing_part (task_of t) (state_of s) r b p.steps p.cost o h.1.moment h.1.quota
      at (Ok NoPart) h o = (o.place, o.items)
      at (Err x) h o = (o.place, o.items)
