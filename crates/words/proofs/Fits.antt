-- What the words ask of the answers: a bound that is told fits above its kind, and an opening part has at most as many steps as a sequence may have.
-- Assumes nothing.
use mathlib.Core.Path.{◌≡◌, refl, sym, subst}
use mathlib.Core.List.{List}
use Rattle.std.specs.Prelude.{Option, Result, Ok, Err}
use Prim.Native.Nat.{ℕ, ◌*◌, ◌≤◌, ◌<◌}
use native.Mathlib.Omega.{arith}
use Rattle.graph.specs.Cost.{Cost, none, fin}
use Rattle.meaning.specs.Bound.{away, bound}
use Rattle.meaning.specs.Sas.{State, IsState}
use Rattle.meaning.specs.Views.{α}
use Rattle.meaning.specs.Split.{Task, view, Valid}
use Rattle.meaning.proofs.Sums.{sum_most, summed_number}
use Rattle.meaning.proofs.Theorems.{distance_at_most}
use Rattle.refusals.specs.declared.Refusal.{Refusal}
use Rattle.scan.specs.Found.{Found}
use Rattle.tables.specs.Layout.{Tables}
use Rattle.tables.specs.Task.{task_of, state_of}
use Rattle.views.specs.Entries.{ByFault, IsBound, bound_said, BoundGiven}
use Rattle.scan.specs.Scan.{input_fault}
use Rattle.views.proofs.Answers.{image_inside, bound_is, bound_only}
use Rattle.views.proofs.Judging.{bound_clean}
use Rattle.sequences.specs.declared.choosing.Choice.{Choice}
use Rattle.sequences.specs.declared.choosing.Choice.TheVariants.{FirstPart, SecondPart, NoPart}
use Rattle.meaning.specs.Limits.{most_steps}
use Rattle.sequences.specs.Choosing.{chosen_of, steps_of}
use Rattle.sequences.proofs.Choices.{Promised, chosen_promised}
use Rattle.words.specs.Words.{SumFits}

-- ---- the bound

-- the longest distance of a map, and at most 8 maps
bound_most : (T : Task) → Valid T → (s : State) → IsState T.sas s → (b : ℕ) → bound T s ≡ fin b → b ≤ T.maps * 4095000000
bound_most T ok s h b e =
    let c = summed_number (away T s) T.maps b e in
    let each : (m : ℕ) → m < T.maps → c.0 m ≤ 4095000000 =
    λ m l. distance_at_most T ok m l (α T.sas (view T m) s) (c.0 m) (image_inside T ok m l s h) (c.1 m l) in
    subst (λ (x : ℕ). x ≤ T.maps * 4095000000) (sym c.2) (sum_most c.0 4095000000 T.maps each)

said_fits : (v : Cost) (k : ℕ) → k ≤ 8 → ((b : ℕ) → v ≡ fin b → b ≤ k * 4095000000) → SumFits (bound_said v)
said_fits none k l h = tt
said_fits (fin b) k l h = omega (arith, h b refl)

pub sum_fits : (t : Tables) (s : List ℕ) (a : Result (Option ℕ) Refusal) → BoundGiven t s a → SumFits a
sum_fits t s a = at (input_fault t s) refl
  where
    at : (g : Found) → input_fault t s ≡ g
        → ByFault g (λ f. a ≡ Err f) ((v : Cost) × (a ≡ bound_said v) × IsBound (task_of t) (state_of s) v) → SumFits a
    at (Ok tt) e p =
        let c = bound_clean t s e in
        let T = task_of t in
        let b = bound_only T c.0 (state_of s) c.1 p.0 (bound T (state_of s)) p.2 (bound_is T c.0 (state_of s) c.1) in
        rw (p.1, b) (said_fits (bound T (state_of s)) T.maps c.0.maps.1 (bound_most T c.0 (state_of s) c.1))
    at (Err f) e p = rw p tt

-- ---- the opening part

promised_steps : (t : Tables) (s a b : List ℕ) (d : Result Choice Refusal) → Promised t s a b d → steps_of d ≤ most_steps
promised_steps t s a b (Ok (FirstPart p)) h = omega (arith, h.1.within, h.1.moment.inside)
promised_steps t s a b (Ok (SecondPart p)) h = omega (arith, h.1.within, h.1.moment.inside)
promised_steps t s a b (Ok NoPart) h = omega arith
promised_steps t s a b (Err r) h = omega arith

pub chosen_steps_most : (t : Tables) (s a b : List ℕ) → steps_of (chosen_of t s a b) ≤ most_steps
chosen_steps_most t s a b = promised_steps t s a b (chosen_of t s a b) (chosen_promised t s a b)
