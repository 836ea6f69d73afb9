-- A task's own places alone are read: tables that are read alike, and states that agree at the variables, get the same judgement, the same choice between two
-- lists and the same opening part. (How the steps go: Alike.antt.) Assumes nothing.
use Prim.Native.Nat.{ℕ}
use mathlib.Core.Path.{◌≡◌, refl, ap, subst}
use mathlib.Core.List.{List}
use denote.Ref.{Bor}
use Rattle.scan.specs.Found.{clean}
use Rattle.tables.specs.Layout.{Tables}
use Rattle.tables.specs.Task.{task_of, state_of}
use Rattle.scan.specs.Scan.{input_fault}
use Rattle.scan.specs.Own.{OwnState}
use Rattle.scan.proofs.Unread.{unless_same, ReadAlike, input_same}
use Rattle.std.specs.Result.{result_and}
use Rattle.std.specs.Prelude.{Result, Ok}
use Rattle.refusals.specs.declared.Refusal.{Refusal}
use Rattle.sequences.specs.declared.choosing.Choice.{Choice}
use Rattle.sequences.specs.Judging.{judged_of}
use Rattle.sequences.specs.Choosing.{chosen_of, list_of, steps_of}
use Rattle.sequences.specs.Opening.{Opening, OpeningOf}
use Rattle.sequences.proofs.Alike.{SameSteps, task_steps, limited_alike, chosen_from_alike}
use Rattle.sequences.proofs.Passing.{input_clean}

module _ {t u : Tables} (E : ReadAlike t u) (s z : List ℕ) (O : OwnState t.counts s z) where
  steps_same : input_fault t s ≡ clean → SameSteps (task_of t) (task_of u)
  steps_same e = task_steps (E.task (input_clean t s e).0)

  pub judged_alike : (ops : List ℕ) → judged_of t s ops ≡ judged_of u z ops
  unfolding judged_of
  judged_alike ops =
      unless_same result_and (λ r x y. refl) _ _ _ _ (input_same E s z O) (λ e. limited_alike (steps_same e) (state_of s) (state_of z) ops O.values)

  pub chosen_alike : (a b : List ℕ) → chosen_of t s a b ≡ chosen_of u z a b
  unfolding chosen_of
  chosen_alike a b =
      unless_same result_and (λ r x y. refl) _ _ _ _ (input_same E s z O)
      (λ e. ap Ok (chosen_from_alike (steps_same e) (state_of s) (state_of z) a b O.values))

  pub opening_alike : (a b r : Bor (List ℕ)) → OpeningOf t s a b r → OpeningOf u z a b r
  opening_alike a b r o =
      subst (λ (d : Result Choice Refusal). Opening r (list_of d a b) (steps_of d)) (chosen_alike a.now b.now) o
