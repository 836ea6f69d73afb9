-- Edition 1 knows no quota: its tables are judged, and chosen between, as with every mark and the quota 0, whatever stands in their places; so no 19 is told, and
-- what passes is what passes without a quota. Assumes nothing.
use Prim.Native.Nat.{ℕ, ◌≤◌}
use mathlib.Core.Path.{◌≡◌, refl, ap}
use mathlib.Core.List.{List}
use mathlib.Core.Logic.{◌↔◌}
use native.Mathlib.Omega.{arith}
use lib.ListN.{length, take, get_or}
use Rattle.scan.specs.Found.{clean}
use Rattle.refusals.specs.declared.Refusal.TheVariants.{BeyondQuota}
use Rattle.meaning.specs.Limits.{most_steps}
use Rattle.meaning.specs.Sas.{State, Passes, paid}
use Rattle.meaning.specs.Split.{Task}
use Rattle.meaning.specs.Quota.{PassesWithin}
use Rattle.meaning.proofs.Quota.{nothing_stored, unmarked_keeps}
use Rattle.scan.specs.Scan.{input_fault}
use Rattle.tables.specs.Layout.{Tables}
use Rattle.tables.specs.Task.{sas_of, task_of, state_of}
use Rattle.tables.proofs.Meant.{first_stores_nothing, first_has_no_quota}
use Rattle.std.specs.Result.{result_and}
use Rattle.std.specs.Prelude.{Ok, Err}
use Rattle.sequences.specs.declared.choosing.Choice.{Choice}
use Rattle.sequences.specs.Judging.{limited, judged_of}
use Rattle.sequences.specs.Choosing.{chosen_from, chosen_of}
use Rattle.sequences.proofs.Alike.{SameSteps, sas_self, limited_alike, chosen_from_alike}
use Rattle.sequences.proofs.Passing.{input_clean, clean_input, passed_exactly}
use Rattle.sequences.proofs.Refusing.{nineteen_says}

-- the task with every mark and the quota 0
abbrev pub unmarked : Task → Task
unmarked T =
    record { sas = T.sas; maps = T.maps; class = T.class; share = T.share; edition = T.edition; quota = 0; mark = λ o. 0 }

module _ (t : Tables) (first : t.counts.edition ≡ 1) where
  stores_nothing : SameSteps (task_of t) (unmarked (task_of t))
  stores_nothing =
      record { sas = sas_self (sas_of t); quota = first_has_no_quota t first; mark = λ o l. first_stores_nothing t first o }

  pub first_edition_judged : (s ops : List ℕ) → judged_of t s ops ≡ result_and (input_fault t s) (limited (unmarked (task_of t)) (state_of s) ops)
  unfolding judged_of
  first_edition_judged s ops = ap (result_and (input_fault t s)) (limited_alike stores_nothing (state_of s) (state_of s) ops (λ v l. refl))

  pub first_edition_chosen : (s a b : List ℕ) → chosen_of t s a b ≡ result_and (input_fault t s) (Ok (chosen_from (unmarked (task_of t)) (state_of s) a b))
  unfolding chosen_of
  first_edition_chosen s a b =
      ap (λ (d : Choice). result_and (input_fault t s) (Ok d)) (chosen_from_alike stores_nothing (state_of s) (state_of s) a b (λ v l. refl))

  -- every sequence keeps the quota, so one that passes passes within it
  pub first_edition_within : (os : List ℕ) (s : State) → Passes (sas_of t) os s ↔ PassesWithin (task_of t) os s
  first_edition_within os s = (λ h. (h, unmarked_keeps (task_of t) (first_stores_nothing t first) os), λ h. h.0)

  pub first_edition_no_nineteen : (s ops : List ℕ) (q : ℕ) → judged_of t s ops ≡ Err (BeyondQuota q) → ⊥
  first_edition_no_nineteen s ops q e =
      let h = nineteen_says t s ops q e in
      let k = h.0 in
      omega (arith, h.2.told.2, nothing_stored (task_of t) (first_stores_nothing t first) (take k ops), first_stores_nothing t first (get_or ops k 0))

  pub first_edition_passed : (s ops : List ℕ) (c : ℕ) → (judged_of t s ops ≡ Ok c)
      ↔ ((input_fault t s ≡ clean) × (length ops ≤ most_steps) × Passes (sas_of t) ops (state_of s) × (c ≡ paid (sas_of t).cost ops))
  first_edition_passed s ops c = (
    λ e.
        let h = (passed_exactly t s ops c).0 e in
        (clean_input t s h.tables h.state, h.length, h.passes.0, h.cost),
    λ h.
        let i = input_clean t s h.0 in
        (passed_exactly t s ops c).1
        (record { tables = i.0; state = i.1; length = h.1; passes = (first_edition_within ops (state_of s)).0 h.2; cost = h.3 }),
  )
