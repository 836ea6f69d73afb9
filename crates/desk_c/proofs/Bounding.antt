-- Demand 3 over the words that go back to C: the bound is at most the cost of every sequence to the goal, none exactly if some map's word is none, and where
-- it is none there is no sequence. By the desk's own theorems, as the words tell the answers apart. Assumes nothing.
use Rattle.std.specs.Prelude.{Result, Ok, Option, Some, None}
use mathlib.Core.Path.{◌≡◌, refl, sym, ap, ◌∙◌, subst}
use mathlib.Core.Logic.{◌↔◌}
use mathlib.Core.List.{List}
use Prim.Native.Nat.{ℕ, ◌≤◌}
use Rattle.refusals.specs.declared.Refusal.{Refusal}
use Rattle.scan.specs.Found.{clean}
use Rattle.meaning.specs.Sas.{Passes, paid}
use Rattle.meaning.specs.Quota.{PassesWithin}
use Rattle.tables.specs.Layout.{Tables}
use Rattle.tables.specs.Task.{sas_of, task_of, state_of}
use Rattle.views.specs.Entries.{distance_fault, DistanceGiven, BoundGiven}
use Rattle.views.proofs.Promises as views
use Rattle.words.specs.Words.{word, done, nowhere, distance_word, bound_word}
use Rattle.words.proofs.Told.{distance_told, bound_told}
use Rattle.desk_c.specs.Handing.{DistanceHanded, BoundHanded}

module _ (t : Tables) (s : List ℕ) where
  -- the answer behind a word
  bound_behind : (x : Result (Option ℕ) Refusal) (w : ℕ) → w ≡ bound_word x → BoundHanded t s w → BoundGiven t s x
  bound_behind x w e h = subst (BoundGiven t s) (bound_told h.0 x (sym h.2 ∙ e)) h.1

  pub distance_behind : (m : ℕ) (x : Result (Option ℕ) Refusal) (w : ℕ) → w ≡ distance_word x → DistanceHanded t m s w → DistanceGiven t m s x
  distance_behind m x w e h = subst (DistanceGiven t m s) (distance_told h.0 x (sym h.2 ∙ e)) h.1

  -- every sequence of any length that passes from the state costs at least the bound
  pub bound_admissible : (b : ℕ) → BoundHanded t s (word done b) → (os : List ℕ) → Passes (sas_of t) os (state_of s) → b ≤ paid (sas_of t).cost os
  bound_admissible b h = views.bound_admissible t s b (bound_behind (Ok (Some b)) (word done b) refl h)

  -- so does every one that also keeps the quota
  pub bound_admissible_within : (b : ℕ) → BoundHanded t s (word done b) → (os : List ℕ) → PassesWithin (task_of t) os (state_of s) → b ≤ paid (sas_of t).cost os
  bound_admissible_within b h os p = bound_admissible b h os p.0

  -- where the word is none, there is no such sequence
  pub none_admissible : BoundHanded t s (word nowhere 0) → (os : List ℕ) → Passes (sas_of t) os (state_of s) → ⊥
  none_admissible h = views.none_admissible t s (bound_behind (Ok None) (word nowhere 0) refl h)

  -- the bound's word is none exactly if some map's is
  pub bound_none_exactly : BoundHanded t s (word nowhere 0) ↔ ((m : ℕ) × DistanceHanded t m s (word nowhere 0))
  bound_none_exactly = (
    (λ h.
        let one = (views.bound_none_exactly t s).0 (bound_behind (Ok None) (word nowhere 0) refl h) in
        (one.0, ((Ok None), one.1, refl))),
    (λ one.
        let given = distance_behind one.0 (Ok None) (word nowhere 0) refl one.1 in
        ((Ok None), (views.bound_none_exactly t s).1 (one.0, given), refl)),
  )

  -- if some sequence reaches the goal, every map's word tells a number, at most what the map is paid for the sequence
  pub reached_so_numbers : (os : List ℕ) → Passes (sas_of t) os (state_of s) → (m : ℕ) → distance_fault t m s ≡ clean
      → (w : ℕ) → DistanceHanded t m s w → (d : ℕ) × (w ≡ word done d) × (d ≤ paid ((task_of t).share m) os)
  reached_so_numbers os p m e w h =
      let d = views.reached_so_numbers t s os p m e h.0 h.1 in
      (d.0, h.2 ∙ ap distance_word d.1, d.2)
