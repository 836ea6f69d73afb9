-- FOLLOWING THE BEST STEPS, for a C program: over the tables that `desk_distances` leaves where its word is done, and over the words of `desk_best_at`, a goal of
-- the map is reached at exactly the distance, also round loops that cost 0. And where the word of `desk_distances` is a refusal, both tables are as they were.
-- By the desk's own theorems, as the words tell the answers apart. Assumes nothing.
use mathlib.Core.Path.{◌≡◌, refl, sym, ap, ◌∙◌, subst}
use mathlib.Core.Logic.{◌⊎◌, ◌↔◌}
use mathlib.Core.List.{List}
use Prim.Native.Nat.{ℕ, ◌<◌}
use native.Mathlib.Omega.{arith}
use lib.ListN.{get_or}
use Rattle.std.specs.Prelude.{Ok, Err, Result, Some}
use Rattle.scan.specs.Found.{Found, clean}
use Rattle.graph.specs.Cost.{none, fin}
use Rattle.graph.specs.Best.{Advice}
use Rattle.refusals.specs.declared.Refusal.{Refusal}
use Rattle.meaning.specs.Views.{α, abstract_states, AbstractGoal}
use Rattle.meaning.specs.Split.{view}
use Rattle.tables.specs.Layout.{Tables}
use Rattle.tables.specs.Task.{sas_of, task_of, state_of}
use Rattle.sweep.specs.Said.{HALT, said_at, advised_at}
use Rattle.views.specs.Entries.{distances_fault, distance_fault, ByFault, RoundsOf, DistancesOf, BestStepsOf, DistancesGiven, distance_said, best_said, BestGiven}
use Rattle.views.proofs.Promises as views
use Rattle.words.specs.Words.{word, done, refused_word, distances_word, distance_word, best_word}
use Rattle.words.proofs.Told.{distances_told, best_told}
use Rattle.desk_c.specs.Handing.{DistancesHanded, DistanceHanded, BestHanded}
use Rattle.desk_c.proofs.Bounding.{distance_behind}

module _ (t : Tables) (m : ℕ) (out best out' best' : List ℕ) where
  -- the answer behind a word
  distances_behind : (x : Result ℕ Refusal) → DistancesHanded t m out best (distances_word x) out' best' → DistancesGiven t m out best x out' best'
  distances_behind x h = subst (λ (a : Result ℕ Refusal). DistancesGiven t m out best a out' best') (distances_told h.0 x (sym h.2)) h.1

  -- REFUSED, nothing that was lent is altered
  pub distances_refused : (f : Refusal) → DistancesHanded t m out best (refused_word f) out' best' → (out' ≡ out) × (best' ≡ best)
  distances_refused f h = at (distances_fault t m out best) (distances_behind (Err f) h)
    where
      at : (g : Found)
          → ByFault g (λ e. (◌≡◌ {A = Result ℕ Refusal} (Err f) (Err e)) × (out' ≡ out) × (best' ≡ best))
          ((r : ℕ) × (◌≡◌ {A = Result ℕ Refusal} (Err f) (Ok r)) × RoundsOf (task_of t) m r × DistancesOf (task_of t) m out out' × BestStepsOf (task_of t) m best best')
          → (out' ≡ out) × (best' ≡ best)
      at (Ok u) p =
          let e = p.1 in
          let z : ◌≡◌ {A = ℕ} 0 1 = cc in
          absurd (let n : ⊥ = omega arith in n)
      at (Err e) p = (p.1, p.2)

  -- DONE, the tables are those of the map
  module _ (r : ℕ) (handed : DistancesHanded t m out best (word done r) out' best') where
    given : DistancesGiven t m out best (Ok r) out' best'
    given = distances_behind (Ok r) handed

    module _ (a : ℕ) (l : a < abstract_states (sas_of t) (view (task_of t) m)) where
      -- 255 stands exactly at the goals of the map and where the distance is none
      pub halts_exactly : (get_or best' a 0 ≡ HALT) ↔ (AbstractGoal (sas_of t) (view (task_of t) m) a ⊎ (said_at out' a ≡ none))
      halts_exactly = views.halts_exactly t m out best out' best' r given a l

      -- following the table of best steps from a reaches a goal at exactly the distance that the other table says
      pub following_reaches : (d : ℕ) → said_at out' a ≡ fin d → views.FollowedTo (task_of t) m (advised_at best') a d
      following_reaches = views.following_reaches t m out best out' best' r given a l

    -- the words that tell a state's distance and its best step tell what the tables have at its image
    module _ (s : List ℕ) (sound : distance_fault t m s ≡ clean) (w : ℕ) where
      pub distance_as_table : DistanceHanded t m s w ↔ (w ≡ distance_word (distance_said (said_at out' (α (sas_of t) (view (task_of t) m) (state_of s)))))
      distance_as_table =
          let own = views.distance_as_table t m out best out' best' r given s sound in
          ((λ h. h.2 ∙ ap distance_word ((own h.0).0 h.1)), (λ e. (_, (own _).1 refl, e)))

      pub best_as_table : BestHanded t m s w ↔ (w ≡ best_word (best_said (advised_at best' (α (sas_of t) (view (task_of t) m) (state_of s)))))
      best_as_table =
          let own = views.best_as_table t m out best out' best' r given s sound in
          ((λ h. h.2 ∙ ap best_word ((own h.0).0 h.1)), (λ e. (_, (own _).1 refl, e)))

-- FOLLOWING THE WORDS of `desk_best_at`, where B has at each abstract state what it tells at some state that is seen as that: from a state's image a goal of the
-- map is reached at exactly the distance that the word of `desk_distance_at` tells
pub following_words : (t : Tables) (m : ℕ) (B : ℕ → Advice)
    → ((b : ℕ) → b < abstract_states (sas_of t) (view (task_of t) m)
    → (s : List ℕ) × (α (sas_of t) (view (task_of t) m) (state_of s) ≡ b) × BestHanded t m s (best_word (best_said (B b))))
    → (s : List ℕ) (d : ℕ) → DistanceHanded t m s (word done d) → views.FollowedTo (task_of t) m B (α (sas_of t) (view (task_of t) m) (state_of s)) d
following_words t m B told s d h =
    views.following_answers_at t m B
    (λ b l.
    let k = told b l in
    let p = k.2 in
    (k.0, k.1, subst (BestGiven t m k.0) (best_told p.0 (best_said (B b)) (sym p.2)) p.1))
    s d (distance_behind t s m (Ok (Some d)) (word done d) refl h)
