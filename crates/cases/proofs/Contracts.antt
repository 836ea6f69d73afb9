-- What is computed of a task gives the claims of a case over any clean tables of the task: it meets the contract, and by the uniqueness theorems nothing
-- else does. Assumes nothing.
use Rattle.std.specs.Prelude.{Ok}
use mathlib.Core.Path.{◌≡◌, refl, sym, ap, ◌∙◌, subst}
use mathlib.Core.List.{List, [], ◌∷◌, ◌++◌, map}
use Prim.Native.Nat.{ℕ, zero, suc, ◌≤◌, ◌<◌}
use native.Mathlib.Nat.{not-suc-le-zero, le_of_suc-le-suc}
use native.Mathlib.Omega.{arith}
use lib.ListN.{length, get_or, drop, length-map, get_or-append}
use borrow.Author.Tests.{le-leb, lt-ltb}
use Rattle.scan.specs.Found.{clean}
use Rattle.graph.specs.Cost.{Cost}
use Rattle.graph.specs.Best.{Advice}
use Rattle.meaning.specs.Limits.{most_states}
use Rattle.meaning.specs.Sas.{IsState}
use Rattle.meaning.specs.Views.{abstract_states, IsDistanceAt}
use Rattle.meaning.specs.BestSteps.{IsBestStepAt}
use Rattle.meaning.specs.Split.{Task, view, Valid}
use Rattle.meaning.specs.Bound.{distance, away, bound}
use Rattle.meaning.proofs.Theorems.{distance_is_least}
use Rattle.tables.specs.Layout.{Tables}
use Rattle.tables.specs.Task.{sas_of, task_of, state_of}
use Rattle.tables.specs.Steps.{copied}
use Rattle.scan.specs.Scan.{tables_fault, input_fault}
use Rattle.scan.proofs.Validity.{clean_valid, state_clean}
use Rattle.sweep.specs.Said.{said, advised}
use Rattle.views.specs.Entries.{asked_fault, distances_fault, distance_fault, DistancesOf, BestStepsOf, RoundsOf, IsBest}
use Rattle.views.specs.Entries.{DistancesGiven, distance_said, DistanceGiven, best_said, BestGiven, bound_said, BoundGiven}
use Rattle.views.proofs.Judging.{by_clean}
use Rattle.views.proofs.Answered.{distance_answered, bound_answered}
use Rattle.views.proofs.Promises.{Outcome, distances_unique, distance_at_unique, best_at_unique, bound_unique}
use Rattle.sequences.specs.Judging.{limited, judged_of}
use Rattle.ledger.specs.Ledger.{fresh, started, begun}
use Rattle.ledger.specs.declared.Answer.TheVariants.{Accepted}
use Rattle.cases.specs.Told.{Told, of_sequence, distances, distance_at, best_at, bound_at, judging, entered, step_entered, entered_in, ClaimHolds}

-- ---- what is computed of a task

-- a lent state has a place for each variable, and is one of the task's
abbrev pub Inside : Task → List ℕ → Type 0
Inside T s = (T.sas.vars ≤ length s) × IsState T.sas (state_of s)

-- the task has map m; ds are the distances at all its abstract states and bs its best steps there, each as its number in a table says it, and r is its count
-- of rounds
pub record Shows (T : Task) (m : ℕ) (ds : List Cost) (r : ℕ) (bs : List Advice) : Type 0 where
  pub asked : m < T.maps
  pub count : length ds ≡ abstract_states T.sas (view T m)
  pub steps_count : length bs ≡ abstract_states T.sas (view T m)
  pub few : length ds ≤ most_states
  pub each : (a : ℕ) → a < abstract_states T.sas (view T m) → distance T.sas (view T m) a ≡ said (get_or (map entered ds) a 0)
  pub steps : (a : ℕ) → a < abstract_states T.sas (view T m) → IsBestStepAt T.sas (view T m) a (advised (get_or (map step_entered bs) a 0))
  pub rounds : RoundsOf T m r

-- ---- numbers in the first places of a lent table

front_later : (xs out : List ℕ) (a : ℕ) → length xs ≤ length out → length xs ≤ a → get_or (xs ++ drop (length xs) out) a 0 ≡ get_or out a 0
front_later [] out a h g = refl
front_later (x ∷ xs) [] a h g = absurd (not-suc-le-zero h)
front_later (x ∷ xs) (y ∷ ys) zero h g = absurd (not-suc-le-zero g)
front_later (x ∷ xs) (y ∷ ys) (suc a) h g = front_later xs ys a (le_of_suc-le-suc h) (le_of_suc-le-suc g)

front_long : (xs out : List ℕ) → length xs ≤ length out → length (xs ++ drop (length xs) out) ≡ length out
front_long [] out h = refl
front_long (x ∷ xs) [] h = absurd (not-suc-le-zero h)
front_long (x ∷ xs) (y ∷ ys) h = ap suc (front_long xs ys (le_of_suc-le-suc h))

module _ {X : Type 0} (number : X → ℕ) (xs : List X) (out : List ℕ) (fits : length xs ≤ length out) where
  as_many : length (map number xs) ≡ length xs
  as_many = length-map xs number

  same : entered_in number xs out ≡ map number xs ++ drop (length (map number xs)) out
  same = rw as_many refl

  entered_there : (a : ℕ) → a < length xs → get_or (entered_in number xs out) a 0 ≡ get_or (map number xs) a 0
  entered_there a l = get_or-append (map number xs) (drop (length xs) out) 0 a (omega (arith, as_many))

  entered_later : (a : ℕ) → length xs ≤ a → get_or (entered_in number xs out) a 0 ≡ get_or out a 0
  entered_later a l = ap (λ (ys : List ℕ). get_or ys a 0) same ∙ front_later (map number xs) out a (omega (arith, as_many)) (omega (arith, as_many))

  entered_long : length (entered_in number xs out) ≡ length out
  entered_long = ap length same ∙ front_long (map number xs) out (omega (arith, as_many))

module _ (t : Tables) (sound : tables_fault t ≡ clean) where
  ok : Valid (task_of t)
  ok = clean_valid t sound

  -- ---- nothing is at fault
  inside_clean : (s : List ℕ) → Inside (task_of t) s → input_fault t s ≡ clean
  unfolding input_fault
  inside_clean s h = rw (sound, (state_clean t s).1 h) refl

  asked_clean : (m : ℕ) → m < t.counts.maps → asked_fault t m ≡ clean
  unfolding asked_fault
  asked_clean m l = rw (sound, lt-ltb m t.counts.maps l) refl

  distances_clean : (m : ℕ) (out best : List ℕ) → m < t.counts.maps → most_states ≤ length out → most_states ≤ length best → distances_fault t m out best ≡ clean
  unfolding distances_fault
  distances_clean m out best l h g = rw (le-leb most_states (length out) h, le-leb most_states (length best) g, asked_clean m l) refl

  distance_clean : (m : ℕ) (s : List ℕ) → m < t.counts.maps → Inside (task_of t) s → distance_fault t m s ≡ clean
  unfolding distance_fault
  distance_clean m s l h = rw (asked_clean m l, (state_clean t s).1 h) refl

  -- ---- distances and best steps
  module _ (m : ℕ) (ds : List Cost) (r : ℕ) (bs : List Advice) (S : Shows (task_of t) m ds r bs) (out best : List ℕ) (h : most_states ≤ length out)
      (g : most_states ≤ length best) where
    entered_distances : DistancesOf (task_of t) m out (entered_in entered ds out)
    entered_distances =
        let fits : length ds ≤ length out = omega (arith, S.few) in
        record {
          distances =
              λ a l.
              subst (λ (v : Cost). IsDistanceAt (sas_of t) (view (task_of t) m) a v)
              (S.each a l ∙ ap said (sym (entered_there entered ds out fits a (omega (arith, S.count)))))
              (distance_is_least (task_of t) ok m S.asked a l);
          others = λ a l. entered_later entered ds out fits a (omega (arith, S.count));
          room = entered_long entered ds out fits;
        }

    entered_steps : BestStepsOf (task_of t) m best (entered_in step_entered bs best)
    entered_steps =
        let fits : length bs ≤ length best = omega (arith, S.few, S.count, S.steps_count) in
        record {
          steps =
              λ a l.
              subst (λ (x : Advice). IsBestStepAt (sas_of t) (view (task_of t) m) a x)
              (ap advised (sym (entered_there step_entered bs best fits a (omega (arith, S.steps_count)))))
              (S.steps a l);
          others = λ a l. entered_later step_entered bs best fits a (omega (arith, S.steps_count));
          room = entered_long step_entered bs best fits;
        }

    abbrev outcome : Outcome
    outcome = record { answer = Ok r; table = entered_in entered ds out; best = entered_in step_entered bs best }

    met : DistancesGiven t m out best (Ok r) (entered_in entered ds out) (entered_in step_entered bs best)
    met = by_clean (distances_fault t m out best) _ _ (distances_clean m out best S.asked h g) (r, refl, S.rounds, entered_distances, entered_steps)

  pub distances_exactly : (m : ℕ) (ds : List Cost) (r : ℕ) (bs : List Advice) → Shows (task_of t) m ds r bs → ClaimHolds t (distances m ds r bs)
  distances_exactly m ds r bs S = (
    S.count,
    S.steps_count,
    (λ out best h g answer out' best'.
        let own = outcome m ds r bs S out best h g in
        let given = met m ds r bs S out best h g in (
          (λ other.
              let p = distances_unique t m out best (record { answer = answer; table = out'; best = best' }) own other given in
              (ap (λ (x : Outcome). x.answer) p, ap (λ (x : Outcome). x.table) p, ap (λ (x : Outcome). x.best) p)),
          (λ e.
              let p : own ≡ record { answer = answer; table = out'; best = best' } = λ i. record { answer = sym e.0 i; table = sym e.1 i; best = sym e.2 i } in
              subst (λ (x : Outcome). DistancesGiven t m out best x.answer x.table x.best) p given),
        )),
  )

  -- ---- the distance, the best step and the bound of a state
  pub distance_exactly : (m : ℕ) (s : List ℕ) (v : Cost) → m < t.counts.maps → Inside (task_of t) s → away (task_of t) (state_of s) m ≡ v
      → ClaimHolds t (distance_at m s v)
  distance_exactly m s v l h e =
      let met : DistanceGiven t m s (distance_said v) = (distance_answered t s m v).1 (distance_clean m s l h, e) in
      λ answer. ((λ given. distance_at_unique t m s answer (distance_said v) given met), (λ p. subst (DistanceGiven t m s) (sym p) met))

  pub best_exactly : (m : ℕ) (s : List ℕ) (x : Advice) → m < t.counts.maps → Inside (task_of t) s → IsBest (task_of t) (state_of s) m x → ClaimHolds t (best_at m s x)
  best_exactly m s x l h b =
      let met : BestGiven t m s (best_said x) = by_clean (distance_fault t m s) _ _ (distance_clean m s l h) (x, refl, b) in
      λ answer. ((λ given. best_at_unique t m s answer (best_said x) given met), (λ p. subst (BestGiven t m s) (sym p) met))

  pub bound_exactly : (s : List ℕ) (v : Cost) → Inside (task_of t) s → bound (task_of t) (state_of s) ≡ v → ClaimHolds t (bound_at s v)
  bound_exactly s v h e =
      let met : BoundGiven t s (bound_said v) = (bound_answered t s v).1 (inside_clean s h, e) in
      λ answer. ((λ given. bound_unique t s answer (bound_said v) given met), (λ p. subst (BoundGiven t s) (sym p) met))

  -- ---- a sequence, and the start of a run
  pub judged_exactly : (s os : List ℕ) (x : Told) → Inside (task_of t) s → of_sequence (limited (task_of t) (state_of s) os) ≡ x
      → ClaimHolds t (judging s os x)
  unfolding judged_of
  judged_exactly s os x h e = rw (inside_clean s h) e

  pub begun_is : (s : List ℕ) → Inside (task_of t) s → begun t s ≡ record { run = fresh (copied s t.counts.vars); answer = Ok Accepted }
  unfolding begun started
  begun_is s h = rw (inside_clean s h) refl
