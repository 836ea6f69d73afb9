-- An answer that is no refusal tells that nothing was at fault and what the task's own distance, best step or sum is, and what is so is answered.
-- Assumes nothing.
use Rattle.scan.specs.Found.{Found, clean}
use Rattle.std.specs.Prelude.{Err, Ok}
use mathlib.Core.Path.{◌≡◌, refl, sym, subst}
use mathlib.Core.Logic.{◌↔◌}
use mathlib.Core.List.{List}
use Prim.Native.Nat.{ℕ, ◌<◌}
use native.Mathlib.Omega.{arith}
use Rattle.graph.specs.Cost.{Cost, none, fin}
use Rattle.graph.specs.Best.{Advice, halt, take}
use Rattle.refusals.specs.declared.Refusal.{Refusal}
use Rattle.meaning.specs.Bound.{away, bound}
use Rattle.scan.specs.Scan.{tables_fault, state_fault, input_fault}
use Rattle.scan.proofs.Walks.{clean_first, clean_next}
use Rattle.tables.specs.Layout.{Tables}
use Rattle.tables.specs.Task.{task_of, state_of}
use Rattle.views.specs.Entries.{no_such_map, asked_fault, distance_fault, ByFault, IsAway, IsBest, IsBound}
use Rattle.views.specs.Entries.{distance_said, best_said, bound_said, DistanceGiven, BestGiven, BoundGiven}
use Rattle.views.proofs.Answers.{away_is, away_only, bound_is, bound_only}
use Rattle.views.proofs.Judging.{by_clean, map_there, asked_clean, distance_clean, bound_clean}

-- what no refusal can be was accepted
pub by_told : (g : Found) (refused : Refusal → Type 0) (accepted : Type 0) → ((f : Refusal) → refused f → ⊥) → ByFault g refused accepted
    → (g ≡ clean) × accepted
by_told (Ok tt) refused accepted never p = (refl, p)
by_told (Err f) refused accepted never p = absurd (never f p)

-- an answer that is no refusal tells what is so, and that nothing was at fault; and what is so is answered
answered : {A X : Type 0} (g : Found) (said : X → A) (refused : Refusal → A) (Is : X → Type 0)
    → ((v w : X) → said v ≡ said w → v ≡ w) → ((v : X) (f : Refusal) → said v ≡ refused f → ⊥)
    → (v : X) → ByFault g (λ f. said v ≡ refused f) ((w : X) × (said v ≡ said w) × Is w) ↔ ((g ≡ clean) × Is v)
answered g said refused Is told never v = (
  (λ given.
      let p = by_told g _ _ (never v) given in
      let q = p.1 in
      (p.0, subst Is (sym (told v q.0 q.1)) q.2)),
  (λ h. by_clean g _ _ h.0 (v, refl, h.1)),
)

-- where one cost alone is so, that one is answered
its_own : {A : Type 0} (g : Found) (said : Cost → A) (refused : Refusal → A) (Is : Cost → Type 0) (own : Cost)
    → ((v w : Cost) → said v ≡ said w → v ≡ w) → ((v : Cost) (f : Refusal) → said v ≡ refused f → ⊥)
    → (g ≡ clean → Is own) → (g ≡ clean → (v w : Cost) → Is v → Is w → v ≡ w)
    → (v : Cost) → ByFault g (λ f. said v ≡ refused f) ((w : Cost) × (said v ≡ said w) × Is w) ↔ ((g ≡ clean) × (own ≡ v))
its_own g said refused Is own told never is only v =
    let w = answered g said refused Is told never v in (
      (λ given. let h = w.0 given in (h.0, only h.0 own v (is h.0) h.1)),
      (λ h. w.1 (h.0, subst Is h.1 (is h.0))),
    )

-- ---- an answer tells its cost or advice, and no refusal does

pub distance_said_lem : (v w : Cost) → distance_said v ≡ distance_said w → v ≡ w
distance_said_lem none none e = refl
distance_said_lem none (fin b) e = absurd (let z : ◌≡◌ {A = ℕ} 0 1 = cc in omega arith)
distance_said_lem (fin a) none e = absurd (let z : ◌≡◌ {A = ℕ} 0 1 = cc in omega arith)
distance_said_lem (fin a) (fin b) e = cc

distance_no_refusal : (v : Cost) (f : Refusal) → distance_said v ≡ Err f → ⊥
distance_no_refusal none f e = let z : ◌≡◌ {A = ℕ} 0 1 = cc in omega arith
distance_no_refusal (fin b) f e = let z : ◌≡◌ {A = ℕ} 0 1 = cc in omega arith

pub best_said_lem : (x y : Advice) → best_said x ≡ best_said y → x ≡ y
best_said_lem halt halt e = refl
best_said_lem halt (take p) e = absurd (let z : ◌≡◌ {A = ℕ} 0 1 = cc in omega arith)
best_said_lem (take o) halt e = absurd (let z : ◌≡◌ {A = ℕ} 0 1 = cc in omega arith)
best_said_lem (take o) (take p) e = cc

best_no_refusal : (x : Advice) (f : Refusal) → best_said x ≡ Err f → ⊥
best_no_refusal halt f e = let z : ◌≡◌ {A = ℕ} 0 1 = cc in omega arith
best_no_refusal (take o) f e = let z : ◌≡◌ {A = ℕ} 0 1 = cc in omega arith

pub bound_said_lem : (v w : Cost) → bound_said v ≡ bound_said w → v ≡ w
bound_said_lem = distance_said_lem

module _ (t : Tables) (s : List ℕ) where
  -- the faults where a map is asked for are those of the input, and a map that isn't there
  pub input_asked : (m : ℕ) → input_fault t s ≡ clean → m < t.counts.maps → distance_fault t m s ≡ clean
  unfolding input_fault distance_fault asked_fault
  input_asked m e l = rw (clean_first (tables_fault t) (state_fault t.counts t.facts s) e, sym (map_there t m l)) (clean_next (tables_fault t) (state_fault t.counts t.facts s) e)

  pub asked_input : (m : ℕ) → distance_fault t m s ≡ clean → (input_fault t s ≡ clean) × (m < t.counts.maps)
  unfolding input_fault distance_fault asked_fault
  asked_input m e =
      let asked = clean_first (asked_fault t m) (state_fault t.counts t.facts s) e in
      (rw (clean_first (tables_fault t) (no_such_map t m) asked) (clean_next (asked_fault t m) (state_fault t.counts t.facts s) e), (asked_clean t m asked).1)

  -- ---- what is answered is so, and what is so is answered

  pub distance_answered : (m : ℕ) (v : Cost) → DistanceGiven t m s (distance_said v) ↔ ((distance_fault t m s ≡ clean) × (away (task_of t) (state_of s) m ≡ v))
  distance_answered m =
      let T = task_of t in
      its_own (distance_fault t m s) distance_said Err (IsAway T (state_of s) m) (away T (state_of s) m) distance_said_lem distance_no_refusal
      (λ e. let c = distance_clean t m s e in away_is T c.0 m c.1 (state_of s) c.2)
      (λ e v w. let c = distance_clean t m s e in away_only T c.0 m c.1 (state_of s) v w c.2)

  pub best_answered : (m : ℕ) (x : Advice) → BestGiven t m s (best_said x) ↔ ((distance_fault t m s ≡ clean) × IsBest (task_of t) (state_of s) m x)
  best_answered m = answered (distance_fault t m s) best_said Err (IsBest (task_of t) (state_of s) m) best_said_lem best_no_refusal

  pub bound_answered : (v : Cost) → BoundGiven t s (bound_said v) ↔ ((input_fault t s ≡ clean) × (bound (task_of t) (state_of s) ≡ v))
  bound_answered =
      let T = task_of t in
      its_own (input_fault t s) bound_said Err (IsBound T (state_of s)) (bound T (state_of s)) bound_said_lem distance_no_refusal
      (λ e. let c = bound_clean t s e in bound_is T c.0 (state_of s) c.1)
      (λ e. let c = bound_clean t s e in bound_only T c.0 (state_of s) c.1)
