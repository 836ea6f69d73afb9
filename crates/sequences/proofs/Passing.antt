-- Judging says passed exactly for the sequences that pass and keep the quota. Assumes nothing.
use Prim.Native.Nat.{ℕ, suc, ◌+◌, ◌≤◌}
use mathlib.Core.Path.{◌≡◌, refl, ap, ◌∙◌}
use mathlib.Core.List.{List, [], ◌∷◌}
use mathlib.Core.Logic.{◌↔◌}
use native.Mathlib.Omega.{arith}
use lib.Dec.{leb}
use lib.ListN.{length}
use borrow.Author.Tests.{leb-true, le-leb}
use Rattle.scan.specs.Found.{Found, clean}
use Rattle.refusals.specs.declared.Refusal.{Refusal}
use Rattle.std.specs.Result.{result_and}
use Rattle.std.specs.Prelude.{Result, Ok, Err}
use Rattle.refusals.specs.declared.Refusal.TheVariants.{SequenceTooLong, NoGoal}
use Rattle.meaning.specs.Sas.{State, Sas, after, Passes, paid}
use Rattle.meaning.specs.Split.{Task}
use Rattle.meaning.specs.Views.{complies}
use Rattle.meaning.specs.Quota.{StoresWithin, PassesWithin}
use Rattle.meaning.proofs.Facts.{complies_true, true_complies}
use Rattle.meaning.proofs.Quota.{keeps_exactly}
use Rattle.tables.specs.Layout.{Tables}
use Rattle.tables.specs.Task.{sas_of, task_of, state_of}
use Rattle.scan.specs.Scan.{◌then◌, tables_fault, state_fault, input_fault}
use Rattle.sequences.specs.Stepping.{step_of, refusal_of}
use Rattle.meaning.specs.Limits.{most_steps}
use Rattle.sequences.specs.Judging.{walked, limited, judged_of}
use Rattle.sequences.proofs.Laws.{takes, step_told, apart_taken, cond_held}

-- ---- what lets pass

not_passed : (r : Refusal) (c : ℕ) → Err r ≡ Ok c → ⊥
not_passed r c e = cc

fault_passed : (f : Found) (j : Result ℕ Refusal) (c : ℕ) → result_and f j ≡ Ok c → (f ≡ clean) × (j ≡ Ok c)
fault_passed (Ok tt) j c e = (refl, e)
fault_passed (Err r) j c e = absurd (not_passed r c e)

both_clean : (f g : Found) → f then g ≡ clean → (f ≡ clean) × (g ≡ clean)
both_clean (Ok tt) g e = (refl, e)
both_clean (Err r) g e = absurd (let z : ◌≡◌ {A = ℕ} 0 1 = cc in omega arith)

-- what is handed in has no fault exactly if the tables have none and the state has none
pub input_clean : (t : Tables) (s : List ℕ) → input_fault t s ≡ clean → (tables_fault t ≡ clean) × (state_fault t.counts t.facts s ≡ clean)
unfolding input_fault
input_clean t s e = both_clean (tables_fault t) (state_fault t.counts t.facts s) e

pub clean_input : (t : Tables) (s : List ℕ) → tables_fault t ≡ clean → state_fault t.counts t.facts s ≡ clean → input_fault t s ≡ clean
unfolding input_fault
clean_input t s p q = rw (p, q)

module _ (T : Task) where
  abbrev S : Sas
  S = T.sas

  -- after n stored tests
  pub passes_walked : (os : List ℕ) (s : State) (k n p : ℕ) → Passes S os s → StoresWithin T n os → walked T k n p s os ≡ Ok (p + paid S.cost os)
  unfolding walked
  passes_walked [] s k n p h q = rw (true_complies S S.goal s h.1) (ap Ok (omega arith))
  passes_walked (o ∷ os) s k n p h q =
      rw (takes T n s o h.0.0 h.0.1 q.0)
      (passes_walked os (after S o s) (suc k) (n + T.mark o) (p + S.cost o) (h.0.2, h.1) q.1 ∙ ap Ok (omega arith))

  pub walked_passes : (os : List ℕ) (s : State) (k n p c : ℕ) → walked T k n p s os ≡ Ok c → Passes S os s × StoresWithin T n os × (c ≡ p + paid S.cost os)
  unfolding walked
  walked_passes [] s k n p c e =
      let t = cond_held (complies S S.goal s) (Ok p) (not_passed (NoGoal k) c) e in
      let q : p ≡ c = cc in
      ((tt, complies_true S S.goal s t.0), tt, omega arith)
  walked_passes (o ∷ os) s k n p c e =
      let t = apart_taken (step_of T n s o) (λ x. walked T (suc k) (n + T.mark o) (p + x) (after S o s) os)
      (λ h. not_passed (refusal_of h (suc k)) c) e in
      let u = step_told T n s o (Ok t.0) t.1 in
      let r = walked_passes os (after S o s) (suc k) (n + T.mark o) (p + t.0) c t.2 in
      (((u.exists, u.runs, r.0.0), r.0.1), (u.within, r.1), omega (arith, r.2, u.cost))

-- DEMAND 2: a sequence is passed with a cost exactly if tables and state are accepted, it is not too long, every step may run,
-- the end meets the goal, it keeps the quota, and the cost is the sum of its operators' costs
pub record Passing (t : Tables) (s ops : List ℕ) (c : ℕ) : Type 0 where
  pub tables : tables_fault t ≡ clean
  pub state : state_fault t.counts t.facts s ≡ clean
  pub length : length ops ≤ most_steps
  pub passes : PassesWithin (task_of t) ops (state_of s)
  pub cost : c ≡ paid (sas_of t).cost ops

pub passed_exactly : (t : Tables) (s ops : List ℕ) (c : ℕ) → (judged_of t s ops ≡ Ok c) ↔ Passing t s ops c
unfolding judged_of limited
passed_exactly t s ops c = (says, passes)
  where
    T : Task
    T = task_of t

    says : judged_of t s ops ≡ Ok c → Passing t s ops c
    says e =
        let f = fault_passed (input_fault t s) (limited T (state_of s) ops) c e in
        let i = input_clean t s f.0 in
        let l = cond_held (leb (length ops) most_steps) (walked T 0 0 0 (state_of s) ops) (not_passed SequenceTooLong c) f.1 in
        let w = walked_passes T ops (state_of s) 0 0 0 c l.1 in
        record {
          tables = i.0;
          state = i.1;
          length = leb-true (length ops) most_steps l.0;
          passes = (w.0, (keeps_exactly T ops).1 w.1);
          cost = omega (arith, w.2);
        }

    passes : Passing t s ops c → judged_of t s ops ≡ Ok c
    passes h =
        rw (clean_input t s h.tables h.state, le-leb (length ops) most_steps h.length)
        (passes_walked T ops (state_of s) 0 0 0 h.passes.0 ((keeps_exactly T ops).0 h.passes.1) ∙ ap Ok (omega (arith, h.cost)))
