-- The text that spells a task, whatever stands in its tables, gets number 3, 5, 6, 7 or 18 or none: it has the form, and its facts rise. By the scan, which is the
-- grammar there. Assumes nothing.
use Prim.Native.Nat.{ℕ}
use native.Mathlib.Omega.{arith}
use mathlib.Core.Path.{◌≡◌, sym, ap, ◌∙◌}
use Rattle.std.specs.Prelude.{Ok, Err}
use Rattle.scan.specs.Found.{Found}
use Rattle.refusals.specs.declared.Refusal.{Refusal}
use Rattle.scan.specs.Scan.{task_fault}
use Rattle.scan.proofs.Numbers.{OfTask, task_refused}
use Rattle.tables.specs.Layout.{Tables}
use Rattle.tables.specs.Task.{task_of}
use Rattle.grammar.specs.Grammar.{accepted, refused, verdict}
use Rattle.grammar.specs.Spelling.{text_of, canon}
use Rattle.grammar.proofs.SpellParts.{judged}
use Rattle.grammar.proofs.SpellTask.{scan_is_grammar}

pub spelled_refused : (t : Tables) (r : Refusal) → verdict (text_of t) ≡ refused r → OfTask r
spelled_refused t r h = task_refused (task_of t) r (go (task_fault (task_of t)) (sym (scan_is_grammar t) ∙ h))
  where
    go : (f : Found) → judged f (accepted (canon t)) ≡ refused r → f ≡ Err r
    go (Ok tt) p = let z : ◌≡◌ {A = ℕ} 0 1 = cc in absurd (let n : ⊥ = omega arith in n)
    go (Err q) p = let e : q ≡ r = cc in ap Err e
