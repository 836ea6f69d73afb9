-- What the tables have that were judged, and a list that is filled through its first part. Assumes nothing.
use Prim.Native.Nat.{ℕ, ◌+◌, ◌≤◌, ◌<◌}
use mathlib.Core.Path.{◌≡◌, sym, ◌∙◌}
use mathlib.Core.List.{List, ◌++◌}
use lib.ListN.{length, get_or, set}
use Rattle.std.proofs.lemmas.List.{set-append_left, get_or_append_left}
use Rattle.meaning.specs.Limits.{most_vars, most_ops}
use Rattle.scan.proofs.Validity.{clean_valid, clean_room}
use Rattle.tables.specs.Layout.{facts_room}
use Rattle.tables.specs.Steps.{overwritten}
use Rattle.tables.proofs.Laws.{filled_next, filled_still}
use Rattle.ledger.specs.declared.judged.Judged.{Judged}
use Rattle.ledger.specs.Inside.Judged.{its_tables}

pub record Fitting (t : Judged) : Type 0 where
  pub vars : t.tables.counts.vars ≤ most_vars
  pub ops : t.tables.counts.ops ≤ most_ops
  pub facts : facts_room ≤ length t.tables.facts.now

pub fitting : (t : Judged) → Fitting t
fitting t =
    let valid = clean_valid (its_tables t) t.is_clean in
    record { vars = valid.vars.1; ops = valid.ops; facts = (clean_room (its_tables t) t.is_clean).0 }

-- ---- a list is filled place by place through its first part, beside which the rest of it stands

module _ (f : ℕ → ℕ) (l part rest : List ℕ) (m : ℕ) (is : (part ++ rest) ≡ overwritten f l m) (within : m < length part) where
  pub part_still : get_or part m 0 ≡ get_or l m 0
  part_still = sym (get_or_append_left part rest 0 m within) ∙ filled_still f l (part ++ rest) m is

  pub part_next : (x : ℕ) → x ≡ f m → (set part m x ++ rest) ≡ overwritten f l (m + 1)
  part_next x e = sym (set-append_left part rest m x within) ∙ filled_next f l (part ++ rest) m x is e
