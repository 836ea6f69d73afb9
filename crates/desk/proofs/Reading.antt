-- WHAT `read` LEAVES IN THE LENT TABLES, for whatever meets its contract: refused, for whatever number, 8 and 1 too, every lent table is as it was; accepted, each
-- place of the task's own holds the number that the text names, every other place 0, and no table is longer or shorter. Assumes nothing.
use mathlib.Core.Path.{◌≡◌, sym, ap, ◌∙◌, subst}
use mathlib.Core.List.{List}
use Prim.Native.Nat.{ℕ, ◌≤◌}
use lib.ListN.{length}
use Rattle.std.specs.Prelude.{Ok, Err}
use Rattle.refusals.specs.declared.Refusal.{Refusal}
use Rattle.meaning.specs.Split.{Task, Valid}
use Rattle.tables.specs.declared.Counts.{Counts}
use Rattle.grammar.specs.Fields.{Outcome}
use Rattle.grammar.specs.Grammar.{read_text}
use Rattle.grammar.specs.Spelling.{spelled}
use Rattle.grammar.proofs.Admission.{refused_leaves}
use Rattle.grammar.proofs.Editions.{ByEdition}
use Rattle.grammar.proofs.SpellLeft.{Named, accepted_named, accepted_task_of, accepted_short}

module _ (task facts costs shares : List ℕ) (x : Outcome) (h : x ≡ read_text task facts costs shares) where
  pub read_refused : (r : Refusal) → x.answer ≡ Err r → (x.facts ≡ facts) × (x.costs ≡ costs) × (x.shares ≡ shares)
  read_refused r e =
      let l = h ∙ refused_leaves task facts costs shares r (ap (λ (o : Outcome). o.answer) (sym h) ∙ e) in
      (ap (λ (o : Outcome). o.facts) l, ap (λ (o : Outcome). o.costs) l, ap (λ (o : Outcome). o.shares) l)

  module _ (n : Counts) (e : x.answer ≡ Ok n) where
    abbrev answers : (read_text task facts costs shares).answer ≡ Ok n
    answers = ap (λ (o : Outcome). o.answer) (sym h) ∙ e

    -- the text spells a valid task, whose quota and marks are 0 in edition 1, and is short
    pub read_spells : (τ : Task) × (task ≡ spelled τ) × Valid τ × ByEdition τ
    read_spells = accepted_task_of task facts costs shares n answers

    pub read_short : length task ≤ 10588
    read_short = accepted_short task facts costs shares n answers

    -- whichever task it spells: place by place
    pub read_named : (τ : Task) → task ≡ spelled τ → ByEdition τ → Named τ facts costs shares x
    read_named τ p b = subst (Named τ facts costs shares) (sym h) (accepted_named task facts costs shares n answers τ p b)
