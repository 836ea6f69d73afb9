-- The first fault of the lines before the operators: which line decides. Assumes nothing.
use Prim.Native.Nat.{ℕ, ◌≤◌, ◌<◌}
use mathlib.Core.Path.{◌≡◌, refl}
use mathlib.Core.Bool.{true, false}
use lib.Dec.{leb, ltb}
use borrow.Author.Tests.{lt-leb, le-leb}
use Rattle.std.specs.Prelude.{Err}
use Rattle.scan.specs.Found.{Found, clean}
use Rattle.refusals.specs.declared.Refusal.{Refusal}
use Rattle.refusals.specs.declared.Refusal.TheVariants.{OutOfRange}
use Rattle.meaning.specs.Limits.{most_vars, most_values, most_ops, most_edition, most_quota}
use Rattle.meaning.specs.Split.{Task}
use Rattle.scan.specs.Scan.{each, within, facts_fault}
use Rattle.scan.specs.Inside.Parts.{head_fault}
use Rattle.scan.proofs.Walks.{tests}
use Rattle.tables.specs.Lines.{line_of_edition, line_of_vars, line_of_dom, line_of_init, line_of_goal, line_of_quota, line_of_ops}

-- the walks over the variables: their numbers of values, the initial state, the goal
abbrev pub doms : Task → ℕ → Found
doms T = tests (λ v. within 1 most_values (T.sas.dom v)) (λ v. OutOfRange line_of_dom)

abbrev pub inits : Task → ℕ → Found
inits T = tests (λ v. ltb (T.sas.init v) (T.sas.dom v)) (λ v. OutOfRange line_of_init)

abbrev pub goals : Task → ℕ → Found
goals T = tests (λ v. leb (T.sas.goal v) (T.sas.dom v)) (λ v. OutOfRange line_of_goal)

module _ (T : Task) where
  pub edition_decides : within 1 most_edition T.edition ≡ false → head_fault T ≡ Err (OutOfRange line_of_edition)
  unfolding head_fault
  edition_decides p = rw p refl

  module _ (e : within 1 most_edition T.edition ≡ true) where
    pub vars_decide : within 1 most_vars T.sas.vars ≡ false → head_fault T ≡ Err (OutOfRange line_of_vars)
    unfolding head_fault
    vars_decide p = rw (e, p) refl

    module _ (n : within 1 most_vars T.sas.vars ≡ true) where
      pub dom_decides : {r : Refusal} → each (doms T) T.sas.vars 0 ≡ Err r → head_fault T ≡ Err r
      unfolding head_fault
      dom_decides p = rw (e, n, p) refl

      module _ (d : each (doms T) T.sas.vars 0 ≡ clean) where
        pub init_decides : {r : Refusal} → each (inits T) T.sas.vars 0 ≡ Err r → head_fault T ≡ Err r
        unfolding head_fault
        init_decides p = rw (e, n, d, p) refl

        module _ (i : each (inits T) T.sas.vars 0 ≡ clean) where
          pub goal_decides : {r : Refusal} → each (goals T) T.sas.vars 0 ≡ Err r → head_fault T ≡ Err r
          unfolding head_fault facts_fault
          goal_decides p = rw (e, n, d, i, p) refl

          module _ (g : each (goals T) T.sas.vars 0 ≡ clean) where
            pub quota_decides : most_quota < T.quota → head_fault T ≡ Err (OutOfRange line_of_quota)
            unfolding head_fault facts_fault
            quota_decides h = rw (e, n, d, i, g, lt-leb T.quota most_quota h) refl

            pub ops_decide : T.quota ≤ most_quota → most_ops < T.sas.ops → head_fault T ≡ Err (OutOfRange (line_of_ops T.edition))
            unfolding head_fault facts_fault
            ops_decide q h = rw (e, n, d, i, g, le-leb T.quota most_quota q, lt-leb T.sas.ops most_ops h) refl

            pub head_clean : T.quota ≤ most_quota → T.sas.ops ≤ most_ops → head_fault T ≡ clean
            unfolding head_fault facts_fault
            head_clean q h = rw (e, n, d, i, g, le-leb T.quota most_quota q, le-leb T.sas.ops most_ops h) refl
