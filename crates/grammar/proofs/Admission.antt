-- What a reading leaves: a short table is told first, then a long text; 16,384 bytes are read; and whatever is refused, every lent table is as it was.
-- By the tests before the text, one after another. Assumes nothing.
use Prim.Native.Nat.{ℕ, ◌<◌, ◌≤◌}
use native.Mathlib.Omega.{arith}
use mathlib.Core.Path.{◌≡◌, refl, ap}
use mathlib.Core.List.{List}
use mathlib.Core.Bool.{Bool, true, false, cond}
use lib.Dec.{ltb}
use lib.ListN.{length}
use borrow.Author.Tests.{lt-ltb, le-ltb}
use Rattle.std.specs.Prelude.{Ok, Err}
use Rattle.refusals.specs.declared.Refusal.{Refusal}
use Rattle.refusals.specs.declared.Refusal.TheVariants.{TextTooLong, TableTooShort}
use Rattle.meaning.specs.Limits.{most_bytes}
use Rattle.tables.specs.declared.Counts.{Counts}
use Rattle.tables.specs.Layout.{facts_room, costs_room, shares_room}
use Rattle.grammar.specs.Fields.{Outcome, admitted, leaves}
use Rattle.grammar.specs.Grammar.{Verdict, accepted, refused, outcome, verdict, read_text}

pub not_accepted : {A : Type 0} {r : Refusal} {n : Counts} → Err r ≡ Ok n → A
not_accepted p = let z : ◌≡◌ {A = ℕ} 0 1 = cc in absurd (let n : ⊥ = omega arith in n)

not_refused : {A : Type 0} {r : Refusal} {n : Counts} → Ok n ≡ Err r → A
not_refused p = let z : ◌≡◌ {A = ℕ} 0 1 = cc in absurd (let n : ⊥ = omega arith in n)

module _ (text f c s : List ℕ) where
  pub facts_short : length f < facts_room → read_text text f c s ≡ leaves (Err TableTooShort) f c s
  unfolding read_text admitted
  facts_short h = rw (lt-ltb _ _ h)

  module _ (fits : facts_room ≤ length f) where
    pub costs_short : length c < costs_room → read_text text f c s ≡ leaves (Err TableTooShort) f c s
    unfolding read_text admitted
    costs_short h = rw (le-ltb _ _ fits, lt-ltb _ _ h)

    module _ (fits₁ : costs_room ≤ length c) where
      pub shares_short : length s < shares_room → read_text text f c s ≡ leaves (Err TableTooShort) f c s
      unfolding read_text admitted
      shares_short h = rw (le-ltb _ _ fits, le-ltb _ _ fits₁, lt-ltb _ _ h)

      module _ (fits₂ : shares_room ≤ length s) where
        pub text_read : length text ≤ most_bytes → read_text text f c s ≡ outcome (verdict text) f c s
        unfolding read_text admitted
        text_read h = rw (le-ltb _ _ fits, le-ltb _ _ fits₁, le-ltb _ _ fits₂, le-ltb _ _ h)

        pub text_long : most_bytes < length text → read_text text f c s ≡ leaves (Err TextTooLong) f c s
        unfolding read_text admitted
        text_long h = rw (le-ltb _ _ fits, le-ltb _ _ fits₁, le-ltb _ _ fits₂, lt-ltb _ _ h)

  -- ---- REFUSED, AND NOTHING IS ALTERED

  -- a test that refuses, before what leaves the tables as they were
  refusing : (b : Bool) (q r : Refusal) (o : Outcome) → (o.answer ≡ Err r → o ≡ leaves (Err r) f c s)
      → (cond b (leaves (Err q) f c s) o).answer ≡ Err r → cond b (leaves (Err q) f c s) o ≡ leaves (Err r) f c s
  refusing true q r o h e = let z : q ≡ r = cc in ap (λ (x : Refusal). leaves (Err x) f c s) z
  refusing false q r o h e = h e

  outcome_leaves : (v : Verdict) (r : Refusal) → (outcome v f c s).answer ≡ Err r → outcome v f c s ≡ leaves (Err r) f c s
  unfolding outcome
  outcome_leaves (accepted T) r e = not_refused e
  outcome_leaves (refused q) r e = let z : q ≡ r = cc in ap (λ (x : Refusal). leaves (Err x) f c s) z

  pub refused_leaves : (r : Refusal) → (read_text text f c s).answer ≡ Err r → read_text text f c s ≡ leaves (Err r) f c s
  unfolding read_text admitted
  refused_leaves r =
      refusing (ltb (length f) facts_room) TableTooShort r _
      (refusing (ltb (length c) costs_room) TableTooShort r _
      (refusing (ltb (length s) shares_room) TableTooShort r _
      (refusing (ltb most_bytes (length text)) TextTooLong r _ (outcome_leaves (verdict text) r))))

  -- ---- what is accepted was not refused before

  passing : (b : Bool) (q : Refusal) (n : Counts) (o u : Outcome) → (o.answer ≡ Ok n → o ≡ u)
      → (cond b (leaves (Err q) f c s) o).answer ≡ Ok n → cond b (leaves (Err q) f c s) o ≡ u
  passing true q n o u h e = not_accepted e
  passing false q n o u h e = h e

  pub accepted_outcome : (n : Counts) → (read_text text f c s).answer ≡ Ok n → read_text text f c s ≡ outcome (verdict text) f c s
  unfolding read_text admitted
  accepted_outcome n =
      passing (ltb (length f) facts_room) TableTooShort n _ _
      (passing (ltb (length c) costs_room) TableTooShort n _ _
      (passing (ltb (length s) shares_room) TableTooShort n _ _
      (passing (ltb most_bytes (length text)) TextTooLong n _ _ (λ e. refl))))
