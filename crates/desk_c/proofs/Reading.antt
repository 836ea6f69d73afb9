-- A REFUSED TEXT ALTERS NOTHING THAT C LENT: with any word but 0, whatever its number, `desk_read` leaves the counts and the three tables as they were.
-- From the desk's entry. Assumes nothing.
use mathlib.Core.Path.{◌≡◌, refl, sym, subst}
use mathlib.Core.Bool.{Bool, true, false, cond}
use mathlib.Core.List.{List}
use Prim.Native.Nat.{ℕ, ◌<◌}
use native.Mathlib.Omega.{arith}
use lib.Dec.{ltb}
use lib.ListN.{length}
use Rattle.std.specs.Prelude.{Ok, Err}
use Rattle.grammar.specs.Readings.{Reading}
use Rattle.refusals.specs.declared.Refusal.TheVariants.{TableTooShort}
use Rattle.grammar.specs.Fields.{Outcome}
use Rattle.grammar.specs.Grammar.{read_text}
use Rattle.grammar.proofs.Admission.{refused_leaves}
use Rattle.words.specs.Words.{refused_word, reading_word}
use Rattle.desk_c.specs.Handing.{ReadLeft, read_left, counts_row, read_counted, read_handed}

module _ (text counts f c s : List ℕ) where
  -- nothing that was lent is altered
  abbrev LeftAlone : ReadLeft → Type 0
  LeftAlone x = (x.counts ≡ counts) × (x.facts ≡ f) × (x.costs ≡ c) × (x.shares ≡ s)

  counted_alone : (a : Reading) → (read_text text f c s).answer ≡ a → 0 < reading_word a → LeftAlone (read_counted (read_text text f c s) counts)
  counted_alone (Ok n) e l = absurd (let z : ⊥ = omega arith in z)
  counted_alone (Err r) e l =
      subst (λ (o : Outcome). LeftAlone (read_counted o counts)) (sym (refused_leaves text f c s r e)) (refl, refl, refl, refl)

  tested_alone : (b : Bool) → 0 < (cond b (read_left (refused_word TableTooShort) counts f c s) (read_counted (read_text text f c s) counts)).word
      → LeftAlone (cond b (read_left (refused_word TableTooShort) counts f c s) (read_counted (read_text text f c s) counts))
  tested_alone true l = (refl, refl, refl, refl)
  tested_alone false l = counted_alone (read_text text f c s).answer refl l

  pub read_refused : (x : ReadLeft) → x ≡ read_handed text counts f c s → 0 < x.word → LeftAlone x
  unfolding read_handed
  read_refused x h l =
      subst LeftAlone (sym h)
      (tested_alone (ltb (length counts) counts_row) (subst (λ (y : ReadLeft). 0 < y.word) h l))
