-- Laws of a sweep: a place more, which is as in the table before or differs, and what is noted of it. Assumes nothing.
use mathlib.Core.Path.{◌≡◌, sym, ◌∙◌}
use mathlib.Core.Bool.{Bool, true, false, true≢false, false≢true}
use mathlib.Core.List.{List}
use Prim.Native.Nat.{ℕ, ◌+◌, ◌<◌, ◌≤◌}
use native.Mathlib.Nat.{not-suc-le-zero, le_refl}
use native.Mathlib.Omega.{arith}
use borrow.Author.Count.{below_more}
use lib.ListN.{length, get_or, set}
use lib.Seq.{get_or-set_same, get_or-set_other}
use Rattle.graph.specs.Graph.{Graph}
use Rattle.graph.specs.Least.{best}
use Rattle.graph.specs.Noted.{under, choose}
use Rattle.sweep.specs.declared.rounds.Pick.{Pick}
use Rattle.sweep.specs.Said.{said, said_at, advised, advised_at}
use Rattle.sweep.specs.Inside.Sweeps.{Picks, Swept, Noted}
use Rattle.sweep.proofs.Makes.{made_none, made_more, made_end}

module _ {G : Graph} {old new₀ : List ℕ} where
  pub swept_none : Swept 0 G old new₀ new₀ false
  swept_none = record { table = made_none; same = λ e a l. absurd (not-suc-le-zero l); differs = λ e h. false≢true e }

  module _ {k : ℕ} {new : List ℕ} {changed : Bool} (s : Swept k G old new₀ new changed) where
    pub swept_end : {n : ℕ} → k ≤ n → n ≤ k → Swept n G old new₀ new changed
    swept_end h g =
        record {
          table = made_end s.table h g;
          same = λ e a l. s.same e a (omega arith);
          differs = λ e f. s.differs e (λ a l. f a (omega arith));
        }

    module _ (v : ℕ) (inside : k < length new) (made : said v ≡ best G (said_at old) k G.ops) where
      here : get_or (set new k v) k 0 ≡ v
      here = get_or-set_same new k v 0 inside

      there : (a : ℕ) → (a ≡ k → ⊥) → get_or (set new k v) a 0 ≡ get_or new a 0
      there a d = get_or-set_other new k a v 0 d

      pub swept_same : v ≡ get_or old k 0 → Swept (k + 1) G old new₀ (set new k v) changed
      swept_same e =
          record {
            table = made_more s.table inside made;
            same =
                λ f. below_more (λ a. get_or (set new k v) a 0 ≡ get_or old a 0) k (λ a l. there a (omega arith) ∙ s.same f a l) (here ∙ e);
            differs = λ f h. s.differs f (λ a l. sym (there a (omega arith)) ∙ h a (omega arith));
          }

      pub swept_diff : (v ≡ get_or old k 0 → ⊥) → Swept (k + 1) G old new₀ (set new k v) true
      swept_diff d =
          record {
            table = made_more s.table inside made;
            same = λ f. absurd (true≢false f);
            differs = λ f h. d (sym here ∙ h k (omega arith));
          }

-- what is noted of a place more
pub noted_more : (G : Graph) (old : List ℕ) {b₀ b : List ℕ} {k : ℕ} (before r : ℕ) (p : Pick) → Noted k G old b₀ b → k < length b
    → Picks G (said_at old) k G.ops p → before ≡ get_or old k 0
    → advised r ≡ choose (under (said p.cost) (said before)) (advised p.op) (advised_at b k)
    → Noted (k + 1) G old b₀ (set b k r)
noted_more G old {k = k} before r p N l P e h =
    made_more N l (h ∙ (λ i. choose (under (P.cost i) (said (e i))) (P.op i) (advised (N.kept k (le_refl k) i))))
