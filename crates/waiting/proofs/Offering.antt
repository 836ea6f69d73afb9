-- Laws of an offer: a lower label makes a lower key, so that the state may be put with it; and what each way through the offer leaves is what was to be done.
-- Assumes nothing.
use mathlib.Core.Path.{◌≡◌, refl, ◌∙◌}
use mathlib.Core.List.{List}
use Prim.Native.Nat.{ℕ, ◌+◌, ◌*◌, ◌≤◌, ◌<◌, min}
use native.Mathlib.Decide.{dec_lt}
use native.Mathlib.Omega.{arith}
use lib.ListN.{length, get_or, set, length-set}
use lib.Seq.{get_or-set_same, get_or-set_other}
use Rattle.waiting.specs.Trees.{NOKEY, leaf, Tree, Leafed}
use Rattle.waiting.specs.Offers.{NOLABEL, Shaped, Offered}

-- the key of a lower label is at most the one that the state had
pub key_below : (L t : List ℕ) (a new : ℕ) → a < 4096 → get_or L a 0 ≤ NOLABEL → Shaped L t a → new < get_or L a 0 → new * 4096 + a ≤ leaf t a
key_below L t a new la h shaped l = pick (dec_lt (leaf t a) NOKEY)
  where
    pick : Dec (leaf t a < NOKEY) → new * 4096 + a ≤ leaf t a
    pick (yes w) = omega (arith, shaped w)
    pick (no w) = omega arith

module _ (L t β : List ℕ) (a o new : ℕ) (inside-β : a < length β) where
  -- a lower label
  pub offered_lower : (t' : List ℕ) (key : ℕ) → a < length L → new < get_or L a 0 → key ≡ new * 4096 + a → Leafed a key t t' → Offered a o new L t β (set L a new) t' (set β a o)
  offered_lower t' key inside l e f =
      let g : get_or (set L a new) a 0 ≡ new = get_or-set_same L a new 0 inside in
      record {
        size_L = length-set L a new;
        size_t = f.size;
        size_β = length-set β a o;
        tree = f.tree;
        label = omega arith;
        labels = λ x d. get_or-set_other L a x new 0 d;
        lowered = λ _. (f.here ∙ e, get_or-set_same β a o 0 inside-β);
        equal = λ e. absurd (omega arith);
        above = λ h. absurd (omega arith);
        leaves = f.others;
        steps = λ x d. get_or-set_other β a x o 0 d;
      }

  -- an equal label: the operator is the lesser of two
  pub offered_equal : (v : ℕ) → Tree t → new ≡ get_or L a 0 → v ≡ min (get_or β a 0) o → Offered a o new L t β L t (set β a v)
  offered_equal v ok e is =
      record {
        size_L = refl;
        size_t = refl;
        size_β = length-set β a v;
        tree = ok;
        label = omega arith;
        labels = λ x d. refl;
        lowered = λ h. absurd (omega arith);
        equal = λ _. (refl, get_or-set_same β a v 0 inside-β ∙ is);
        above = λ h. absurd (omega arith);
        leaves = λ x d. refl;
        steps = λ x d. get_or-set_other β a x v 0 d;
      }
