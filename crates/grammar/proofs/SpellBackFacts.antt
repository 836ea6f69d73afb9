-- Back from an accepted list of facts: it is the spelling of a row of facts.
-- Each fact names a later variable than the one before it, and of those between nothing is said. Assumes nothing.
use Prim.Native.Nat.{ℕ, zero, suc, ◌+◌, ◌-◌, ◌≤◌, ◌<◌}
use native.Mathlib.Omega.{arith}
use native.Mathlib.Numerals.{add-one}
use mathlib.Core.Path.{◌≡◌, refl, sym, ap, ap₂, ◌∙◌}
use mathlib.Core.List.{List, [], ◌∷◌, ◌++◌, append_assoc}
use mathlib.Core.Bool.{true, false, cond}
use lib.Dec.{eqb, leb, ltb}
use borrow.Author.Tests.{eq-eqb, ne_eqb, eqb-true, leb-true, ltb-true, lt-ltb, le-ltb}
use Rattle.refusals.specs.declared.Refusal.TheVariants.{NotRising}
use Rattle.meaning.specs.Sas.{Facts}
use Rattle.tables.specs.Layout.{Tables, dom_at}
use Rattle.meaning.proofs.Facts.{by_cases}
use Rattle.grammar.specs.Fields.{comma, dash, colon}
use Rattle.grammar.specs.Grammar.{accepted, Rest, Part, ◌▸◌, nothing, ask, keep, choice, fits, put_fact, facts_from, fact_list}
use Rattle.grammar.specs.Spelling.{digits, fact, another_fact, more_facts, first_fact, some_facts, changed, fact_put, fact_row}
use Rattle.grammar.proofs.Runs.{clash}
use Rattle.grammar.proofs.SpellFacts.{within_below, on}
use Rattle.grammar.proofs.SpellBack.{Back, BackOf, demand_back, lit_back, number_back, changed_same}

-- ---- rows of facts: nothing said up to a variable, that variable, and then another row

unfoldable from : ℕ → ℕ → Facts → Facts
from v x F j = cond (ltb j v) 0 (cond (eqb j v) (suc x) (F j))

from_low : (v x : ℕ) (F : Facts) (j : ℕ) → j < v → from v x F j ≡ 0
unfolding from
from_low v x F j h = rw (lt-ltb j v h) refl

from_here : (v x : ℕ) (F : Facts) → from v x F v ≡ suc x
unfolding from
from_here v x F = rw (le-ltb v v (omega arith), eq-eqb v v refl) refl

from_high : (v x : ℕ) (F : Facts) (j : ℕ) → v < j → from v x F j ≡ F j
unfolding from
from_high v x F j h = rw (le-ltb j v (omega arith), ne_eqb j v (λ z. omega arith)) refl

pub more_same : (F G : Facts) (n i : ℕ) → ((j : ℕ) → i ≤ j → j < i + n → F j ≡ G j) → more_facts F n i ≡ more_facts G n i
unfolding more_facts
more_same F G zero i h = refl
more_same F G (suc n) i h =
    ap₂ (λ (x : ℕ) (y : List ℕ). another_fact x i ++ y) (h i (omega arith) (omega arith)) (more_same F G n (suc i) (λ j a b. h j (omega arith) (omega arith)))

pub some_same : (F G : Facts) (n i : ℕ) → ((j : ℕ) → i ≤ j → j < i + n → F j ≡ G j) → some_facts F n i ≡ some_facts G n i
unfolding some_facts
some_same F G zero i h = refl
some_same F G (suc n) i h =
    ap (λ (x : ℕ). first_fact x i (more_facts F n (suc i)) (some_facts F n (suc i))) (h i (omega arith) (omega arith))
    ∙ ap₂ (λ (x y : List ℕ). first_fact (G i) i x y) (more_same F G n (suc i) (λ j a b. h j (omega arith) (omega arith))) (some_same F G n (suc i) (λ j a b. h j (omega arith) (omega arith)))

-- nothing is said of d variables
more_skip : (F : Facts) (d n i : ℕ) → ((j : ℕ) → i ≤ j → j < i + d → F j ≡ 0) → more_facts F (d + n) i ≡ more_facts F n (i + d)
unfolding more_facts another_fact
more_skip F zero n i h = let a : 0 + n ≡ n = omega arith in let b : i ≡ i + 0 = omega arith in ap₂ (more_facts F) a b
more_skip F (suc d) n i h =
    let a : suc d + n ≡ suc (d + n) = omega arith in
    let b : suc i + d ≡ i + suc d = omega arith in
    ap (λ (m : ℕ). more_facts F m i) a
    ∙ ap (λ (x : ℕ). another_fact x i ++ more_facts F (d + n) (suc i)) (h i (omega arith) (omega arith))
    ∙ more_skip F d n (suc i) (λ j p q. h j (omega arith) (omega arith))
    ∙ ap (more_facts F n) b

some_skip : (F : Facts) (d n i : ℕ) → ((j : ℕ) → i ≤ j → j < i + d → F j ≡ 0) → some_facts F (d + n) i ≡ some_facts F n (i + d)
unfolding some_facts first_fact
some_skip F zero n i h = let a : 0 + n ≡ n = omega arith in let b : i ≡ i + 0 = omega arith in ap₂ (some_facts F) a b
some_skip F (suc d) n i h =
    let a : suc d + n ≡ suc (d + n) = omega arith in
    let b : suc i + d ≡ i + suc d = omega arith in
    ap (λ (m : ℕ). some_facts F m i) a
    ∙ ap (λ (x : ℕ). first_fact x i (more_facts F (d + n) (suc i)) (some_facts F (d + n) (suc i))) (h i (omega arith) (omega arith))
    ∙ some_skip F d n (suc i) (λ j p q. h j (omega arith) (omega arith))
    ∙ ap (some_facts F n) b

module _ (place : ℕ → ℕ) where
  abbrev put : Facts → ℕ → List ℕ → List ℕ
  put F v = fact_put (F v) (place v)

  put_skip : (F : Facts) (d n i : ℕ) (w : List ℕ) → ((j : ℕ) → i ≤ j → j < i + d → F j ≡ 0) → changed (put F) (d + n) i w ≡ changed (put F) n (i + d) w
  unfolding changed fact_put
  put_skip F zero n i w h = let a : 0 + n ≡ n = omega arith in let b : i ≡ i + 0 = omega arith in ap₂ (λ (x y : ℕ). changed (put F) x y w) a b
  put_skip F (suc d) n i w h =
      let a : suc d + n ≡ suc (d + n) = omega arith in
      let b : suc i + d ≡ i + suc d = omega arith in
      ap (λ (m : ℕ). changed (put F) m i w) a
      ∙ ap (λ (x : ℕ). changed (put F) (d + n) (suc i) (fact_put x (place i) w)) (h i (omega arith) (omega arith))
      ∙ put_skip F d n (suc i) w (λ j p q. h j (omega arith) (omega arith))
      ∙ ap (λ (x : ℕ). changed (put F) n x w) b

  -- a fact about v after the variables from i on, with a row F of those after it
  module _ (i d x n : ℕ) (F : Facts) where
    abbrev whole : Facts
    whole = from (i + d) x F

    whole_more : more_facts whole (d + suc n) i ≡ (comma ∷ fact (i + d) x) ++ more_facts F n (suc (i + d))
    unfolding more_facts another_fact
    whole_more =
        more_skip whole d (suc n) i (λ j a b. from_low (i + d) x F j b)
        ∙ ap₂ (λ (y : ℕ) (z : List ℕ). another_fact y (i + d) ++ z) (from_here (i + d) x F) (more_same whole F n (suc (i + d)) (λ j a b. from_high (i + d) x F j (omega arith)))

    whole_some : some_facts whole (d + suc n) i ≡ fact (i + d) x ++ more_facts F n (suc (i + d))
    unfolding some_facts first_fact
    whole_some =
        some_skip whole d (suc n) i (λ j a b. from_low (i + d) x F j b)
        ∙ ap₂ (λ (y : ℕ) (z : List ℕ). first_fact y (i + d) z (some_facts whole n (suc (i + d)))) (from_here (i + d) x F)
        (more_same whole F n (suc (i + d)) (λ j a b. from_high (i + d) x F j (omega arith)))

    whole_put : (w : List ℕ) → changed (put whole) (d + suc n) i w ≡ changed (put F) n (suc (i + d)) (fact_put (suc x) (place (i + d)) w)
    unfolding changed
    whole_put w =
        put_skip whole d (suc n) i w (λ j a b. from_low (i + d) x F j b)
        ∙ ap (λ (y : ℕ). changed (put whole) n (suc (i + d)) (fact_put y (place (i + d)) w)) (from_here (i + d) x F)
        ∙ changed_same (put whole) (put F) n (suc (i + d)) _ (λ j a b z. ap (λ (y : ℕ). fact_put y (place j) z) (from_high (i + d) x F j (omega arith)))

  -- the same, where v is that variable and r the number of variables
  module _ (i d x n v r : ℕ) (F : Facts) (e : v ≡ i + d) (f : r ≡ d + suc n) where
    more_from : more_facts (from v x F) r i ≡ (comma ∷ fact v x) ++ more_facts F n (suc v)
    more_from = rw (e, f) (whole_more i d x n F)

    some_from : some_facts (from v x F) r i ≡ fact v x ++ more_facts F n (suc v)
    some_from = rw (e, f) (whole_some i d x n F)

    put_from : (w : List ℕ) → changed (put (from v x F)) r i w ≡ changed (put F) n (suc v) (fact_put (suc x) (place v) w)
    put_from w = rw (e, f) (whole_put i d x n F w)

-- ---- what is read

-- a byte chosen on: it stood there, or the other part read the same text
choice_back : {R : Type 0} (b : ℕ) (p q : Part) (t : List ℕ) (l : ℕ) (T : Tables) (k : Rest) (W : Tables) → choice b p q t l T k ≡ accepted W
    → ((u : List ℕ) → t ≡ b ∷ u → p u l T k ≡ accepted W → R) → (q t l T k ≡ accepted W → R) → R
unfolding choice
choice_back b p q [] l T k W h yes' no' = no' h
choice_back b p q (x ∷ t) l T k W h yes' no' =
    by_cases (eqb x b) (λ e. yes' t (ap (λ (y : ℕ). y ∷ t) (eqb-true x b e)) (rw e at h)) (λ e. no' (rw e at h))

-- one fact of a list
record OneFact (place : ℕ → ℕ) (n least N : ℕ) (t : List ℕ) (l : ℕ) (T : Tables) (k : Rest) (W : Tables) : Type 0 where
  var : ℕ
  val : ℕ
  rest : List ℕ
  low : least ≤ var
  high : var < N
  says : t ≡ fact var val ++ rest
  then : choice comma (facts_from place n (suc var)) nothing rest l (on (fact_put (suc val) (place var)) T) k ≡ accepted W

module _ (place : ℕ → ℕ) (N l : ℕ) (k : Rest) (W : Tables) where
  below : (v : ℕ) (T : Tables) → T.counts.vars ≡ N → fits v 0 T.counts.vars ≡ true → v < N
  below v T e p = let h = ltb-true v T.counts.vars (sym (within_below v T.counts.vars) ∙ p) in omega arith

  none_left : {R : Type 0} (least : ℕ) (t : List ℕ) (T : Tables) → facts_from place 0 least t l T k ≡ accepted W → R
  unfolding facts_from
  none_left least t T h =
      let a = number_back 0 T.counts.vars _ t l T k W h in
      let d = demand_back false NotRising a.rest l T k W a.then.1 in
      clash d.0 refl

  fact_back : (n least : ℕ) (t : List ℕ) (T : Tables) → T.counts.vars ≡ N → facts_from place (suc n) least t l T k ≡ accepted W → OneFact place n least N t l T k W
  unfolding facts_from fact fact_put ◌▸◌ keep
  fact_back n least t T e h =
      let a = number_back 0 T.counts.vars _ t l T k W h in
      let v = a.what in
      let d = demand_back (leb least v) NotRising a.rest l T _ W a.then.1 in
      let c = lit_back (colon ∷ []) l T a.rest _ W d.1 in
      let x = number_back 0 (dom_at T.facts v) _ c.rest l T k W c.then in
      record {
        var = v;
        val = x.what;
        rest = x.rest;
        low = leb-true least v d.0;
        high = below v T e a.then.0;
        says = told (digits v) (digits x.what) t a.rest c.rest x.rest a.says c.says x.says;
        then =
            ap (λ (y : ℕ). choice comma (facts_from place n y) nothing x.rest l (put_fact (place v) (suc x.what) T) k) (sym (add-one v))
            ∙ ap (λ (y : ℕ). choice comma (facts_from place n (v + 1)) nothing x.rest l (put_fact (place v) y T) k) (sym (add-one x.what))
            ∙ x.then.1;
      }
    where
      told : (y z t u v w : List ℕ) → t ≡ y ++ u → u ≡ colon ∷ v → v ≡ z ++ w → t ≡ (y ++ colon ∷ z) ++ w
      told y z t u v w p q r = p ∙ ap (λ (s : List ℕ). y ++ s) (q ∙ ap (λ (s : List ℕ). colon ∷ s) r) ∙ sym (append_assoc y (colon ∷ z) w)

  abbrev Read : ℕ → ℕ → (Facts → List ℕ) → List ℕ → Tables → Type 0
  Read r i text t T = Back Facts text t (λ F u. k u l (on (changed (put place F) r i) T) ≡ accepted W)

  -- nothing is said
  more_none : (r i : ℕ) → more_facts (λ j. 0) r i ≡ []
  unfolding more_facts another_fact
  more_none zero i = refl
  more_none (suc r) i = more_none r (suc i)

  some_none : (r i : ℕ) → some_facts (λ j. 0) r i ≡ dash ∷ []
  unfolding some_facts first_fact
  some_none zero i = refl
  some_none (suc r) i = some_none r (suc i)

  put_none : (r i : ℕ) (w : List ℕ) → changed (put place (λ j. 0)) r i w ≡ w
  unfolding changed fact_put
  put_none zero i w = refl
  put_none (suc r) i w = put_none r (suc i) w

  -- a fact, and the facts after it
  module _ (i r : ℕ) (e : i + r ≡ N) (n : ℕ) (u : List ℕ) (T : Tables) (o : OneFact place n i N u l T k W) where
    abbrev left : ℕ
    left = N - suc o.var

    abbrev Later : Type 0
    Later = Read left (suc o.var) (λ F. more_facts F left (suc o.var)) o.rest (on (fact_put (suc o.val) (place o.var)) T)

    skipped : o.var ≡ i + (o.var - i)
    skipped = omega (arith, o.low)

    counted : r ≡ (o.var - i) + suc left
    counted = omega (arith, o.low, o.high)

    module _ (q : Later) where
      abbrev all : Facts
      all = from o.var o.val q.what

      all_put : k q.rest l (on (changed (put place all) r i) T) ≡ accepted W
      all_put =
          ap (λ (w : List ℕ). k q.rest l (on (λ x. w) T)) (put_from place i (o.var - i) o.val left o.var r q.what skipped counted T.facts) ∙ q.then

      more_joined : (t : List ℕ) → t ≡ comma ∷ u → Read r i (λ F. more_facts F r i) t T
      more_joined t p =
          record {
            what = all;
            rest = q.rest;
            says =
                p
                ∙ ap (λ (x : List ℕ). comma ∷ x) (o.says ∙ ap (λ (x : List ℕ). fact o.var o.val ++ x) q.says ∙ sym (append_assoc (fact o.var o.val) _ q.rest))
                ∙ ap (λ (x : List ℕ). x ++ q.rest) (sym (more_from place i (o.var - i) o.val left o.var r q.what skipped counted));
            then = all_put;
          }

      some_joined : Read r i (λ F. some_facts F r i) u T
      some_joined =
          record {
            what = all;
            rest = q.rest;
            says =
                o.says
                ∙ ap (λ (x : List ℕ). fact o.var o.val ++ x) q.says
                ∙ sym (append_assoc (fact o.var o.val) _ q.rest)
                ∙ ap (λ (x : List ℕ). x ++ q.rest) (sym (some_from place i (o.var - i) o.val left o.var r q.what skipped counted));
            then = all_put;
          }

  more_nothing : (least r : ℕ) (t : List ℕ) (T : Tables) → k t l T ≡ accepted W → Read r least (λ F. more_facts F r least) t T
  more_nothing least r t T q =
      record {
        what = λ j. 0;
        rest = t;
        says = ap (λ (x : List ℕ). x ++ t) (sym (more_none r least));
        then = ap (λ (w : List ℕ). k t l (on (λ x. w) T)) (put_none r least T.facts) ∙ q;
      }

  more_back : (n least r : ℕ) → least + r ≡ N → (t : List ℕ) (T : Tables) → T.counts.vars ≡ N → choice comma (facts_from place n least) nothing t l T k ≡ accepted W
      → Read r least (λ F. more_facts F r least) t T
  unfolding nothing
  more_back zero least r e t T c h =
      choice_back comma (facts_from place 0 least) nothing t l T k W h (λ u p q. none_left least u T q)
      (λ q. more_nothing least r t T q)
  more_back (suc n) least r e t T c h =
      choice_back comma (facts_from place (suc n) least) nothing t l T k W h
      (λ u p q.
      let o = fact_back n least u T c q in
      more_joined least r e n u T o (more_back n (suc o.var) (N - suc o.var) (omega (arith, o.high)) o.rest (on (fact_put (suc o.val) (place o.var)) T) c o.then) t p)
      (λ q. more_nothing least r t T q)

  some_back : (n : ℕ) (t : List ℕ) (T : Tables) → T.counts.vars ≡ N → facts_from place n 0 t l T k ≡ accepted W → Read N 0 (λ F. some_facts F N 0) t T
  some_back zero t T c h = none_left 0 t T h
  some_back (suc n) t T c h =
      let o = fact_back n 0 t T c h in
      some_joined 0 N (omega arith) n t T o (more_back n (suc o.var) (N - suc o.var) (omega (arith, o.high)) o.rest (on (fact_put (suc o.val) (place o.var)) T) c o.then)

-- A LIST OF FACTS
pub facts_back : (place : ℕ → ℕ) (N l : ℕ) (T : Tables) → T.counts.vars ≡ N → BackOf Facts (fact_list place) l l T (λ F. some_facts F N 0) (λ F. on (fact_row place F N) T)
unfolding fact_list ask fact_row nothing
facts_back place N l T c t k W h =
    choice_back dash nothing (ask (λ U. facts_from place U.counts.vars 0)) t l T k W h
    (λ u p q.
    record {
      what = λ j. 0;
      rest = u;
      says = p ∙ ap (λ (x : List ℕ). x ++ u) (sym (some_none place N l k W N 0));
      then = ap (λ (w : List ℕ). k u l (on (λ x. w) T)) (put_none place N l k W N 0 T.facts) ∙ q;
    })
    (λ q. some_back place N l k W T.counts.vars t T c q)
