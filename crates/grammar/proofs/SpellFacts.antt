-- A list of facts on what is spelled, before anything with which it doesn't go on: the rule of each variable that is named, and the facts in their places;
-- by induction on the variables still to come. And on any text: a variable that doesn't rise, or is the one before, is told before its colon. Assumes nothing.
use Prim.Native.Nat.{ℕ, zero, suc, ◌+◌, ◌≤◌, ◌<◌}
use native.Mathlib.Omega.{arith}
use native.Mathlib.Numerals.{add-one}
use mathlib.Core.Path.{◌≡◌, refl, sym, ap, ◌∙◌}
use mathlib.Core.List.{List, [], ◌∷◌, ◌++◌, append_assoc}
use mathlib.Core.Bool.{Bool, true, false}
use lib.Dec.{eqb, leb, ltb, leb-suc-suc}
use lib.ListN.{set}
use lib.Seq.{get_or-set_other}
use borrow.Author.Tests.{ne_eqb, le-leb, lt-leb, lt-ltb}
use Rattle.scan.specs.Found.{Found}
use Rattle.refusals.specs.declared.Refusal.{Refusal}
use Rattle.refusals.specs.declared.Refusal.TheVariants.{OutOfRange, NotRising}
use Rattle.meaning.specs.Limits.{most_vars}
use Rattle.meaning.specs.Sas.{Facts}
use Rattle.tables.specs.Layout.{Tables, dom_place, dom_at}
use Rattle.scan.specs.Scan.{unless, ◌then◌, each}
use Rattle.grammar.specs.Fields.{is_digit, comma, dash, colon}
use Rattle.grammar.specs.Grammar.{Verdict, refused, Rest, Part, ◌▸◌, nothing, ask, keep, demand, lit, choice, fits, numeral, put_fact, facts_from, fact_list}
use Rattle.grammar.specs.Spelling.{digits, fact, another_fact, more_facts, first_fact, some_facts, changed, row_put, fact_put, fact_row, mark_put}
use Rattle.grammar.proofs.Editions.{put_either}
use Rattle.grammar.proofs.Runs.{Stop, nil, other}
use Rattle.grammar.proofs.Decimal.{Head, head, digits_head}
use Rattle.grammar.proofs.SpellParts.{judged, next, Told, demand_told, lit_told, number_told, comma_no_digit}

-- a range from 0 on: below a number, and up to one
pub within_below : (v n : ℕ) → fits v 0 n ≡ ltb v n
unfolding fits
within_below v n = simp (le-leb 0 v (omega arith))

pub within_most : (v most : ℕ) → fits v 0 (suc most) ≡ leb v most
within_most v most = within_below v (suc most) ∙ leb-suc-suc v most

colon_no_digit : is_digit colon ≡ false
unfolding is_digit
colon_no_digit = refl

-- a rule that holds
pub passed : (r : Refusal) (A : Verdict) {c : Bool} → c ≡ true → judged (unless c r) A ≡ A
passed r A p = rw p

unsaid : (r : Refusal) (g : Found) (A : Verdict) (d : ℕ) → judged (unless (leb 0 d) r then g) A ≡ judged g A
unsaid r g A d = rw (le-leb 0 d (omega arith)) refl

-- 4 BEFORE ALL ELSE OF A FACT: whatever stands after the variable
pub order_first : (place : ℕ → ℕ) (n least v : ℕ) (u : List ℕ) (l : ℕ) (T : Tables) (k : Rest) → Stop u → v < T.counts.vars → v < least
    → facts_from place n least (digits v ++ u) l T k ≡ refused (NotRising l)
unfolding facts_from ◌▸◌ demand
order_first place zero least v u l T k s a b =
    number_told 0 T.counts.vars v _ u l T k s ∙ passed _ _ (within_below v T.counts.vars ∙ lt-ltb v T.counts.vars a)
order_first place (suc n) least v u l T k s a b =
    number_told 0 T.counts.vars v _ u l T k s
    ∙ passed _ _ (within_below v T.counts.vars ∙ lt-ltb v T.counts.vars a)
    ∙ rw (lt-leb least v b) refl

-- an equal variable too: after a fact of v another of v is 4, whatever stands after it
pub equal_told : (place : ℕ → ℕ) (n least v x : ℕ) (u : List ℕ) (l : ℕ) (T : Tables) (k : Rest)
    → Stop u → least ≤ v → v < T.counts.vars → x < dom_at T.facts v
    → facts_from place (suc n) least (digits v ++ colon ∷ (digits x ++ comma ∷ (digits v ++ u))) l T k ≡ refused (NotRising l)
unfolding facts_from ◌▸◌ keep choice
equal_told place n least v x u l T k s p a b =
    let again = comma ∷ (digits v ++ u) in
    number_told 0 T.counts.vars v _ (colon ∷ (digits x ++ again)) l T k (other colon_no_digit)
    ∙ passed _ _ (within_below v T.counts.vars ∙ lt-ltb v T.counts.vars a)
    ∙ demand_told (leb least v) NotRising (colon ∷ (digits x ++ again)) l T _
    ∙ passed _ _ (le-leb least v p)
    ∙ lit_told (colon ∷ []) (digits x ++ again) l T _
    ∙ number_told 0 (dom_at T.facts v) x _ again l T k (other comma_no_digit)
    ∙ passed _ _ (within_below x (dom_at T.facts v) ∙ lt-ltb x (dom_at T.facts v) b)
    ∙ order_first place n (v + 1) v u l (put_fact (place v) (x + 1) T) k s a (omega arith)

-- the tables with other facts
abbrev pub on : (List ℕ → List ℕ) → Tables → Tables
on g T = record { counts = T.counts; facts = g T.facts; costs = T.costs; shares = T.shares }

pub on_changed : (g : ℕ → List ℕ → List ℕ) (n i : ℕ) (T : Tables) → changed (λ j. on (g j)) n i T ≡ on (changed g n i) T
unfolding changed
on_changed g zero i T = refl
on_changed g (suc n) i T = on_changed g n (suc i) (on (g i) T)

-- what the tables so far say of the variables
pub record Knows (n : ℕ) (dom : ℕ → ℕ) (T : Tables) : Type 0 where
  pub vars : T.counts.vars ≡ n
  pub few : n ≤ most_vars
  pub doms : (v : ℕ) → v < n → dom_at T.facts v ≡ dom v

pub knows_set : {n : ℕ} {dom : ℕ → ℕ} (T : Tables) (i x : ℕ) → most_vars ≤ i → Knows n dom T → Knows n dom (put_fact i x T)
knows_set T i x h q =
    let f = q.few in
    record { vars = q.vars; few = q.few; doms = λ v l. get_or-set_other T.facts i (dom_place v) x 0 (λ z. omega arith) ∙ q.doms v l }

pub knows_said : {n : ℕ} {dom : ℕ → ℕ} (T : Tables) (k i : ℕ) → most_vars ≤ i → Knows n dom T → Knows n dom (on (fact_put k i) T)
unfolding fact_put
knows_said T zero i h q = q
knows_said T (suc k) i h q = knows_set T i (suc k) h q

pub knows_mark : {n : ℕ} {dom : ℕ → ℕ} (T : Tables) (e i x : ℕ) → most_vars ≤ i → Knows n dom T → Knows n dom (on (mark_put e i x) T)
knows_mark {n = n} {dom = dom} T e i x h q =
    put_either e i x T.facts (λ w. Knows n dom (on (λ v. w) T)) (λ s. knows_set T i x h q) (λ f. q)

module _ {n : ℕ} {dom : ℕ → ℕ} where
  pub knows_changed : (g : ℕ → List ℕ → List ℕ) → ((j : ℕ) (T : Tables) → Knows n dom T → Knows n dom (on (g j) T)) → (k i : ℕ) (T : Tables) → Knows n dom T
      → Knows n dom (on (changed g k i) T)
  unfolding changed
  knows_changed g h zero i T w = w
  knows_changed g h (suc k) i T w = knows_changed g h k (suc i) (on (g i) T) (h i T w)

  pub knows_row : (place f : ℕ → ℕ) → ((j : ℕ) → most_vars ≤ place j) → (k : ℕ) (T : Tables) → Knows n dom T → Knows n dom (on (row_put place f k) T)
  unfolding row_put
  knows_row place f high k T w = knows_changed (λ i x. set x (place i) (f i)) (λ j U. knows_set U (place j) (f j) (high j)) k 0 T w

  pub knows_facts : (place : ℕ → ℕ) (F : Facts) → ((j : ℕ) → most_vars ≤ place j) → (k : ℕ) (T : Tables) → Knows n dom T → Knows n dom (on (fact_row place F k) T)
  unfolding fact_row
  knows_facts place F high k T w = knows_changed (λ v. fact_put (F v) (place v)) (λ j U. knows_said U (F j) (place j) (high j)) k 0 T w

-- where a list of facts is over: the text ends, or goes on with a byte that is neither a digit nor a comma
pub data Over : List ℕ → Type 0 where
  at_end : Over []
  at_byte : {b : ℕ} {t : List ℕ} → is_digit b ≡ false → eqb b comma ≡ false → Over (b ∷ t)

pub over_stop : {u : List ℕ} → Over u → Stop u
over_stop at_end = nil
over_stop (at_byte d c) = other d

-- no fact more is read there
over_told : {u : List ℕ} → Over u → (more : Part) (l : ℕ) (T : Tables) (k : Rest) → choice comma more nothing u l T k ≡ k u l T
unfolding choice nothing
over_told at_end more l T k = refl
over_told (at_byte d c) more l T k = rw c refl

-- the rule of a list of facts
abbrev pub fact_rule : (ℕ → ℕ) → Facts → ℕ → ℕ → Found
fact_rule dom F l v = unless (leb (F v) (dom v)) (OutOfRange l)

module _ (place : ℕ → ℕ) (high : (v : ℕ) → most_vars ≤ place v) (F : Facts) (dom : ℕ → ℕ) (N : ℕ) (rest : List ℕ) (e : Over rest) (l : ℕ) where
  -- one fact
  fact_told : (m least v k : ℕ) (u : List ℕ) (T : Tables) (go : Rest) → Stop u → least ≤ v → v < N → Knows N dom T
      → facts_from place (suc m) least (fact v k ++ u) l T go
      ≡ judged (unless (leb (suc k) (dom v)) (OutOfRange l)) (choice comma (facts_from place m (suc v)) nothing u l (on (fact_put (suc k) (place v)) T) go)
  unfolding facts_from fact fact_put ◌▸◌ keep
  fact_told m least v k u T go s p q w =
      let inner : (x : ℕ) → Part = λ x. keep (put_fact (place v) (x + 1)) ▸ choice comma (facts_from place m (v + 1)) nothing in
      let outer : (x : ℕ) → Part = λ x. demand (leb least x) NotRising ▸ lit (colon ∷ [])
      ▸ numeral 0 (dom_at T.facts x) (λ y. keep (put_fact (place x) (y + 1)) ▸ choice comma (facts_from place m (x + 1)) nothing) in
      ap (λ (xs : List ℕ). facts_from place (suc m) least xs l T go) (append_assoc (digits v) (colon ∷ digits k) u)
      ∙ number_told 0 T.counts.vars v outer (colon ∷ (digits k ++ u)) l T go (other colon_no_digit)
      ∙ passed _ _ (within_below v T.counts.vars ∙ lt-ltb v T.counts.vars (omega (arith, w.vars)))
      ∙ demand_told (leb least v) NotRising (colon ∷ (digits k ++ u)) l T _
      ∙ passed _ _ (le-leb least v p)
      ∙ lit_told (colon ∷ []) (digits k ++ u) l T _
      ∙ number_told 0 (dom_at T.facts v) k inner u l T go s
      ∙ ap (λ (y : Bool). judged (unless y (OutOfRange l)) (inner k u l T go)) (within_below k (dom_at T.facts v) ∙ ap (ltb k) (w.doms v q))
      ∙ ap (λ (y : ℕ). judged (unless (ltb k (dom v)) (OutOfRange l)) (choice comma (facts_from place m (v + 1)) nothing u l (put_fact (place v) y T) go)) (add-one k)
      ∙ ap (λ (y : ℕ). judged (unless (ltb k (dom v)) (OutOfRange l)) (choice comma (facts_from place m y) nothing u l (put_fact (place v) (suc k) T) go)) (add-one v)

  -- the facts after the first
  abbrev MoreTold : ℕ → ℕ → Type 0
  MoreTold n v = (m least : ℕ) → n ≤ m → least ≤ v → (T : Tables) → Knows N dom T
      → Told (choice comma (facts_from place m least) nothing) (more_facts F n v) rest l T (each (fact_rule dom F l) n v) (on (changed (λ v. fact_put (F v) (place v)) n v) T)

  stop_another : (x v : ℕ) (u : List ℕ) → Stop u → Stop (another_fact x v ++ u)
  unfolding another_fact is_digit
  stop_another zero v u s = s
  stop_another (suc k) v u s = other refl

  stop_more : (n v : ℕ) → Stop (more_facts F n v ++ rest)
  unfolding more_facts
  stop_more zero v = over_stop e
  stop_more (suc n) v = rw (append_assoc (another_fact (F v) v) (more_facts F n (suc v)) rest) (stop_another (F v) v _ (stop_more n (suc v)))

  more_next : (n v : ℕ) → MoreTold n (suc v) → v + suc n ≡ N → (x m least : ℕ) → suc n ≤ m → least ≤ v → (T : Tables) → Knows N dom T → (k : Rest)
      → choice comma (facts_from place m least) nothing ((another_fact x v ++ more_facts F n (suc v)) ++ rest) l T k
      ≡ judged (unless (leb x (dom v)) (OutOfRange l) then each (fact_rule dom F l) n (suc v)) (k rest l (on (changed (λ v. fact_put (F v) (place v)) n (suc v)) (on (fact_put x (place v)) T)))
  unfolding choice another_fact fact_put
  more_next n v ih r zero m least p q T w k =
      ih m least (omega arith) (omega arith) T w k
      ∙ sym (unsaid (OutOfRange l) _ _ (dom v))
  more_next n v ih r (suc x) zero least p q T w k = absurd (let z : ⊥ = omega arith in z)
  more_next n v ih r (suc x) (suc m) least p q T w k =
      next (unless (leb (suc x) (dom v)) (OutOfRange l)) (each (fact_rule dom F l) n (suc v)) _
      (ap (λ (xs : List ℕ). facts_from place (suc m) least xs l T k) (append_assoc (fact v x) (more_facts F n (suc v)) rest)
      ∙ fact_told m least v x (more_facts F n (suc v) ++ rest) T k (stop_more n (suc v)) q (omega arith) w)
      (λ c. ih m (suc v) (omega arith) (omega arith) (on (fact_put (suc x) (place v)) T) (knows_said T (suc x) (place v) (high v) w) k)

  more_told : (n v : ℕ) → v + n ≡ N → MoreTold n v
  unfolding more_facts each changed
  more_told zero v r m least p q T w k = over_told e (facts_from place m least) l T k
  more_told (suc n) v r m least p q T w k = more_next n v (more_told n (suc v) (omega arith)) r (F v) m least p q T w k

  -- a digit is no dash
  not_dash : {xs : List ℕ} (p q : Part) → Head xs → (u : List ℕ) (T : Tables) (k : Rest) → choice dash p q (xs ++ u) l T k ≡ q (xs ++ u) l T k
  unfolding choice
  not_dash p q (head {b = c} x y) u T k = rw (ne_eqb c dash (λ z. omega arith)) refl

  begun : (v x : ℕ) (u : List ℕ) (T : Tables) (k : Rest) → fact_list place (fact v x ++ u) l T k ≡ facts_from place T.counts.vars 0 (fact v x ++ u) l T k
  unfolding fact_list ask fact
  begun v x u T k = rw (append_assoc (digits v) (colon ∷ digits x) u) (not_dash nothing _ (digits_head v) (colon ∷ digits x ++ u) T k)

  abbrev SomeTold : ℕ → ℕ → Type 0
  SomeTold n v = (T : Tables) → Knows N dom T
      → Told (fact_list place) (some_facts F n v) rest l T (each (fact_rule dom F l) n v) (on (changed (λ v. fact_put (F v) (place v)) n v) T)

  some_next : (n v : ℕ) → SomeTold n (suc v) → v + suc n ≡ N → (x : ℕ) (T : Tables) → Knows N dom T → (k : Rest)
      → fact_list place (first_fact x v (more_facts F n (suc v)) (some_facts F n (suc v)) ++ rest) l T k
      ≡ judged (unless (leb x (dom v)) (OutOfRange l) then each (fact_rule dom F l) n (suc v)) (k rest l (on (changed (λ v. fact_put (F v) (place v)) n (suc v)) (on (fact_put x (place v)) T)))
  unfolding first_fact fact_put
  some_next n v ih r zero T w k =
      ih T w k
      ∙ sym (unsaid (OutOfRange l) _ _ (dom v))
  some_next n v ih r (suc x) T w k =
      next (unless (leb (suc x) (dom v)) (OutOfRange l)) (each (fact_rule dom F l) n (suc v)) _
      (ap (λ (xs : List ℕ). fact_list place xs l T k) (append_assoc (fact v x) (more_facts F n (suc v)) rest)
      ∙ begun v x (more_facts F n (suc v) ++ rest) T k
      ∙ ap (λ (m : ℕ). facts_from place m 0 (fact v x ++ (more_facts F n (suc v) ++ rest)) l T k) (w.vars ∙ size)
      ∙ fact_told (v + n) 0 v x (more_facts F n (suc v) ++ rest) T k (stop_more n (suc v)) (omega arith) (omega arith) w)
      (λ c. more_told n (suc v) (omega arith) (v + n) (suc v) (omega arith) (omega arith) (on (fact_put (suc x) (place v)) T) (knows_said T (suc x) (place v) (high v) w) k)
    where
      size : N ≡ suc (v + n)
      size = omega arith

  -- A LIST OF FACTS
  some_told : (n v : ℕ) → v + n ≡ N → SomeTold n v
  unfolding fact_list choice nothing some_facts each changed
  some_told zero v r T w k = refl
  some_told (suc n) v r T w k = some_next n v (some_told n (suc v) (omega arith)) r (F v) T w k

  pub facts_told : (T : Tables) → Knows N dom T
      → Told (fact_list place) (some_facts F N 0) rest l T (each (fact_rule dom F l) N 0) (on (fact_row place F N) T)
  unfolding fact_row
  facts_told T w = some_told N 0 (omega arith) T w
