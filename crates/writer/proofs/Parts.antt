-- The spelling in the parts that the writer puts down: the digits of a number, the last one alone; what is left of a word, a row, some lines and a list of facts at
-- first, after one more turn, and at the end. By the definitions of the spelling and the digit laws of the grammar. Assumes nothing.
use Prim.Native.Nat.{ℕ, zero, suc, ◌+◌, ◌-◌, ◌*◌, ◌/◌, ◌%◌, ◌≤◌, ◌<◌}
use native.Mathlib.Omega.{arith}
use mathlib.Core.Path.{◌≡◌, refl, sym, ap, ◌∙◌}
use mathlib.Core.Bool.{Bool, true, false, not, ◌||◌}
use mathlib.Core.List.{List, [], ◌∷◌, ◌++◌}
use lib.Dec.{eqb}
use lib.ListN.{length, get_or, drop}
use lib.Seq.{drop-cons}
use borrow.Author.Tests.{eq-eqb, ne_eqb}
use Rattle.meaning.specs.Limits.{quota_edition}
use Rattle.meaning.specs.Sas.{Facts}
use Rattle.grammar.specs.Fields.{dash}
use Rattle.grammar.specs.Spelling.{digits, gap, joined, numbers, stacked, fact, another_fact, more_facts, first_fact, some_facts, spelled_in, share_text}
use Rattle.grammar.proofs.Decimal.{one_digit, digits_more}
use Rattle.grammar.proofs.Editions.{second_spells, first_spells_nothing}
use Rattle.writer.specs.declared.pen.Pen.{Pen}
use Rattle.writer.specs.Inside.Pen.{Puts, facts_left, comma_if, said_of}
use Rattle.writer.proofs.Pens.{Under, begins, after, goes_on, ends}

-- n - i is n at the begin, then one more than n - (i + 1), and 0 at the end
all_left : (n : ℕ) → n - 0 ≡ n
all_left n = omega arith

less : (n i : ℕ) → i < n → n - i ≡ suc (n - (i + 1))
less n i h = omega arith

none_left : (n i : ℕ) → n ≤ i → n - i ≡ 0
none_left n i h = omega arith

next : (i : ℕ) → suc i ≡ i + 1
next i = omega arith

-- ---- a number: its last digit, and those before it if there are any

pub digit_alone : (v : ℕ) → v < 10 → (48 + v % 10) ∷ [] ≡ digits v
digit_alone v h =
    let e : v % 10 ≡ v = omega arith in
    rw e (sym (one_digit v h))

pub digit_after : (v : ℕ) → 10 ≤ v → digits (v / 10) ++ (48 + v % 10) ∷ [] ≡ digits v
digit_after v h =
    let e : 10 * (v / 10) + v % 10 ≡ v = omega arith in
    digits_more (v / 10) (v % 10) (omega arith) (omega arith) ∙ ap digits e

-- so its last two, alone and after others
pub digits_two : (v : ℕ) → 10 ≤ v → v < 100 → (48 + v / 10 % 10) ∷ [] ++ (48 + v % 10) ∷ [] ≡ digits v
digits_two v g h = ap (λ (l : List ℕ). l ++ (48 + v % 10) ∷ []) (digit_alone (v / 10) (omega arith)) ∙ digit_after v g

pub digits_more_two : (v : ℕ) → 100 ≤ v → digits (v / 100) ++ (48 + v / 10 % 10) ∷ [] ++ (48 + v % 10) ∷ [] ≡ digits v
digits_more_two v g =
    let e : v / 100 ≡ v / 10 / 10 = omega arith in
    ap (λ (k : ℕ). digits k ++ (48 + v / 10 % 10) ∷ [] ++ (48 + v % 10) ∷ []) e
    ∙ ap (λ (l : List ℕ). l ++ (48 + v % 10) ∷ []) (digit_after (v / 10) (omega arith))
    ∙ digit_after v (omega arith)

-- ---- a word

pub word_turn : (s : List ℕ) (i : ℕ) → i < length s → drop i s ≡ get_or s i 0 ∷ [] ++ drop (i + 1) s
word_turn s i h = drop-cons s i 0 h ∙ ap (λ (k : ℕ). get_or s i 0 ∷ drop k s) (next i)

-- ---- things parted by a mark

pub gap_none : (mark n : ℕ) → n ≡ 0 → [] ≡ gap mark n
unfolding gap
gap_none mark n e = rw e refl

pub gap_some : (mark n : ℕ) → (n ≡ 0 → ⊥) → mark ∷ [] ≡ gap mark n
unfolding gap
gap_some mark zero h = absurd (h refl)
gap_some mark (suc n) h = refl

-- a row under way from p to q: of n things, those from the i-th on are left
abbrev pub RowUnder : ℕ → (ℕ → List ℕ) → ℕ → Pen → ℕ → Pen → Type 0
RowUnder mark f n p i q = Under p (joined mark f n 0) (joined mark f (n - i) i) q

module _ (mark : ℕ) (f : ℕ → List ℕ) (n : ℕ) where
  pub row_begins : (p : Pen) → RowUnder mark f n p 0 p
  row_begins p = begins p (rw (all_left n) refl)

  joined_turn : (i : ℕ) → i < n → joined mark f (n - i) i ≡ (f i ++ gap mark (n - i - 1)) ++ joined mark f (n - (i + 1)) (i + 1)
  unfolding joined
  joined_turn i h =
      let e : n - i - 1 ≡ n - (i + 1) = omega arith in
      rw e (rw (less n i h) (rw (next i) refl))

  -- the thing, and the mark if more come
  pub row_goes_on : {p q r s : Pen} (i : ℕ) → RowUnder mark f n p i q → i < n → Puts q (f i) r → Puts r (gap mark (n - i - 1)) s → RowUnder mark f n p (i + 1) s
  row_goes_on i u h d e = goes_on u (joined_turn i h) (after d e)

  joined_over : (i : ℕ) → n ≤ i → joined mark f (n - i) i ≡ []
  unfolding joined
  joined_over i h = rw (none_left n i h) refl

  pub row_ends : {p q : Pen} (i : ℕ) → RowUnder mark f n p i q → n ≤ i → Puts p (joined mark f n 0) q
  row_ends i u h = ends u (joined_over i h)

-- what a map charges: a dash exactly if there are no operators
pub shares_none : (share : ℕ → ℕ) (n : ℕ) → n ≡ 0 → dash ∷ [] ≡ share_text share n
unfolding share_text
shares_none share n e = rw e refl

pub shares_some : (share : ℕ → ℕ) (n : ℕ) → (n ≡ 0 → ⊥) → numbers share n ≡ share_text share n
unfolding share_text
shares_some share zero h = absurd (h refl)
shares_some share (suc n) h = refl

-- what edition 2 alone has
pub second_spelled : (e : ℕ) (x y : List ℕ) → e ≡ quota_edition → x ≡ y → x ≡ spelled_in e y
second_spelled e x y h q = q ∙ sym (second_spells e y (eq-eqb e quota_edition h))

pub first_spelled : (e : ℕ) (y : List ℕ) → (e ≡ quota_edition → ⊥) → [] ≡ spelled_in e y
first_spelled e y h = sym (first_spells_nothing e y (ne_eqb e quota_edition h))

-- ---- lines

-- lines under way, as a row is
abbrev pub LinesUnder : (ℕ → List ℕ) → ℕ → Pen → ℕ → Pen → Type 0
LinesUnder f n p i q = Under p (stacked f n 0) (stacked f (n - i) i) q

module _ (f : ℕ → List ℕ) (n : ℕ) where
  pub lines_begin : (p : Pen) → LinesUnder f n p 0 p
  lines_begin p = begins p (rw (all_left n) refl)

  stacked_turn : (i : ℕ) → i < n → stacked f (n - i) i ≡ f i ++ stacked f (n - (i + 1)) (i + 1)
  unfolding stacked
  stacked_turn i h = rw (less n i h) (rw (next i) refl)

  pub lines_go_on : {p q r : Pen} (i : ℕ) → LinesUnder f n p i q → i < n → Puts q (f i) r → LinesUnder f n p (i + 1) r
  lines_go_on i u h e = goes_on u (stacked_turn i h) e

  stacked_over : (i : ℕ) → n ≤ i → stacked f (n - i) i ≡ []
  unfolding stacked
  stacked_over i h = rw (none_left n i h) refl

  pub lines_end : {p q : Pen} (i : ℕ) → LinesUnder f n p i q → n ≤ i → Puts p (stacked f n 0) q
  lines_end i u h = ends u (stacked_over i h)

-- ---- facts

-- what is said of a variable
pub said_none : (some : Bool) (k v : ℕ) → ¬ (1 ≤ k) → [] ≡ said_of some k v
unfolding said_of
said_none some zero v h = refl
said_none some (suc k) v h = absurd (omega (arith, h))

pub said_some : (some : Bool) (k v x : ℕ) → 1 ≤ k → x ≡ k - 1 → comma_if some ++ fact v x ≡ said_of some k v
unfolding said_of
said_some some zero v x h e = absurd (omega arith)
said_some some (suc k) v x h e = ap (λ (y : ℕ). comma_if some ++ fact v y) (omega arith)

-- once some facts are written, each comes after a comma
more_turn : (F : Facts) (n v k : ℕ) → F v ≡ k → more_facts F (suc n) v ≡ said_of true k v ++ more_facts F n (suc v)
unfolding more_facts another_fact said_of comma_if
more_turn F n v zero e = rw e refl
more_turn F n v (suc k) e = rw e refl

-- before that, the first has none
some_turn : (F : Facts) (n v k : ℕ) → F v ≡ k → some_facts F (suc n) v ≡ said_of false k v ++ facts_left (not (eqb k 0)) F n (suc v)
unfolding some_facts first_fact said_of comma_if facts_left
some_turn F n v zero e = rw e refl
some_turn F n v (suc k) e = rw (e, ne_eqb (suc k) 0 (λ z. omega arith)) refl

pub facts_whole : (F : Facts) (n : ℕ) → facts_left false F (n - 0) 0 ≡ some_facts F n 0
unfolding facts_left
facts_whole F n = rw (all_left n) refl

module _ (F : Facts) (n v : ℕ) where
  pub facts_turn : (some : Bool) → v < n → facts_left some F (n - v) v ≡ said_of some (F v) v ++ facts_left (some || not (eqb (F v) 0)) F (n - (v + 1)) (v + 1)
  unfolding facts_left
  facts_turn true h = rw (less n v h) (more_turn F (n - (v + 1)) v (F v) refl ∙ ap (λ (k : ℕ). said_of true (F v) v ++ facts_left true F (n - (v + 1)) k) (next v))
  facts_turn false h = rw (less n v h) (some_turn F (n - (v + 1)) v (F v) refl ∙ ap (λ (k : ℕ). said_of false (F v) v ++ facts_left (not (eqb (F v) 0)) F (n - (v + 1)) k) (next v))

  pub facts_over : n ≤ v → facts_left true F (n - v) v ≡ []
  unfolding facts_left more_facts
  facts_over h = rw (none_left n v h) refl

  -- a list without a fact is a dash
  pub facts_none : n ≤ v → facts_left false F (n - v) v ≡ dash ∷ []
  unfolding facts_left some_facts
  facts_none h = rw (none_left n v h) refl
