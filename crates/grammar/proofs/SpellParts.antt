-- Parts of the text on what is spelled: each reads it, and says what the scan says of the same numbers: a number, a row, a line, several lines.
-- By induction on the numbers or lines still to come. Assumes nothing.
use Prim.Native.Nat.{ℕ, zero, suc, ◌+◌, ◌≤◌, ◌<◌}
use Prim.Native.String.{String}
use native.Mathlib.Omega.{arith}
use native.Mathlib.Numerals.{add-one}
use native.Mathlib.Nat.{add-zero, zero-add}
use mathlib.Core.Path.{◌≡◌, refl, sym, ap, ap₂, ◌∙◌, subst}
use mathlib.Core.List.{List, [], ◌∷◌, ◌++◌, append_assoc}
use mathlib.Core.Bool.{Bool, true, false}
use borrow.Author.Tests.{eq-eqb}
use Rattle.std.specs.Prelude.{Ok, Err}
use Rattle.scan.specs.Found.{Found, clean}
use Rattle.refusals.specs.declared.Refusal.{Refusal}
use Rattle.refusals.specs.declared.Refusal.TheVariants.{OutOfRange}
use Rattle.tables.specs.Layout.{Tables}
use Rattle.scan.specs.Scan.{unless, ◌then◌, each}
use Rattle.grammar.specs.Fields.{is_digit, bytes_of, line_end, comma}
use Rattle.grammar.specs.Grammar.{Verdict, refused, Rest, Part, ◌▸◌, ask, keep, demand, lit, fits, numeral, parted, number_row, end_of_line, text_line, text_lines}
use Rattle.grammar.specs.Spelling.{digits, gap, joined, keyed, stacked, changed}
use Rattle.grammar.proofs.Runs.{Stop, other}
use Rattle.grammar.proofs.Decimal.{digits_read}

-- the verdict where a rule comes first
abbrev pub judged : Found → Verdict → Verdict
judged (Ok tt) A = A
judged (Err r) A = refused r

-- by what the rule is found to be
pub judged_by : {f g : Found} (A : Verdict) → f ≡ g → judged f A ≡ judged g A
judged_by A e = ap (λ (f : Found). judged f A) e

-- what follows counts only if the rule holds
pub judged_on : (f : Found) {A B : Verdict} → (f ≡ clean → A ≡ B) → judged f A ≡ judged f B
judged_on (Ok tt) h = h refl
judged_on (Err r) h = refl

pub judged_then : (f g : Found) (A : Verdict) → judged (f then g) A ≡ judged f (judged g A)
judged_then (Ok tt) g A = refl
judged_then (Err r) g A = refl

-- one rule, and then, if it holds, another
pub next : {A B : Verdict} (f g : Found) (C : Verdict) → A ≡ judged f B → (f ≡ clean → B ≡ judged g C) → A ≡ judged (f then g) C
next f g C p q = p ∙ judged_on f q ∙ sym (judged_then f g C)

-- the part p on xs and what follows it: the rule f, and if it holds what follows goes on with the tables U
abbrev pub Told : Part → List ℕ → List ℕ → ℕ → Tables → Found → Tables → Type 0
Told p xs rest l T f U = (k : Rest) → p (xs ++ rest) l T k ≡ judged f (k rest l U)

-- a whole line: what follows stands in the next
abbrev pub ToldLine : Part → List ℕ → List ℕ → ℕ → Tables → Found → Tables → Type 0
ToldLine p xs rest l T f U = (k : Rest) → p (xs ++ rest) l T k ≡ judged f (k rest (l + 1) U)

-- one part after another
pub both_told : (p q : Part) (xs ys rest : List ℕ) (l : ℕ) (T U W : Tables) (f g : Found) → Told p xs (ys ++ rest) l T f U → Told q ys rest l U g W
    → Told (p ▸ q) (xs ++ ys) rest l T (f then g) W
unfolding ◌▸◌
both_told p q xs ys rest l T U W f g a b k =
    next f g _ (ap (λ (t : List ℕ). p t l T (λ u m X. q u m X k)) (append_assoc xs ys rest) ∙ a (λ u m X. q u m X k)) (λ c. b k)

pub demand_told : (b : Bool) (r : ℕ → Refusal) (t : List ℕ) (l : ℕ) (T : Tables) (k : Rest) → demand b r t l T k ≡ judged (unless b (r l)) (k t l T)
unfolding demand
demand_told true r t l T k = refl
demand_told false r t l T k = refl

-- what is demanded of the tables so far, where it says the same of the task
pub asked_told : (test : Tables → Bool) (r : ℕ → Refusal) (b : Bool) (t : List ℕ) (l : ℕ) (T : Tables) (k : Rest) → test T ≡ b
    → ask (λ U. demand (test U) r) t l T k ≡ judged (unless b (r l)) (k t l T)
unfolding ask
asked_told test r b t l T k e = demand_told (test T) r t l T k ∙ ap (λ (c : Bool). judged (unless c (r l)) (k t l T)) e

pub lit_told : (bs t : List ℕ) (l : ℕ) (T : Tables) (k : Rest) → lit bs (bs ++ t) l T k ≡ k t l T
unfolding lit ◌▸◌ demand
lit_told [] t l T k = refl
lit_told (b ∷ bs) t l T k = rw (eq-eqb b b refl) (lit_told bs t l T k)

-- A NUMBER, however large, is judged before anything that follows it, and where the text ends with it too
pub number_told : (least limit v : ℕ) (p : ℕ → Part) (u : List ℕ) (l : ℕ) (T : Tables) (k : Rest) → Stop u
    → numeral least limit p (digits v ++ u) l T k ≡ judged (unless (fits v least limit) (OutOfRange l)) (p v u l T k)
unfolding numeral ◌▸◌ demand
number_told least limit v p u l T k s =
    let r = digits_read v u s in
    rw (r.form, r.says, r.rest) (demand_told (fits v least limit) OutOfRange u l T (λ u₁ m U. p v u₁ m U k))

pub parted_told : (n mark : ℕ) (u : List ℕ) (l : ℕ) (T : Tables) (k : Rest) → parted n mark (gap mark n ++ u) l T k ≡ k u l T
unfolding parted gap
parted_told zero mark u l T k = refl
parted_told (suc n) mark u l T k = lit_told (mark ∷ []) u l T k

pub comma_no_digit : is_digit comma ≡ false
unfolding is_digit
comma_no_digit = refl

pub stop_gap : (n : ℕ) (xs u : List ℕ) → Stop u → (n ≡ 0 → xs ≡ []) → Stop (gap comma n ++ (xs ++ u))
unfolding gap
stop_gap zero xs u s e = rw (e refl) s
stop_gap (suc n) xs u s e = other comma_no_digit

pub joined_none : (mark : ℕ) (f : ℕ → List ℕ) (n i : ℕ) → n ≡ 0 → joined mark f n i ≡ []
unfolding joined
joined_none mark f zero i e = refl
joined_none mark f (suc n) i e = absurd (let z : ⊥ = omega arith in z)

-- the text of a row, taken apart
pub joined_front : (mark : ℕ) (f : ℕ → List ℕ) (n i : ℕ) (u : List ℕ) → joined mark f (suc n) i ++ u ≡ f i ++ (gap mark n ++ (joined mark f n (suc i) ++ u))
unfolding joined
joined_front mark f n i u = simp append_assoc

-- A ROW of numbers, each with its test
module _ (least : ℕ) (limit : ℕ → Tables → ℕ) (put : ℕ → ℕ → Tables → Tables) (f : ℕ → ℕ) (test : ℕ → Bool) (P : Tables → Type 0) (N : ℕ)
    (keeps : (i : ℕ) (T : Tables) → i < N → P T → P (put i (f i) T))
    (tests : (i : ℕ) (T : Tables) → i < N → P T → fits (f i) least (limit i T) ≡ test i) where
  pub row_told : (n i : ℕ) → i + n ≡ N → (rest : List ℕ) → Stop rest → (l : ℕ) (T : Tables) → P T
      → Told (number_row least limit put n i) (joined comma (λ j. digits (f j)) n i) rest l T (each (λ j. unless (test j) (OutOfRange l)) n i) (changed (λ j. put j (f j)) n i T)
  unfolding number_row each changed ◌▸◌ keep
  row_told zero i e rest s l T p k = rw (joined_none comma (λ j. digits (f j)) 0 i refl) refl
  row_told (suc n) i e rest s l T p k =
      let tail = joined comma (λ j. digits (f j)) n (suc i) in
      let U = put i (f i) T in
      next {B = parted n comma (gap comma n ++ (tail ++ rest)) l U (λ u m W. number_row least limit put n (i + 1) u m W k)}
      (unless (test i) (OutOfRange l)) (each (λ j. unless (test j) (OutOfRange l)) n (suc i)) _
      (ap (λ (t : List ℕ). number_row least limit put (suc n) i t l T k) (joined_front comma (λ j. digits (f j)) n i rest)
      ∙ number_told least (limit i T) (f i) _ (gap comma n ++ (tail ++ rest)) l T k (stop_gap n tail rest s (joined_none comma (λ j. digits (f j)) n (suc i)))
      ∙ rw (tests i T (omega arith) p) refl)
      (λ q. parted_told n comma (tail ++ rest) l U _
      ∙ ap (λ (x : ℕ). number_row least limit put n x (tail ++ rest) l U k) (add-one i)
      ∙ row_told n (suc i) (omega arith) rest s l U (keeps i T (omega arith) p) k)

-- A LINE
pub end_told_lem : (rest : List ℕ) (l : ℕ) (T : Tables) (k : Rest) → end_of_line (line_end ∷ rest) l T k ≡ k rest (l + 1) T
unfolding end_of_line ◌▸◌
end_told_lem rest l T k = lit_told (line_end ∷ []) rest l T _

pub line_told : (key : String) (p : Part) (xs rest : List ℕ) (l : ℕ) (T U : Tables) (f : Found) → Told p xs (line_end ∷ rest) l T f U
    → ToldLine (text_line key p) (keyed key xs) rest l T f U
unfolding text_line keyed ◌▸◌
line_told key p xs rest l T U f h k =
    let e : ((bytes_of key ++ xs) ++ line_end ∷ []) ++ rest ≡ bytes_of key ++ (xs ++ line_end ∷ rest) = simp append_assoc in
    ap (λ (t : List ℕ). text_line key p t l T k) e
    ∙ lit_told (bytes_of key) (xs ++ line_end ∷ rest) l T _
    ∙ h _
    ∙ ap (judged f) (end_told_lem rest l U k)

-- SEVERAL LINES, each with its rule; the i-th stands in line `line i`, and P i is what it needs of the tables before it
module _ (p : ℕ → Part) (text : ℕ → List ℕ) (rule : ℕ → Found) (change : ℕ → Tables → Tables) (P : ℕ → Tables → Type 0) (N : ℕ) (line : ℕ → ℕ)
    (up : (i : ℕ) → line i + 1 ≡ line (suc i)) (keeps : (i : ℕ) (T : Tables) → i < N → P i T → P (suc i) (change i T))
    (told : (i : ℕ) (T : Tables) (rest : List ℕ) → i < N → P i T → ToldLine (p i) (text i) rest (line i) T (rule i) (change i T)) where
  -- n lines from the i-th on, and m more that follow them
  lines_from : (n m i : ℕ) → i + n ≤ N → (rest : List ℕ) (T : Tables) → P i T → (k : Rest)
      → text_lines p (n + m) i (stacked text n i ++ rest) (line i) T k ≡ judged (each rule n i) (text_lines p m (i + n) rest (line (i + n)) (changed change n i T) k)
  unfolding text_lines stacked each changed ◌▸◌
  lines_from zero m i e rest T pT k =
      ap₂ (λ (x y : ℕ). text_lines p x y rest (line y) T k) (zero-add m) (sym (add-zero i))
  lines_from (suc n) m i e rest T pT k =
      let one : suc n + m ≡ suc (n + m) = omega arith in
      let on : suc i + n ≡ i + suc n = omega arith in
      next (rule i) (each rule n (suc i)) _
      (ap₂ (λ (x : ℕ) (t : List ℕ). text_lines p x i t (line i) T k) one (append_assoc (text i) (stacked text n (suc i)) rest)
      ∙ told i T (stacked text n (suc i) ++ rest) (omega arith) pT (λ u l U. text_lines p (n + m) (i + 1) u l U k))
      (λ c.
      ap₂ (λ (x l : ℕ). text_lines p (n + m) x (stacked text n (suc i) ++ rest) l (change i T) k) (add-one i) (up i)
      ∙ lines_from n m (suc i) (omega arith) rest (change i T) (keeps i T (omega arith) pT) k
      ∙ ap (λ (x : ℕ). judged (each rule n (suc i)) (text_lines p m x rest (line x) (changed change n (suc i) (change i T)) k)) on)

  -- and what the line after them needs of the tables, they have
  kept_from : (n i : ℕ) → i + n ≤ N → (T : Tables) → P i T → P (i + n) (changed change n i T)
  unfolding changed
  kept_from zero i e T pT = subst (λ (x : ℕ). P x T) (sym (add-zero i)) pT
  kept_from (suc n) i e T pT =
      let on : suc i + n ≡ i + suc n = omega arith in
      subst (λ (x : ℕ). P x (changed change n (suc i) (change i T))) on (kept_from n (suc i) (omega arith) (change i T) (keeps i T (omega arith) pT))

  -- the first n lines, and m more that follow them
  pub lines_before : (n m : ℕ) → n ≤ N → (T : Tables) → P 0 T
      → P n (changed change n 0 T)
      × ((rest : List ℕ) (k : Rest) → text_lines p (n + m) 0 (stacked text n 0 ++ rest) (line 0) T k ≡ judged (each rule n 0) (text_lines p m n rest (line n) (changed change n 0 T) k))
  lines_before n m h T pT = (
    subst (λ (x : ℕ). P x (changed change n 0 T)) (zero-add n) (kept_from n 0 (omega arith) T pT),
    λ rest k.
        lines_from n m 0 (omega arith) rest T pT k
        ∙ ap (λ (x : ℕ). judged (each rule n 0) (text_lines p m x rest (line x) (changed change n 0 T) k)) (zero-add n),
  )

  -- all of them
  pub lines_told : (rest : List ℕ) (T : Tables) → P 0 T → (k : Rest)
      → text_lines p N 0 (stacked text N 0 ++ rest) (line 0) T k ≡ judged (each rule N 0) (k rest (line N) (changed change N 0 T))
  unfolding text_lines
  lines_told rest T pT k =
      ap (λ (x : ℕ). text_lines p x 0 (stacked text N 0 ++ rest) (line 0) T k) (sym (add-zero N)) ∙ (lines_before N 0 (omega arith) T pT).1 rest k
