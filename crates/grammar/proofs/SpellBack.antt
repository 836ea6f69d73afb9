-- Back from an accepted text: what a part has read is what it spells. A number, a row, a line, several lines.
-- No demand was refused, so each held; by induction on what the part reads. Assumes nothing.
use Prim.Native.Nat.{ℕ, zero, suc, ◌+◌, ◌≤◌, ◌<◌}
use Prim.Native.String.{String}
use native.Mathlib.Omega.{arith}
use native.Mathlib.Numerals.{add-one}
use mathlib.Core.Path.{◌≡◌, refl, sym, ap, ap₂, ◌∙◌}
use mathlib.Core.List.{List, [], ◌∷◌, ◌++◌, append_assoc}
use mathlib.Core.Bool.{Bool, true, false, cond}
use lib.Dec.{eqb}
use lib.ListN.{take, drop}
use borrow.Author.Tests.{eq-eqb, ne_eqb, eqb-true}
use Rattle.refusals.specs.declared.Refusal.{Refusal}
use Rattle.refusals.specs.declared.Refusal.TheVariants.{OffForm, OutOfRange}
use Rattle.tables.specs.Layout.{Tables}
use Rattle.grammar.specs.Fields.{bytes_of, line_end, comma}
use Rattle.grammar.specs.Grammar.{accepted, refused, Rest, Part, ◌▸◌, keep, demand, lit, run_len, decimal, formed, fits, numeral, parted, number_row, end_of_line, text_line, text_lines}
use Rattle.grammar.specs.Spelling.{digits, gap, joined, keyed, stacked, changed}
use Rattle.grammar.proofs.Decimal.{digits_back}
use Rattle.grammar.proofs.SpellParts.{joined_none, joined_front}

pub not_refused : {A : Type 0} {r : Refusal} {W : Tables} → refused r ≡ accepted W → A
not_refused p = let z : ◌≡◌ {A = ℕ} 0 1 = cc in absurd (let n : ⊥ = omega arith in n)

-- what was read, the text that is left, and that this is how it is spelled
pub record Back (A : Type 0) (text : A → List ℕ) (t : List ℕ) (go : A → List ℕ → Type 0) : Type 0 where
  pub what : A
  pub rest : List ℕ
  pub says : t ≡ text what ++ rest
  pub then : go what rest

-- the part p in line l, with what follows in line m, spells what it reads
abbrev pub BackOf : (A : Type 0) → Part → ℕ → ℕ → Tables → (A → List ℕ) → (A → Tables) → Type 0
BackOf A p l m T text change = (t : List ℕ) (k : Rest) (W : Tables) → p t l T k ≡ accepted W → Back A text t (λ a u. k u m (change a) ≡ accepted W)

pub demand_back : (b : Bool) (r : ℕ → Refusal) (t : List ℕ) (l : ℕ) (T : Tables) (k : Rest) (W : Tables) → demand b r t l T k ≡ accepted W → (b ≡ true) × (k t l T ≡ accepted W)
unfolding demand
demand_back true r t l T k W h = (refl, h)
demand_back false r t l T k W h = not_refused h

-- fixed bytes
pub lit_back : (bs : List ℕ) (l : ℕ) (T : Tables) → BackOf (Unit {0}) (lit bs) l l T (λ a. bs) (λ a. T)
unfolding lit ◌▸◌
lit_back [] l T t k W h = record { what = tt; rest = t; says = refl; then = h }
lit_back (b ∷ bs) l T [] k W h = not_refused h
lit_back (b ∷ bs) l T (x ∷ t) k W h =
    let d = demand_back (eqb x b) OffForm t l T _ W h in
    let r = lit_back bs l T t k W d.1 in
    record { what = tt; rest = r.rest; says = ap₂ (λ (y : ℕ) (z : List ℕ). y ∷ z) (eqb-true x b d.0) r.says; then = r.then }

-- A NUMBER: in its range
pub number_back : (least limit : ℕ) (p : ℕ → Part) (t : List ℕ) (l : ℕ) (T : Tables) (k : Rest) (W : Tables) → numeral least limit p t l T k ≡ accepted W
    → Back ℕ digits t (λ v u. (fits v least limit ≡ true) × (p v u l T k ≡ accepted W))
unfolding numeral ◌▸◌
number_back least limit p t l T k W h =
    let v = decimal 0 (take (run_len t) t) in
    let u = drop (run_len t) t in
    let d = demand_back (formed t) OffForm u l T _ W h in
    let e = demand_back (fits v least limit) OutOfRange u l T _ W d.1 in
    record { what = v; rest = u; says = digits_back t d.0; then = e }

-- ---- functions put together place by place

unfoldable pub at : {A : Type 0} → ℕ → A → (ℕ → A) → ℕ → A
at i a g j = cond (eqb j i) a (g j)

pub at_here : {A : Type 0} (i : ℕ) (a : A) (g : ℕ → A) → at i a g i ≡ a
unfolding at
at_here i a g = rw (eq-eqb i i refl) refl

pub at_later : {A : Type 0} (i : ℕ) (a : A) (g : ℕ → A) (j : ℕ) → i < j → at i a g j ≡ g j
unfolding at
at_later i a g j h = rw (ne_eqb j i (λ z. omega arith)) refl

pub joined_same : (mark : ℕ) (f g : ℕ → List ℕ) (n i : ℕ) → ((j : ℕ) → i ≤ j → j < i + n → f j ≡ g j) → joined mark f n i ≡ joined mark g n i
unfolding joined
joined_same mark f g zero i h = refl
joined_same mark f g (suc n) i h =
    ap₂ (λ (a b : List ℕ). a ++ gap mark n ++ b) (h i (omega arith) (omega arith)) (joined_same mark f g n (suc i) (λ j a b. h j (omega arith) (omega arith)))

pub stacked_same : (f g : ℕ → List ℕ) (n i : ℕ) → ((j : ℕ) → i ≤ j → j < i + n → f j ≡ g j) → stacked f n i ≡ stacked g n i
unfolding stacked
stacked_same f g zero i h = refl
stacked_same f g (suc n) i h =
    ap₂ (λ (a b : List ℕ). a ++ b) (h i (omega arith) (omega arith)) (stacked_same f g n (suc i) (λ j a b. h j (omega arith) (omega arith)))

pub changed_same : {A : Type 0} (f g : ℕ → A → A) (n i : ℕ) (w : A) → ((j : ℕ) → i ≤ j → j < i + n → (x : A) → f j x ≡ g j x) → changed f n i w ≡ changed g n i w
unfolding changed
changed_same f g zero i w h = refl
changed_same f g (suc n) i w h =
    changed_same f g n (suc i) (f i w) (λ j a b. h j (omega arith) (omega arith)) ∙ ap (changed g n (suc i)) (h i (omega arith) (omega arith) w)

-- one thing more at the front
module _ {A : Type 0} (i : ℕ) (a : A) (g : ℕ → A) (n : ℕ) where
  pub joined_at : (mark : ℕ) (text : ℕ → A → List ℕ) (t u v w : List ℕ) → t ≡ text i a ++ u → u ≡ gap mark n ++ v → v ≡ joined mark (λ j. text j (g j)) n (suc i) ++ w
      → t ≡ joined mark (λ j. text j (at i a g j)) (suc n) i ++ w
  joined_at mark text t u v w p q r =
      p
      ∙ ap (λ (x : List ℕ). text i a ++ x) (q ∙ ap (λ (x : List ℕ). gap mark n ++ x) r)
      ∙ ap₂ (λ (x : A) (y : List ℕ). text i x ++ (gap mark n ++ (y ++ w))) (sym (at_here i a g))
      (joined_same mark (λ j. text j (g j)) (λ j. text j (at i a g j)) n (suc i) (λ j l m. ap (text j) (sym (at_later i a g j (omega arith)))))
      ∙ sym (joined_front mark (λ j. text j (at i a g j)) n i w)

  pub stacked_at : (text : ℕ → A → List ℕ) (t u w : List ℕ) → t ≡ text i a ++ u → u ≡ stacked (λ j. text j (g j)) n (suc i) ++ w
      → t ≡ stacked (λ j. text j (at i a g j)) (suc n) i ++ w
  unfolding stacked
  stacked_at text t u w p q =
      p
      ∙ ap (λ (x : List ℕ). text i a ++ x) q
      ∙ ap₂ (λ (x : A) (y : List ℕ). text i x ++ (y ++ w)) (sym (at_here i a g))
      (stacked_same (λ j. text j (g j)) (λ j. text j (at i a g j)) n (suc i) (λ j l m. ap (text j) (sym (at_later i a g j (omega arith)))))
      ∙ sym (append_assoc (text i (at i a g i)) (stacked (λ j. text j (at i a g j)) n (suc i)) w)

  pub changed_at : {B : Type 0} (put : ℕ → A → B → B) (w : B) → changed (λ j. put j (g j)) n (suc i) (put i a w) ≡ changed (λ j. put j (at i a g j)) (suc n) i w
  unfolding changed
  changed_at put w =
      ap (λ (x : A). changed (λ j. put j (g j)) n (suc i) (put i x w)) (sym (at_here i a g))
      ∙ changed_same (λ j. put j (g j)) (λ j. put j (at i a g j)) n (suc i) _ (λ j l m x. ap (λ (y : A). put j y x) (sym (at_later i a g j (omega arith))))

-- the mark between two things
pub parted_back : (n mark l : ℕ) (T : Tables) → BackOf (Unit {0}) (parted n mark) l l T (λ a. gap mark n) (λ a. T)
unfolding parted gap
parted_back zero mark l T t k W h = record { what = tt; rest = t; says = refl; then = h }
parted_back (suc n) mark l T t k W h = lit_back (mark ∷ []) l T t k W h

-- A ROW of numbers
module _ (least : ℕ) (limit : ℕ → Tables → ℕ) (put : ℕ → ℕ → Tables → Tables) where
  pub row_back : (n i l : ℕ) (T : Tables) → BackOf (ℕ → ℕ) (number_row least limit put n i) l l T (λ f. joined comma (λ j. digits (f j)) n i) (λ f. changed (λ j. put j (f j)) n i T)
  unfolding number_row changed ◌▸◌ keep
  row_back zero i l T t k W h = record { what = λ j. 0; rest = t; says = ap (λ (x : List ℕ). x ++ t) (sym (joined_none comma _ 0 i refl)); then = h }
  row_back (suc n) i l T t k W h =
      let a = number_back least (limit i T) _ t l T k W h in
      let v = a.what in
      let U = put i v T in
      let b = parted_back n comma l U a.rest _ W a.then.1 in
      let r = row_back n (suc i) l U b.rest k W (ap (λ (x : ℕ). number_row least limit put n x b.rest l U k) (sym (add-one i)) ∙ b.then) in
      record {
        what = at i v r.what;
        rest = r.rest;
        says = joined_at i v r.what n comma (λ j. digits) t a.rest b.rest r.rest a.says b.says r.says;
        then = ap (k r.rest l) (sym (changed_at i v r.what n put T)) ∙ r.then;
      }

-- A LINE
pub end_back : (l : ℕ) (T : Tables) → BackOf (Unit {0}) end_of_line l (l + 1) T (λ a. line_end ∷ []) (λ a. T)
unfolding end_of_line ◌▸◌
end_back l T t k W h = lit_back (line_end ∷ []) l T t _ W h

pub line_back : (A : Type 0) (key : String) (p : Part) (l : ℕ) (T : Tables) (text : A → List ℕ) (change : A → Tables) → BackOf A p l l T text change
    → BackOf A (text_line key p) l (l + 1) T (λ a. keyed key (text a)) change
unfolding text_line keyed ◌▸◌
line_back A key p l T text change back t k W h =
    let a = lit_back (bytes_of key) l T t _ W h in
    let b = back a.rest _ W a.then in
    let c = end_back l (change b.what) b.rest k W b.then in
    record {
      what = b.what;
      rest = c.rest;
      says = ended (bytes_of key) (text b.what) t a.rest b.rest c.rest a.says b.says c.says;
      then = c.then;
    }
  where
    ended : (x y t u v w : List ℕ) → t ≡ x ++ u → u ≡ y ++ v → v ≡ line_end ∷ w → t ≡ ((x ++ y) ++ line_end ∷ []) ++ w
    ended x y t u v w p q r = p ∙ ap (λ (z : List ℕ). x ++ z) (q ∙ ap (λ (z : List ℕ). y ++ z) r) ∙ simp append_assoc

-- SEVERAL LINES
module _ (A : Type 0) (none : A) (p : ℕ → Part) (text : ℕ → A → List ℕ) (change : ℕ → A → Tables → Tables) (P : Tables → Type 0)
    (keeps : (i : ℕ) (a : A) (T : Tables) → P T → P (change i a T))
    (back : (i l : ℕ) (T : Tables) → P T → BackOf A (p i) l (l + 1) T (text i) (λ a. change i a T)) where
  pub lines_back : (n i l : ℕ) (T : Tables) → P T → BackOf (ℕ → A) (text_lines p n i) l (l + n) T (λ d. stacked (λ j. text j (d j)) n i) (λ d. changed (λ j. change j (d j)) n i T)
  unfolding text_lines stacked changed ◌▸◌
  lines_back zero i l T pT t k W h = record { what = λ j. none; rest = t; says = refl; then = let z : l + 0 ≡ l = omega arith in ap (λ (m : ℕ). k t m T) z ∙ h }
  lines_back (suc n) i l T pT t k W h =
      let z : l + suc n ≡ (l + 1) + n = omega arith in
      let a = back i l T pT t _ W h in
      let U = change i a.what T in
      let r = lines_back n (suc i) (l + 1) U (keeps i a.what T pT) a.rest k W (ap (λ (x : ℕ). text_lines p n x a.rest (l + 1) U k) (sym (add-one i)) ∙ a.then) in
      record {
        what = at i a.what r.what;
        rest = r.rest;
        says = stacked_at i a.what r.what n text t a.rest r.rest a.says r.says;
        then = ap (λ (m : ℕ). k r.rest m (changed (λ j. change j (at i a.what r.what j)) (suc n) i T)) z
            ∙ ap (k r.rest (l + 1 + n)) (sym (changed_at i a.what r.what n change T)) ∙ r.then;
      }
