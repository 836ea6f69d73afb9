-- The lines of one number and those with a number for each variable, read as the grammar says. Assumes nothing.
use Prim.Native.Nat.{ℕ, suc, ◌+◌, ◌-◌, ◌≤◌, ◌<◌, zero-le}
use native.Mathlib.Omega.{arith}
use mathlib.Core.Path.{◌≡◌, refl, sym, ap, ◌∙◌}
use native.Mathlib.Nat.{zero-add}
use mathlib.Core.List.{List, [], ◌∷◌}
use mathlib.Core.Bool.{true, false}
use lib.ListN.{get_or}
use lib.Dec.{eqb}
use borrow.Author.Tests.{eq-eqb, ne_eqb}
use Rattle.tables.specs.declared.Counts.{Counts}
use Rattle.tables.specs.Layout.{Tables, dom_place, init_place, dom_at}
use Rattle.text.specs.declared.Ctrl.{Ctrl}
use Rattle.grammar.specs.Fields.{comma, line_end, bytes_of, dash}
use Rattle.grammar.specs.Grammar.{
  Rest,
  ◌▸◌,
  ask,
  keep,
  lit,
  fits,
  numeral,
  number_row,
  end_of_line,
  text_line,
  put_edition,
  put_vars,
  put_fact,
  edition_line,
  vars_line,
  dom_line,
  init_line,
}
use Rattle.text.specs.Inside.Area.{dom_in}
use Rattle.text.specs.Inside.Control.{up, part_begun, due, opened, with_digit, to_line, next_line, field_edition, field_vars, field_dom, field_init, field_goal_var, field_class, field_end}
use Rattle.text.specs.Inside.Fields.{key_byte, with_count, leasts, limit, counts_with, seen_with, noted, last_var, stored, kind, kind_var}
use Rattle.text.specs.Inside.Steps.{sign, after_var, after_number, dash_here, value_cap}
use Rattle.text.proofs.BridgeReading.{tables_of, reading, Bytes, next, pick_same, kw, spelled, key_ok}
use Rattle.text.proofs.BridgeNumbers.{begins_dash, number_ok}
use Rattle.grammar.proofs.Runs.{within_both}
use Rattle.text.proofs.BridgeArea.{fact_kept, dom_of}
use Rattle.text.proofs.BridgeRows.{then_sign, no_fault, Fits, Known, known_put, known_dom, row_ok, of_var, lone}
use Rattle.tables.specs.Lines.{line_of_edition, line_of_vars, line_of_dom, line_of_init, line_of_goal}

-- the line end, and then what follows on the next line
abbrev pub eol : Rest → Rest
eol k u m U = lit (line_end ∷ []) u m U (λ u₁ m₁ U₁. k u₁ (m₁ + 1) U₁)

-- no dash can stand for a number that is no fact's variable
pub bare : (c : Ctrl) (t : List ℕ) → eqb (kind c.spot.field) kind_var ≡ false → begins_dash c t ≡ false
unfolding dash_here with_digit
bare c t e = rw e (pick_same (eqb (next t) dash) false)

-- ---- a line of one number
module _ (l f : ℕ) (n : Counts) (w : List ℕ) (h : f ≡ field_end → ⊥) (c : f ≡ field_class → ⊥) (low : get_or leasts f 0 ≤ value_cap) (cap : limit (lone l f n) w ≤ value_cap)
    (e : eqb (kind f) kind_var ≡ false) (keeps : ℕ → Tables → Tables) (k : Rest) (d : ℕ → Ctrl)
    (same : (z v : ℕ) → stored (with_digit (lone l f n) z v) w ≡ w)
    (goes : (z v b : ℕ) (u : List ℕ) → after_number (noted (with_digit (lone l f n) z v)) u b ≡ sign (noted (with_digit (lone l f n) z v)) b line_end (d v))
    (ok : (v : ℕ) → fits v (get_or leasts f 0) (limit (lone l f n) w) ≡ true → (t : List ℕ) → Bytes t → reading (d v) w t ≡ k t (l + 1) (keeps v (tables_of n w))) where
  pub single_ok : (t : List ℕ) → Bytes t
      → reading (lone l f n) w t ≡ numeral (get_or leasts f 0) (limit (lone l f n) w) (λ v. keep (keeps v)) t l (tables_of n w) (eol k)
  unfolding keep with_digit
  single_ok t a =
      number_ok (lone l f n) w h low cap (λ v. keep (keeps v)) (tables_of n w) (eol k)
      (λ z v u y o b s.
      then_sign (lone l f n) w z v line_end (d v) (keeps v (tables_of n w)) (λ u₁ m₁ U₁. k u₁ (m₁ + 1) U₁) refl h y
      (no_fault (lone l f n) w z v y c s zero-le) (λ x. goes z v x _) (λ u₁ b₁. rw (same z v) (ok v s u₁ b₁)) o b)
      t a (bare (lone l f n) t e)

-- edition=
abbrev pub with_edition : ℕ → Counts → Counts
with_edition = with_count field_edition

pub edition_ok : (n : Counts) (w : List ℕ) (k : Rest)
    → ((v : ℕ) (t : List ℕ) → Bytes t → reading (kw line_of_vars field_vars 0 (with_edition v n) 0) w t ≡ k t line_of_vars (tables_of (with_edition v n) w))
    → (t : List ℕ) → Bytes t → reading (kw line_of_edition field_edition 0 n 0) w t ≡ edition_line t line_of_edition (tables_of n w) k
unfolding edition_line text_line end_of_line ◌▸◌ keep opened part_begun limit stored with_digit noted after_number kind next_line to_line spelled key_byte tables_of seen_with counts_with
edition_ok n w k ok =
    key_ok line_of_edition field_edition 0 n w (λ z. omega arith) (tables_of n w) _
    (single_ok line_of_edition field_edition n w (λ z. omega arith) (λ z. omega arith) (omega arith) (omega arith) refl
    put_edition k (λ v. kw line_of_vars field_vars 0 (with_edition v n) 0) (λ z v. refl) (λ z v b u. refl) (λ v q. ok v))
    0 (bytes_of "edition=") refl

-- vars=
abbrev pub with_vars : ℕ → Counts → Counts
with_vars = with_count field_vars

pub vars_ok : (n : Counts) (w : List ℕ) (k : Rest)
    → ((v : ℕ) → 1 ≤ v → v ≤ 8 → (t : List ℕ) → Bytes t → reading (kw line_of_dom field_dom 0 (with_vars v n) 0) w t ≡ k t line_of_dom (tables_of (with_vars v n) w))
    → (t : List ℕ) → Bytes t → reading (kw line_of_vars field_vars 0 n 0) w t ≡ vars_line t line_of_vars (tables_of n w) k
unfolding vars_line text_line end_of_line ◌▸◌ keep opened part_begun limit stored with_digit noted after_number kind next_line to_line spelled key_byte tables_of seen_with counts_with
vars_ok n w k ok =
    key_ok line_of_vars field_vars 0 n w (λ z. omega arith) (tables_of n w) _
    (single_ok line_of_vars field_vars n w (λ z. omega arith) (λ z. omega arith) (omega arith) (omega arith) refl
    put_vars k (λ v. kw line_of_dom field_dom 0 (with_vars v n) 0) (λ z v. refl) (λ z v b u. refl)
    (λ v q. let g = within_both v 1 9 q in ok v g.0 (omega arith)))
    0 (bytes_of "vars=") refl

-- ---- a line with a number for each variable
data VarRow : ℕ → Type 0 where
  dom_row : VarRow field_dom
  init_row : VarRow field_init

module _ (l z v b i : ℕ) (n : Counts) (w : List ℕ) (g : n.vars ≤ 8) where
  vars_more : {f : ℕ} → VarRow f → i + 1 < n.vars
      → after_number (noted (with_digit (of_var l f i 0 n) z v)) w b ≡ sign (noted (with_digit (of_var l f i 0 n) z v)) b comma (of_var l f (i + 1) 0 n)
  unfolding after_number kind after_var last_var noted with_digit due seen_with counts_with
  vars_more dom_row h = let e : up i ≡ i + 1 = omega arith in rw (e, ne_eqb (i + 1) n.vars (λ q. omega arith))
  vars_more init_row h = let e : up i ≡ i + 1 = omega arith in rw (e, ne_eqb (i + 1) n.vars (λ q. omega arith))

  vars_last : {f : ℕ} → VarRow f → i + 1 ≡ n.vars
      → after_number (noted (with_digit (of_var l f i 0 n) z v)) w b ≡ sign (noted (with_digit (of_var l f i 0 n) z v)) b line_end (kw (up l) (up f) 0 n 0)
  unfolding after_number kind after_var last_var noted with_digit next_line to_line part_begun seen_with counts_with
  vars_last dom_row h = let e : up i ≡ n.vars = omega arith in rw (eq-eqb (up i) n.vars e)
  vars_last init_row h = let e : up i ≡ n.vars = omega arith in rw (eq-eqb (up i) n.vars e)

-- dom=
pub dom_ok : (n : Counts) → Fits n → (w : List ℕ) → Known 0 w → (k : Rest)
    → ((u : List ℕ) → Known n.vars u → (t : List ℕ) → Bytes t → reading (kw line_of_init field_init 0 n 0) u t ≡ k t line_of_init (tables_of n u))
    → (t : List ℕ) → Bytes t → reading (kw line_of_dom field_dom 0 n 0) w t ≡ dom_line t line_of_dom (tables_of n w) k
unfolding dom_line text_line end_of_line ◌▸◌ ask opened part_begun limit stored with_digit kind spelled key_byte tables_of
dom_ok n sized w g k ok =
    let one : suc (n.vars - 1) ≡ n.vars = let y = sized.low in omega arith in
    key_ok line_of_dom field_dom 0 n w (λ z. omega arith) (tables_of n w) _
    (λ t a.
    row_ok line_of_dom field_dom 0 n (λ i. i) (λ i. 0) n.vars (λ z. omega arith) (λ z. omega arith) (omega arith) (λ i U. 9) (λ i v. put_fact (dom_place i) v) Known (eol k)
    (λ i u. bare (of_var line_of_dom field_dom i 0 n) u refl)
    (λ i u y p. (refl, omega arith))
    (λ i z v u y p q.
    let s = within_both v 1 9 q in
    let x = sized.high in
    (fact_kept n u p.long i v (omega arith) (omega arith) ∙ ap (λ (j : ℕ). put_fact j v (tables_of n u)) (sym (zero-add i)), known_dom p v (omega arith) s.0 (omega arith)))
    (λ i z v b u y. vars_more line_of_dom z v b i n u sized.high dom_row y)
    (λ i z v u t₁ y x o a₁ p e.
    then_sign (of_var line_of_dom field_dom i 0 n) u z v line_end (kw line_of_init field_init 0 n 0) _ (λ u₁ m₁ U₁. k u₁ (m₁ + 1) U₁) refl (λ q. omega arith) x e
    (λ b. vars_last line_of_dom z v b i n _ sized.high dom_row y) (ok _ (rw y at p)) o a₁)
    (n.vars - 1) 0 (omega arith) w g t a
    ∙ ap (λ (m : ℕ). number_row 1 (λ i U. 9) (λ i v. put_fact (dom_place i) v) m 0 t 3 (tables_of n w) (eol k)) one)
    0 (bytes_of "dom=") refl

-- init=
pub init_ok : (n : Counts) → Fits n → (w : List ℕ) → Known n.vars w → (k : Rest)
    → ((u : List ℕ) → Known n.vars u → (t : List ℕ) → Bytes t → reading (kw line_of_goal field_goal_var 0 n 0) u t ≡ k t line_of_goal (tables_of n u))
    → (t : List ℕ) → Bytes t → reading (kw line_of_init field_init 0 n 0) w t ≡ init_line t line_of_init (tables_of n w) k
unfolding init_line text_line end_of_line ◌▸◌ ask opened part_begun limit stored with_digit kind spelled key_byte tables_of
init_ok n sized w g k ok =
    let one : suc (n.vars - 1) ≡ n.vars = let y = sized.low in omega arith in
    key_ok line_of_init field_init 0 n w (λ z. omega arith) (tables_of n w) _
    (λ t a.
    row_ok line_of_init field_init 0 n (λ i. i) (λ i. 0) n.vars (λ z. omega arith) (λ z. omega arith) (omega arith) (λ i U. dom_at U.facts i) (λ i v. put_fact (init_place i) v)
    (λ i u. Known n.vars u) (eol k)
    (λ i u. bare (of_var line_of_init field_init i 0 n) u refl)
    (λ i u y p.
    let x = sized.high in
    let d : dom_at (tables_of n u).facts i ≡ dom_in u i = dom_of n u i (omega arith) in
    let s = p.doms i y in
    (sym d, omega arith))
    (λ i z v u y p q.
    let x = sized.high in
    let d : dom_at (tables_of n u).facts i ≡ dom_in u i = dom_of n u i (omega arith) in
    let r = p.doms i y in
    let s = within_both v 0 (dom_at (tables_of n u).facts i) q in
    (fact_kept n u p.long (init_place i) v (omega arith) (omega arith), known_put p (init_place i) v (omega arith)))
    (λ i z v b u y. vars_more line_of_init z v b i n u sized.high init_row y)
    (λ i z v u t₁ y x o a₁ p e.
    then_sign (of_var line_of_init field_init i 0 n) u z v line_end (kw line_of_goal field_goal_var 0 n 0) _ (λ u₁ m₁ U₁. k u₁ (m₁ + 1) U₁) refl (λ q. omega arith) x e
    (λ b. vars_last line_of_init z v b i n _ sized.high init_row y) (ok _ p) o a₁)
    (n.vars - 1) 0 (omega arith) w g t a
    ∙ ap (λ (m : ℕ). number_row 0 (λ i U. dom_at U.facts i) (λ i v. put_fact (init_place i) v) m 0 t 4 (tables_of n w) (eol k)) one)
    0 (bytes_of "init=") refl
