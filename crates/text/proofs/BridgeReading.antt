-- What the end of the text says of a state as the grammar's verdict, and the machine's way over signs and keywords. The machine reads the end as one byte more, which
-- fits nowhere: so the laws speak of the byte that stands next, which at the end is none, and `goes_on` alone tells the end from a byte. Assumes nothing.
use Prim.Native.Nat.{ℕ, zero, suc, ◌<◌}
use mathlib.Core.Path.{◌≡◌, refl, sym, ap, ◌∙◌}
use mathlib.Core.List.{List, [], ◌∷◌}
use mathlib.Core.Bool.{Bool, true, false, cond}
use lib.ListN.{get_or, take, drop}
use lib.Dec.{eqb}
use borrow.Author.Tests.{ne_eqb, eqb-true}
use Rattle.std.specs.Prelude.{Err}
use Rattle.refusals.specs.declared.Refusal.{Refusal}
use Rattle.refusals.specs.declared.Refusal.TheVariants.{OffForm}
use Rattle.tables.specs.declared.Counts.{Counts}
use Rattle.tables.specs.Layout.{Tables, facts_room, costs_room, shares_room}
use Rattle.text.specs.declared.Ctrl.{Ctrl}
use Rattle.text.specs.declared.Halt.{Halt}
use Rattle.text.specs.declared.Halt.TheVariants.{Going, Form}
use Rattle.grammar.specs.Grammar.{Verdict, refused, Rest, Part, ◌▸◌, demand, lit, choice, settled}
use Rattle.text.specs.Inside.Area.{costs_byte, shares_byte, threes}
use Rattle.text.specs.Inside.Control.{mk, part_key, going, up, spot_at, no_digits, first_turn, none_seen, stopped, part_begun, next_key, opened, St, field_end}
use Rattle.text.specs.Inside.Fields.{key_byte}
use Rattle.text.specs.Inside.Steps.{equals, in_key, sign, live, byte_read, feed, no_byte, ended}
use Rattle.text.specs.Inside.End.{refusal_of, last_fault}
use Rattle.grammar.proofs.Runs.{clash, both_true}

-- the tables that a work area stands for
unfoldable pub tables_of : Counts → List ℕ → Tables
tables_of n w = record { counts = n; facts = take facts_room w; costs = threes costs_room costs_byte w; shares = threes shares_room shares_byte w }

-- what is said of a state after the end of the text; what the end of the text says of a state
unfoldable pub judged : St → Verdict
judged s = settled (last_fault s) (tables_of s.ctrl.counts s.area)

unfoldable pub told : St → Verdict
told s = judged (ended s)

unfoldable pub reading : Ctrl → List ℕ → List ℕ → Verdict
reading c w t = told (feed (mk c w) t)

-- a text of bytes
pub data Bytes : List ℕ → Type 0 where
  none : Bytes []
  byte : {b : ℕ} {t : List ℕ} → b < 256 → Bytes t → Bytes (b ∷ t)

pub bytes_drop : (n : ℕ) {t : List ℕ} → Bytes t → Bytes (drop n t)
bytes_drop zero a = a
bytes_drop (suc n) none = none
bytes_drop (suc n) (byte h a) = bytes_drop n a

-- the byte that stands next, none at the end; and the text behind it
abbrev pub next : List ℕ → ℕ
next t = get_or t 0 no_byte

abbrev pub behind : List ℕ → List ℕ
behind t = drop 1 t

-- two tests, the second where the first fails; a test that decides nothing
then_true : (p q : Bool) → cond p false q ≡ true → (p ≡ false) × (q ≡ true)
then_true true q e = clash e refl
then_true false q e = (refl, e)

pub pick_same : {A : Type 0} (q : Bool) (x : A) → cond q x x ≡ x
pick_same true x = refl
pick_same false x = refl

-- ---- a reading that has stopped stays as it is, at the end of the text too
stays : (c : Ctrl) (w : List ℕ) (b : ℕ) → going c.halt ≡ false → byte_read (mk c w) b ≡ mk c w
unfolding byte_read
stays c w b h = simp h

stays_ended : (c : Ctrl) (w : List ℕ) → going c.halt ≡ false → ended (mk c w) ≡ mk c w
unfolding ended
stays_ended c w h = rw (stays c w no_byte h) (pick_same (eqb c.spot.field field_end) (mk c w))

pub stops : (c : Ctrl) (k : Halt) (r : Refusal) (w t : List ℕ) → going k ≡ false → refusal_of k c.line ≡ Err r → reading (stopped c k) w t ≡ refused r
unfolding reading told judged feed last_fault settled stopped
stops c k r w [] h e = ap judged (stays_ended (stopped c k) w h) ∙ simp e
stops c k r w (b ∷ t) h e = ap (λ (s : St). told (feed s t)) (stays (stopped c k) w b h) ∙ stops c k r w t h e

pub off_form : (c : Ctrl) (w t : List ℕ) → reading (stopped c Form) w t ≡ refused (OffForm c.line)
off_form c w t = stops c Form (OffForm c.line) w t refl refl

-- ---- a byte, by what the machine does with it
pub moves : (c d : Ctrl) (w u : List ℕ) (b : ℕ) (t : List ℕ) → byte_read (mk c w) b ≡ mk d u → reading c w (b ∷ t) ≡ reading d u t
unfolding reading feed
moves c d w u b t e = ap (λ (s : St). told (feed s t)) e

-- or the end, where lines are left: there the machine must stop
ended_early : (c : Ctrl) (w : List ℕ) → (c.spot.field ≡ field_end → ⊥) → ended (mk c w) ≡ byte_read (mk c w) no_byte
unfolding ended
ended_early c w h = simp (ne_eqb c.spot.field field_end h)

pub goes_on : (c d : Ctrl) (w u t : List ℕ) → (c.spot.field ≡ field_end → ⊥) → byte_read (mk c w) (next t) ≡ mk d u → (t ≡ [] → going d.halt ≡ false)
    → reading c w t ≡ reading d u (behind t)
unfolding reading told feed
goes_on c d w u [] h e s = ap judged (ended_early c w h ∙ e ∙ sym (stays_ended d u (s refl)))
goes_on c d w u (b ∷ t) h e s = moves c d w u b t e

pub stops_at : (c d : Ctrl) (w u t : List ℕ) (k : Halt) (r : Refusal) → (c.spot.field ≡ field_end → ⊥) → byte_read (mk c w) (next t) ≡ mk (stopped d k) u
    → going k ≡ false → refusal_of k d.line ≡ Err r → reading c w t ≡ refused r
unfolding stopped
stops_at c d w u t k r h e n q = goes_on c (stopped d k) w u t h e (λ z. n) ∙ stops d k r u (behind t) n q

-- ---- a sign that must stand here, and the first byte of a literal
pub at_sign : (c d : Ctrl) (u : List ℕ) (l x : ℕ) (bs t : List ℕ) (T : Tables) (k : Rest) → c.line ≡ l → eqb no_byte x ≡ false
    → (next t ≡ x → reading d u (behind t) ≡ lit bs (behind t) l T k) → reading (sign c (next t) x d) u (behind t) ≡ lit (x ∷ bs) t l T k
unfolding sign lit demand ◌▸◌
at_sign c d u l x bs [] T k e n r = rw (n, ← e) (off_form c u [])
at_sign c d u l x bs (b ∷ t) T k e n r = split (eqb b x) refl
  where
    split : (q : Bool) → eqb b x ≡ q → reading (cond (eqb b x) d (stopped c Form)) u t ≡ demand (eqb b x) OffForm t l T (λ u₁ m U. lit bs u₁ m U k)
    split true q = rw q (r (eqb-true b x q))
    split false q = rw (q, ← e) (off_form c u t)

sign_stops : (c d : Ctrl) (x : ℕ) (t : List ℕ) → eqb no_byte x ≡ false → t ≡ [] → going (sign c (next t) x d).halt ≡ false
unfolding sign stopped
sign_stops c d x t n z = rw (z, n)

pub sign_read : (c e d : Ctrl) (w u : List ℕ) (x : ℕ) (bs t : List ℕ) (T : Tables) (k : Rest) → (c.spot.field ≡ field_end → ⊥) → eqb no_byte x ≡ false
    → byte_read (mk c w) (next t) ≡ mk (sign e (next t) x d) u → (next t ≡ x → reading d u (behind t) ≡ lit bs (behind t) e.line T k)
    → reading c w t ≡ lit (x ∷ bs) t e.line T k
sign_read c e d w u x bs t T k h n q r = goes_on c (sign e (next t) x d) w u t h q (sign_stops e d x t n) ∙ at_sign e d u e.line x bs t T k refl n r

-- a sign that may stand here
pub by_sign : (x : ℕ) (p q : Part) (t : List ℕ) (l : ℕ) (T : Tables) (k : Rest) → eqb no_byte x ≡ false
    → choice x p q t l T k ≡ cond (eqb (next t) x) (p (behind t) l T k) (q t l T k)
unfolding choice
by_sign x p q [] l T k n = rw n
by_sign x p q (b ∷ t) l T k n = split (eqb b x)
  where
    split : (y : Bool) → cond {A = List ℕ → Verdict} y (λ u. p u l T k) (λ u. q (b ∷ u) l T k) t ≡ cond y (p t l T k) (q (b ∷ t) l T k)
    split true = refl
    split false = refl

-- ---- keywords
abbrev pub kw : ℕ → ℕ → ℕ → Counts → ℕ → Ctrl
kw l f r n k =
    record { halt = Going; line = l; spot = spot_at part_key f k r; digits = no_digits; turn = first_turn; seen = none_seen; counts = n }

-- this is field f's keyword from place k on: bytes, of which the last and no other is '='
unfoldable pub spelled : ℕ → ℕ → List ℕ → Bool
spelled f k [] = false
spelled f k (b ∷ []) = cond (eqb b equals) (eqb (key_byte f k) b) false
spelled f k (b ∷ x ∷ bs) = cond (eqb b equals) false (cond (eqb no_byte b) false (cond (eqb (key_byte f k) b) (spelled f (up k) (x ∷ bs)) false))

module _ (l f r : ℕ) (n : Counts) (w : List ℕ) (h : f ≡ field_end → ⊥) (T : Tables) (go : Rest)
    (ok : (t : List ℕ) → Bytes t → reading (opened (kw l f r n 0)) w t ≡ go t l T) where
  key_step : (k b : ℕ) → byte_read (mk (kw l f r n k) w) b ≡ mk (sign (kw l f r n k) b (key_byte f k) (cond (eqb b equals) (opened (kw l f r n 0)) (kw l f r n (up k)))) w
  unfolding byte_read live in_key sign next_key opened part_begun
  key_step k b = refl

  key_byte_lem : (k b : ℕ) (bs t : List ℕ) → eqb no_byte b ≡ false → key_byte f k ≡ b
      → (next t ≡ b → reading (cond (eqb (next t) equals) (opened (kw l f r n 0)) (kw l f r n (up k))) w (behind t) ≡ lit bs (behind t) l T go)
      → reading (kw l f r n k) w t ≡ lit (b ∷ bs) t l T go
  key_byte_lem k b bs t q e again = sign_read (kw l f r n k) (kw l f r n k) _ w w b bs t T go h q (rw e at (key_step k (next t))) again

  pub key_ok : (k : ℕ) (bs : List ℕ) → spelled f k bs ≡ true → (t : List ℕ) → Bytes t → reading (kw l f r n k) w t ≡ lit bs t l T go
  unfolding lit spelled
  key_ok k [] s t a = clash s refl
  key_ok k (b ∷ []) s t a =
      let p = both_true (eqb b equals) (eqb (key_byte f k) b) s in
      key_byte_lem k b [] t (rw (eqb-true b equals p.0)) (eqb-true (key_byte f k) b p.1) (λ z. rw (z, p.0) (ok (behind t) (bytes_drop 1 a)))
  key_ok k (b ∷ b₁ ∷ bs) s t a =
      let p = then_true (eqb b equals) (cond (eqb no_byte b) false (cond (eqb (key_byte f k) b) (spelled f (up k) (b₁ ∷ bs)) false)) s in
      let q = then_true (eqb no_byte b) (cond (eqb (key_byte f k) b) (spelled f (up k) (b₁ ∷ bs)) false) p.1 in
      let o = both_true (eqb (key_byte f k) b) (spelled f (up k) (b₁ ∷ bs)) q.1 in
      key_byte_lem k b (b₁ ∷ bs) t q.0 (eqb-true (key_byte f k) b o.0) (λ z. rw (z, p.0) (key_ok (up k) (b₁ ∷ bs) o.1 (behind t) (bytes_drop 1 a)))
