-- Laws of the pen: one text after another is the text of both; what a loop has left to write; and on a page of enough room the text stands in the first places,
-- and then what was there. By induction on the text. Assumes nothing.
use Prim.Native.Nat.{ℕ, ◌+◌, ◌≤◌, ◌<◌}
use native.Mathlib.Omega.{arith}
use mathlib.Core.Path.{◌≡◌, refl, sym, ap, ap₂, ◌∙◌}
use mathlib.Core.List.{List, [], ◌∷◌, ◌++◌, append_assoc, append-nil}
use lib.Dec.{ltb}
use lib.ListN.{length, set, length-append, length-set}
use lib.Seq.{set_at}
use borrow.Author.Tests.{lt-ltb, le-ltb}
use Rattle.meaning.proofs.Facts.{by_cases}
use Rattle.grammar.specs.Writing.{over}
use Rattle.writer.specs.declared.pen as declared
use Rattle.writer.specs.Inside.Pen.{Pen, pen, held, stroke, inked, Writes, Puts}

-- ---- a byte

pub byte_put : (n : ℕ) (b : List ℕ) (x : ℕ) → n < length b → Writes (pen n b) (x ∷ []) (pen (n + 1) (set b n x))
unfolding inked stroke
byte_put n b x h = record { leaves = rw (lt-ltb n (length b) h) refl }

pub full : (n : ℕ) (b : List ℕ) (x : ℕ) → length b ≤ n → Writes (pen n b) (x ∷ []) (pen n b)
unfolding inked stroke
full n b x h = record { leaves = rw (le-ltb n (length b) h) refl }

-- ---- one text after another

inked_append : (p : Pen) (x y : List ℕ) → inked p (x ++ y) ≡ inked (inked p x) y
unfolding inked
inked_append p [] y = refl
inked_append p (b ∷ x) y = inked_append (stroke p b) x y

pub nothing : (p : declared.Pen.Pen) → Puts p [] p
unfolding inked
nothing p = record { writes = record { leaves = refl }; same_buffer = refl }

pub after : {p q r : declared.Pen.Pen} {x y : List ℕ} → Puts p x q → Puts q y r → Puts p (x ++ y) r
after {p = p} {x = x} {y = y} e f =
    record {
      writes = record { leaves = f.writes.leaves ∙ ap (λ (s : Pen). inked s y) e.writes.leaves ∙ sym (inked_append (held p) x y) };
      same_buffer = f.same_buffer ∙ e.same_buffer;
    }

-- the same text, said otherwise
pub so : {p q : declared.Pen.Pen} {x y : List ℕ} → Puts p x q → x ≡ y → Puts p y q
so {p = p} e f = record { writes = record { leaves = e.writes.leaves ∙ ap (inked (held p)) f }; same_buffer = e.same_buffer }

-- ---- however much is written, the buffer stays as long as it was

stroke_long : (p : Pen) (x : ℕ) → length (stroke p x).bytes ≡ length p.bytes
unfolding stroke
stroke_long p x =
    by_cases (ltb p.at (length p.bytes)) (λ h. rw h (length-set p.bytes p.at x)) (λ h. rw h refl)

inked_long : (p : Pen) (x : List ℕ) → length (inked p x).bytes ≡ length p.bytes
unfolding inked
inked_long p [] = refl
inked_long p (b ∷ x) = inked_long (stroke p b) x ∙ stroke_long p b

pub kept_long : {p q : Pen} {x : List ℕ} → Writes p x q → length q.bytes ≡ length p.bytes
kept_long {p = p} {x = x} e = ap (λ (q : Pen). length q.bytes) e.leaves ∙ inked_long p x

-- ---- a loop: from p on the whole text is under way, and at q what is left of it leaves what the whole leaves

pub record Under (p : declared.Pen.Pen) (whole left : List ℕ) (q : declared.Pen.Pen) : Type 0 where
  pub leaves : inked (held q) left ≡ inked (held p) whole
  pub same_buffer : q.out.ghost_name ≡ p.out.ghost_name

-- at its begin all is left
pub begins : (p : declared.Pen.Pen) {x l : List ℕ} → l ≡ x → Under p x l p
begins p e = record { leaves = ap (inked (held p)) e; same_buffer = refl }

-- a turn writes x of it
pub goes_on : {p q r : declared.Pen.Pen} {w x l m : List ℕ} → Under p w l q → l ≡ x ++ m → Puts q x r → Under p w m r
goes_on {q = q} {x = x} {m = m} u f e =
    record {
      leaves = ap (λ (s : Pen). inked s m) e.writes.leaves ∙ sym (inked_append (held q) x m) ∙ ap (inked (held q)) (sym f) ∙ u.leaves;
      same_buffer = e.same_buffer ∙ u.same_buffer;
    }

-- and at the end nothing is left
pub ends : {p q : declared.Pen.Pen} {w l : List ℕ} → Under p w l q → l ≡ [] → Puts p w q
unfolding inked
ends {q = q} u f =
    record {
      writes = record { leaves = ap (inked (held q)) (sym f) ∙ u.leaves };
      same_buffer = u.same_buffer;
    }

-- ---- a page with room

-- one byte after what stands there
stroke_after : (a b : List ℕ) (y c : ℕ) → stroke (pen (length a) (a ++ y ∷ b)) c ≡ pen (length (a ++ c ∷ [])) (a ++ c ∷ [] ++ b)
unfolding stroke
stroke_after a b y c =
    rw (lt-ltb (length a) (length (a ++ y ∷ b)) (omega (arith, length-append a (y ∷ b))))
    (ap₂ pen (sym (length-append a (c ∷ []))) (set_at a y b c (length a) refl ∙ sym (append_assoc a (c ∷ []) b)))

room_after : (a b x : List ℕ) → length x ≤ length b → inked (pen (length a) (a ++ b)) x ≡ pen (length (a ++ x)) (a ++ over x b)
unfolding inked over
room_after a b [] h = ap (λ (l : List ℕ). pen (length l) (a ++ b)) (sym (append-nil a))
room_after a [] (c ∷ x) h = absurd (let z : ⊥ = omega arith in z)
room_after a (y ∷ b) (c ∷ x) h =
    ap (λ (s : Pen). inked s x) (stroke_after a b y c)
    ∙ room_after (a ++ c ∷ []) b x (omega arith)
    ∙ ap₂ (λ (l m : List ℕ). pen (length l) m) (append_assoc a (c ∷ []) x) (append_assoc a (c ∷ []) (over x b))

-- from the first place on
pub pen_over : (b x : List ℕ) → length x ≤ length b → inked (pen 0 b) x ≡ pen (length x) (over x b)
pen_over b x h = room_after [] b x h
