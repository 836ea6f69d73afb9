-- For each entry of the desk: no second outcome could meet its contract, whatever was handed in. Answer, run and every lent place are determined.
-- Assumes nothing.
use Rattle.std.specs.Prelude.{Result, Option}
use mathlib.Core.Path.{◌≡◌, sym, ◌∙◌}
use mathlib.Core.List.{List}
use Prim.Native.Nat.{ℕ}
use denote.Ref.{Bor}
use Rattle.refusals.specs.declared.Refusal.{Refusal}
use Rattle.scan.specs.Found.{Found}
use Rattle.tables.specs.Layout.{Tables}
use Rattle.scan.specs.Scan.{tables_fault}
use Rattle.grammar.specs.Fields.{Outcome}
use Rattle.grammar.specs.Grammar.{read_text}
use Rattle.grammar.specs.Writing.{Page, write_text}
use Rattle.pieces.specs.declared.SoFar.{SoFar}
use Rattle.pieces.specs.Pieces.{PieceLeft, EndLeft, begun_text, piece_taken, text_ended}
use Rattle.views.specs.Entries.{DistancesGiven, DistanceGiven, BestGiven, BoundGiven}
use Rattle.views.proofs.Promises as views
use Rattle.sequences.specs.declared.choosing.Cheaper.{Cheaper}
use Rattle.sequences.specs.Judging.{judged_of}
use Rattle.sequences.specs.Choosing.{cheaper_of}
use Rattle.sequences.specs.Opening.{OpeningOf}
use Rattle.sequences.proofs.Theorems as sequences
use Rattle.ledger.specs.declared.Run.{Run}
use Rattle.ledger.specs.declared.Offered.{Offered}
use Rattle.ledger.specs.Ledger.{begun, offered}

-- the answer and the three lent tables after a reading
pub read_unique : (task facts costs shares : List ℕ) (x y : Outcome)
    → x ≡ read_text task facts costs shares → y ≡ read_text task facts costs shares → x ≡ y
read_unique task facts costs shares x y p q = p ∙ sym q

-- of a text in pieces: the text so far; with the answer and every byte of the lent area after a piece, and with the answer and the three lent tables after the end
pub begin_text_unique : (x y : SoFar) → x ≡ begun_text → y ≡ begun_text → x ≡ y
begin_text_unique x y p q = p ∙ sym q

pub take_piece_unique : (text : SoFar) (area piece : List ℕ) (x y : PieceLeft) → x ≡ piece_taken text area piece → y ≡ piece_taken text area piece → x ≡ y
take_piece_unique text area piece x y p q = p ∙ sym q

pub end_text_unique : (text : SoFar) (area facts costs shares : List ℕ) (x y : EndLeft)
    → x ≡ text_ended text area facts costs shares → y ≡ text_ended text area facts costs shares → x ≡ y
end_text_unique text area facts costs shares x y p q = p ∙ sym q

-- the answer and the lent buffer after a writing
pub write_unique : (t : Tables) (buffer : List ℕ) (x y : Page) → x ≡ write_text t buffer → y ≡ write_text t buffer → x ≡ y
write_unique t buffer x y p q = p ∙ sym q

pub check_unique : (t : Tables) (x y : Found) → x ≡ tables_fault t → y ≡ tables_fault t → x ≡ y
check_unique t x y p q = p ∙ sym q

-- answer, count of rounds and both tables together
pub distances_unique : (t : Tables) (map : ℕ) (out best : List ℕ) (x y : views.Outcome)
    → DistancesGiven t map out best x.answer x.table x.best → DistancesGiven t map out best y.answer y.table y.best → x ≡ y
distances_unique t map out best x y p q = views.distances_unique t map out best x y p q

pub distance_at_unique : (t : Tables) (map : ℕ) (state : List ℕ) (x y : Result (Option ℕ) Refusal)
    → DistanceGiven t map state x → DistanceGiven t map state y → x ≡ y
distance_at_unique t map state x y p q = views.distance_at_unique t map state x y p q

pub best_at_unique : (t : Tables) (map : ℕ) (state : List ℕ) (x y : Result (Option ℕ) Refusal) → BestGiven t map state x → BestGiven t map state y → x ≡ y
best_at_unique t map state x y p q = views.best_at_unique t map state x y p q

pub bound_unique : (t : Tables) (state : List ℕ) (x y : Result (Option ℕ) Refusal) → BoundGiven t state x → BoundGiven t state y → x ≡ y
bound_unique t state x y p q = views.bound_unique t state x y p q

pub judge_unique : (t : Tables) (state ops : List ℕ) (x y : Result ℕ Refusal) → x ≡ judged_of t state ops → y ≡ judged_of t state ops → x ≡ y
judge_unique t state ops x y p q = p ∙ sym q

pub cheaper_unique : (t : Tables) (state a b : List ℕ) (x y : Result Cheaper Refusal) → x ≡ cheaper_of t state a b → y ≡ cheaper_of t state a b → x ≡ y
cheaper_unique t state a b x y p q = p ∙ sym q

-- where the part stands, and what it holds
pub opening_unique : (t : Tables) (state : List ℕ) (a b x y : Bor (List ℕ)) → OpeningOf t state a b x → OpeningOf t state a b y
    → (x.ref_ptr ≡ y.ref_ptr) × (x.now ≡ y.now)
opening_unique t state a b x y p q = sequences.opening_unique t state a b x y p q

-- the answer and the run handed back
pub begin_unique : (t : Tables) (start : List ℕ) (x y : Offered) → x ≡ begun t start → y ≡ begun t start → x ≡ y
begin_unique t start x y p q = p ∙ sym q

pub offer_unique : (t : Tables) (run : Run) (number op : ℕ) (x y : Offered)
    → x ≡ offered t run number op → y ≡ offered t run number op → x ≡ y
offer_unique t run number op x y p q = p ∙ sym q
