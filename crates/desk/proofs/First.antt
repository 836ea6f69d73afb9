-- IN EDITION 1 NO ANSWER DEPENDS ON QUOTA AND MARKS, entry by entry: tables of edition 1 that are the same but for these get the same answers and leave the same
-- bytes and runs, whatever their counts; so edition 1 answers as it did before there were any. From the rooms' laws of tables that are read alike. Assumes nothing.
use Rattle.std.specs.Result.{result_map_both}
use Rattle.std.specs.Prelude.{Result, Option}
use mathlib.Core.Path.{◌≡◌, refl, ap}
use mathlib.Core.List.{List}
use Prim.Native.Nat.{ℕ}
use denote.Ref.{Bor}
use Rattle.refusals.specs.declared.Refusal.{Refusal}
use Rattle.scan.specs.Found.{Found}
use Rattle.refusals.specs.declared.Refusal.TheVariants.{TableTooShort}
use lib.Dec.{leb}
use lib.ListN.{length}
use Rattle.tables.specs.Layout.{Tables}
use Rattle.scan.specs.Scan.{unless, ◌then◌, tables_fault}
use Rattle.scan.proofs.Walks.{clean_next}
use Rattle.scan.proofs.Unread.{ReadAlike, unless_same, state_own}
use Rattle.scan.proofs.Validity.{clean_valid}
use Rattle.scan.proofs.Unstored.{SameButMarks, first_alike, first_own}
use Rattle.grammar.specs.Spelling.{text_of}
use Rattle.grammar.specs.Writing.{text_room, on_page, write_fault, write_text}
use Rattle.grammar.proofs.Unread.{own_text}
use Rattle.views.specs.Entries.{DistancesGiven, DistanceGiven, BestGiven, BoundGiven}
use Rattle.views.proofs.Unread as views
use Rattle.sequences.specs.declared.choosing.Choice.{Choice}
use Rattle.sequences.specs.Judging.{judged_of}
use Rattle.sequences.specs.Choosing.{named_of, cheaper_of}
use Rattle.sequences.specs.Opening.{OpeningOf}
use Rattle.sequences.proofs.Unread as sequences
use Rattle.ledger.specs.declared.Run.{Run}
use Rattle.ledger.specs.Ledger.{begun, offered}
use Rattle.ledger.proofs.Unread as ledger

-- every entry that takes tables answers the same over t and over u, and leaves the same
pub record SameAnswers (t u : Tables) : Type 0 where
  pub check : tables_fault t ≡ tables_fault u
  pub write : (buffer : List ℕ) → write_text t buffer ≡ write_text u buffer
  pub distances : (map : ℕ) (out best out' best' : List ℕ) (x : Result ℕ Refusal) → DistancesGiven t map out best x out' best'
      → DistancesGiven u map out best x out' best'
  pub distance_at : (map : ℕ) (s : List ℕ) (x : Result (Option ℕ) Refusal) → DistanceGiven t map s x → DistanceGiven u map s x
  pub best_at : (map : ℕ) (s : List ℕ) (x : Result (Option ℕ) Refusal) → BestGiven t map s x → BestGiven u map s x
  pub bound : (s : List ℕ) (x : Result (Option ℕ) Refusal) → BoundGiven t s x → BoundGiven u s x
  pub judge : (s ops : List ℕ) → judged_of t s ops ≡ judged_of u s ops
  pub cheaper : (s a b : List ℕ) → cheaper_of t s a b ≡ cheaper_of u s a b
  pub opening : (s : List ℕ) (a b r : Bor (List ℕ)) → OpeningOf t s a b r → OpeningOf u s a b r
  pub begin : (s : List ℕ) → begun t s ≡ begun u s
  pub offer : (run : Run) (number op : ℕ) → offered t run number op ≡ offered u run number op

module _ (t u : Tables) (E : SameButMarks t u) where
  alike : ReadAlike t u
  alike = first_alike t u E

  -- accepted tables spell the same text
  written_same : (buffer : List ℕ) → write_text t buffer ≡ write_text u buffer
  unfolding write_text on_page write_fault
  written_same buffer =
      let room = unless (leb text_room (length buffer)) TableTooShort in
      unless_same (λ f text. on_page f text buffer) (λ r x y. refl) (write_fault t buffer) (write_fault u buffer) (text_of t) (text_of u)
      (ap (λ (f : Found). room then f) alike.fault)
      (λ e. own_text t u (first_own t u E (clean_valid t (clean_next room (tables_fault t) e))))

  pub first_same_answers : SameAnswers t u
  first_same_answers =
      record {
        check = alike.fault;
        write = written_same;
        distances = λ map out best out' best' x. views.distances_given_alike alike map out best out' best' x;
        distance_at = λ map s x. views.distance_given_alike alike s s (state_own t.counts s) map x;
        best_at = λ map s x. views.best_given_alike alike s s (state_own t.counts s) map x;
        bound = λ s x. views.bound_given_alike alike s s (state_own t.counts s) x;
        judge = λ s ops. sequences.judged_alike alike s s (state_own t.counts s) ops;
        cheaper = λ s a b. ap (λ (d : Result Choice Refusal). result_map_both named_of (λ r. r) d) (sequences.chosen_alike alike s s (state_own t.counts s) a b);
        opening = λ s a b r. sequences.opening_alike alike s s (state_own t.counts s) a b r;
        begin = λ s. ledger.begun_alike alike s s (state_own t.counts s);
        offer = λ run number op. ledger.offered_alike alike run number op;
      }
