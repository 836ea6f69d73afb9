-- THE STARRED CASES HOLD, from text to answers, whatever tables of enough room are lent: every row of the table by one computation over the tables of its
-- text, and from those to the lent ones by `left_holds`. Assumes nothing.
use mathlib.Core.Path.{◌≡◌, refl, sym, subst}
use mathlib.Core.List.{List, [], ◌∷◌}
use Prim.Native.Nat.{ℕ, suc, ◌≤◌}
use lib.ListN.{length}
use mathlib.Core.Bool.{false, false≢true}
use Rattle.tables.specs.Lines.{quota_lines}
use Rattle.tables.specs.Steps.{row_holds, may_run, can_store, overwritten, stepped, copied}
use Rattle.scan.specs.Scan.{each, split_fault}
use Rattle.scan.proofs.Validity.{clean_valid}
use Rattle.refusals.specs.Listed.{number_of, place_of}
use Rattle.tables.specs.Layout.{facts_room, costs_room, shares_room}
use Rattle.grammar.specs.Fields.{is_digit, bytes_of}
use Rattle.grammar.specs.Grammar.{
  Verdict,
  accepted,
  refused,
  ◌▸◌,
  nothing,
  ask,
  keep,
  demand,
  lit,
  choice,
  run_len,
  decimal,
  formed,
  fits,
  numeral,
  parted,
  number_row,
  end_of_line,
  text_line,
  text_lines,
  edition_line,
  in_second,
  vars_line,
  dom_line,
  init_line,
  facts_from,
  fact_list,
  goal_line,
  quota_line,
  ops_line,
  mark_field,
  operator_fields,
  op_lines,
  class_list,
  class_lists,
  map_classes,
  maps_line,
  map_lines,
  amounts,
  share_lines,
  task_lines,
  settled,
  the_end,
  no_task,
  verdict,
  outcome,
}
use Rattle.grammar.proofs.Admission.{text_read}
use Rattle.grammar.proofs.SpellAccepted.{accepted_clean}
use Rattle.sequences.specs.Stepping.{step_of}
use Rattle.meaning.specs.Limits.{most_bytes, most_steps}
use Rattle.sweep.specs.Said.{said, advised}
use Rattle.sequences.specs.Judging.{walked, limited}
use Rattle.ledger.specs.Ledger.{booked, at_start, onward, fresh, advanced, can_run, within_quota, can_follow, replayed, given, start_at, start_in, zeros, is_run}
use Rattle.ledger.specs.Ledger.{old_step, next_step, offer_judged}
use Rattle.meaning.specs.Columns.{rest, gain}
use Rattle.meaning.specs.Quota.{may_store}
use Rattle.cases.specs.Told.{Told, yes!, no!, Claim, EachAt, Case, RightOf, Right}
use Rattle.cases.specs.Cases.{table}
use Rattle.cases.proofs.Tests.{Test, le?, told?, ◌and◌, into, always, each?}
use Rattle.cases.proofs.Rounds.{table_of, notes_of}
use Rattle.cases.proofs.Left.{Shown, left_holds}
use Rattle.cases.proofs.Claims.{shown?}

-- a refused text claims nothing
abbrev none? : (cs : List Claim) → Test (cs ≡ [])
none? [] = always refl
none? (c ∷ cs) = record { holds = false; so = λ h. absurd (false≢true h) }

-- what a verdict tells
abbrev tells : Verdict → Told
tells (accepted T) = yes!
tells (refused r) = no! (number_of r) (place_of r)

-- what is computed, of the tables that the text was accepted with
abbrev Computed : Verdict → List Claim → Type 0
Computed (accepted T) cs = EachAt (λ i x. Shown T x) 0 cs
Computed (refused r) cs = cs ≡ []

abbrev computed? : (text : List ℕ) (v : Verdict) → verdict text ≡ v → (cs : List Claim) → Test (Computed v cs)
computed? text (accepted T) e cs = each? (λ i x. Shown T x) (λ i x. shown? T (clean_valid T (accepted_clean text T e)) x) 0 cs
computed? text (refused r) e cs = none? cs

-- the text is one that is read, it tells what the case says, and what the case claims is computed
abbrev Stands : Case → Type 0
Stands x =
    (length (bytes_of x.text) ≤ most_bytes) × (tells (verdict (bytes_of x.text)) ≡ x.read) × Computed (verdict (bytes_of x.text)) x.claims

abbrev stands? : (x : Case) → Test (Stands x)
stands? x =
    into (λ p. (p.0, p.1.0, p.1.1))
    (le? (length (bytes_of x.text)) most_bytes
    and told? (tells (verdict (bytes_of x.text))) x.read
    and computed? (bytes_of x.text) (verdict (bytes_of x.text)) refl x.claims)

-- ---- a case that stands is right, whatever tables of enough room are lent

each_so : {X : Type 0} (P Q : ℕ → X → Type 0) → ((i : ℕ) (x : X) → P i x → Q i x) → (i : ℕ) (xs : List X) → EachAt P i xs → EachAt Q i xs
each_so P Q h i [] p = tt
each_so P Q h i (x ∷ xs) p = (h i x p.0, each_so P Q h (suc i) xs p.1)

module _ (f c s : List ℕ) where
  outcome_right : (x : Case) (text : List ℕ) (v : Verdict) → verdict text ≡ v → tells v ≡ x.read → Computed v x.claims → RightOf x (outcome v f c s)
  unfolding outcome
  outcome_right x text (accepted T) e p q =
      record { read = p; claims = each_so _ _ (λ i y h. left_holds T f c s (accepted_clean text T e) y h) 0 x.claims q }
  outcome_right x text (refused r) e p q = record { read = p; claims = q }

  module _ (a : facts_room ≤ length f) (b : costs_room ≤ length c) (d : shares_room ≤ length s) where
    stands_right : (x : Case) → Stands x → Right f c s x
    stands_right x p =
        let text = bytes_of x.text in
        subst (RightOf x) (sym (text_read text f c s a b d p.0)) (outcome_right x text (verdict text) refl p.1 p.2)

-- ---- what the computation opens, room by room: to open one of these is to open what it names

-- the characters and marks of a text
opened_marks : Unit {0}
unfolding is_digit ◌▸◌ nothing ask keep demand lit choice run_len decimal formed fits numeral parted number_row
opened_marks = tt

-- its lines
opened_lines : Unit {0}
unfolding end_of_line text_line text_lines edition_line in_second vars_line dom_line init_line facts_from fact_list goal_line quota_line ops_line mark_field operator_fields op_lines
opened_lines = tt

-- its maps and shares, and the verdict
opened_task : Unit {0}
unfolding class_list class_lists map_classes maps_line map_lines amounts share_lines task_lines settled the_end no_task verdict
opened_task = tt

-- the scan of the shares, and what the tables of distances and best steps say
opened_scan : Unit {0}
unfolding quota_lines each split_fault said advised
opened_scan = tt

-- steps and sequences
opened_steps : Unit {0}
unfolding row_holds may_run can_store may_store overwritten stepped copied most_steps step_of walked limited
opened_steps = tt

-- a run
opened_run : Unit {0}
unfolding rest gain booked at_start onward fresh advanced can_run within_quota can_follow replayed given start_at start_in zeros is_run old_step next_step offer_judged
opened_run = tt

pub cases_hold : (f c s : List ℕ) → facts_room ≤ length f → costs_room ≤ length c → shares_room ≤ length s → EachAt (λ i x. Right f c s x) 0 table
unfolding table table_of notes_of opened_marks opened_lines opened_task opened_scan opened_steps opened_run
cases_hold f c s a b d =
    each_so (λ i x. Stands x) (λ i x. Right f c s x) (λ i x h. stands_right f c s a b d x h) 0 table
    ((each? (λ i x. Stands x) (λ i x. stands? x) 0 table).so refl)
