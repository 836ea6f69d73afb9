-- What a reading leaves in lent tables of enough room agrees with the tables of its text at every place: beyond them it is 0, and so is what is read beyond a
-- table's end. So what is computed of the tables of the text gives the claims of the tables that are left. Assumes nothing.
use Rattle.std.specs.Prelude.{Result, Err}
use mathlib.Core.Path.{◌≡◌, refl, sym, ap, ◌∙◌, subst}
use mathlib.Core.Logic.{◌↔◌}
use mathlib.Core.List.{List, [], ◌∷◌}
use mathlib.Core.Bool.{true, cond, ◌&&◌}
use Prim.Native.Nat.{ℕ, ◌-◌, ◌<◌}
use native.Mathlib.Omega.{arith}
use lib.Dec.{leb}
use lib.ListN.{length, get_or, replicate, length-append}
use borrow.Author.Tests.{leb-true, le-leb}
use Rattle.refusals.specs.declared.Refusal.{Refusal}
use Rattle.scan.specs.Found.{clean}
use Rattle.refusals.specs.declared.Refusal.TheVariants.{TableTooShort, NotARun}
use Rattle.meaning.specs.Bound.{away, bound}
use Rattle.meaning.proofs.Facts.{and_left, and_right}
use Rattle.meaning.proofs.Unread.{states_alike, view_alike}
use Rattle.tables.specs.Layout.{Tables, facts_room, costs_room, shares_room, dom_place, init_place, goal_place, pre_place, eff_place, class_place, mark_place, share_place}
use Rattle.tables.specs.Editions.{read_in}
use Rattle.tables.specs.Task.{task_of, tables, state_of}
use Rattle.tables.specs.Steps.{copied}
use Rattle.scan.specs.Scan.{unless, task_fault, roomy, tables_fault}
use Rattle.scan.specs.Own.{OwnSame}
use Rattle.scan.proofs.Walks.{clean_first, rule_held}
use Rattle.scan.proofs.Unread.{ReadAlike, read_back, own_alike, state_own}
use Rattle.grammar.specs.Fields.{filled}
use Rattle.grammar.proofs.SpellLeft.{filled_at}
use Rattle.views.specs.Entries.{IsBest}
use Rattle.views.proofs.Unread.{distances_given_alike, distance_given_alike, best_given_alike, bound_given_alike}
use Rattle.sequences.specs.Judging.{limited}
use Rattle.sequences.proofs.Unread.{judged_alike}
use Rattle.ledger.specs.declared.Run.{Run}
use Rattle.ledger.specs.declared.Answer.{Answer}
use Rattle.ledger.specs.declared.Offered.{Offered}
use Rattle.ledger.specs.Ledger.{fresh, is_run, offer_judged, answered, moved, offered}
use Rattle.ledger.proofs.Unread.{offered_alike, begun_alike}
use Rattle.cases.specs.Told.{yes!, of_sequence, of_offer, Offering, Claim, distances, distance_at, best_at, bound_at, judging, run, SaysThat, ClaimHolds}
use Rattle.cases.proofs.Contracts.{Inside, Shows, distances_exactly, distance_exactly, best_exactly, bound_exactly, judged_exactly, begun_is}

-- the tables of an accepted text, as they are left in the lent ones
abbrev pub left_in : Tables → List ℕ → List ℕ → List ℕ → Tables
left_in T f c s = tables T.counts (filled facts_room T.facts f) (filled costs_room T.costs c) (filled shares_room T.shares s)

filled_long : (room : ℕ) (xs lent : List ℕ) → leb room (length xs) ≡ true → leb room (length (filled room xs lent)) ≡ true
unfolding filled
filled_long room xs lent h =
    le-leb room _ (omega (arith, leb-true room (length xs) h, length-append xs (replicate (length lent - room) 0)))

-- ---- what is computed of the tables of a text, past their faults

-- an offer past the tables' faults
abbrev pub answered_past : Tables → Run → ℕ → ℕ → Result Answer Refusal
answered_past t r number o = cond (is_run t r) (offer_judged t.counts t.facts r number o) (Err NotARun)

abbrev pub offered_past : Tables → Run → ℕ → ℕ → Offered
offered_past t r number o = record { run = moved t r o (answered_past t r number o); answer = answered_past t r number o }

abbrev pub SaysPast : Tables → Run → List Offering → Type 0
SaysPast T r [] = Unit {0}
SaysPast T r (x ∷ xs) =
    (of_offer (offered_past T r x.number x.operator).answer ≡ x.answer)
    × ((offered_past T r x.number x.operator).run.columns ≡ x.columns)
    × SaysPast T (offered_past T r x.number x.operator).run xs

abbrev pub Shown : Tables → Claim → Type 0
Shown T (distances m ds r bs) = Shows (task_of T) m ds r bs
Shown T (distance_at m s v) = (m < T.counts.maps) × Inside (task_of T) s × (away (task_of T) (state_of s) m ≡ v)
Shown T (best_at m s x) = (m < T.counts.maps) × Inside (task_of T) s × IsBest (task_of T) (state_of s) m x
Shown T (bound_at s v) = Inside (task_of T) s × (bound (task_of T) (state_of s) ≡ v)
Shown T (judging s os x) = Inside (task_of T) s × (of_sequence (limited (task_of T) (state_of s) os) ≡ x)
Shown T (run s xs) = Inside (task_of T) s × SaysPast T (fresh (copied s T.counts.vars)) xs

-- ---- what is left is read alike, and what is shown of the text's tables is claimed of it

-- what is equivalent to one of two is so to the other
through : {P Q R : Type 0} → (P → Q) → (Q → P) → P ↔ R → Q ↔ R
through to from e = (λ q. e.0 (from q), λ r. to (e.1 r))

module _ (T : Tables) (f c s : List ℕ) (clean : tables_fault T ≡ clean) where
  abbrev U : Tables
  U = left_in T f c s

  roomy_clean : roomy T ≡ true
  unfolding tables_fault
  roomy_clean = rule_held (roomy T) TableTooShort (clean_first (unless (roomy T) TableTooShort) (task_fault (task_of T)) clean)

  roomy_left : roomy U ≡ true
  unfolding roomy
  roomy_left =
      let h = roomy_clean in
      let a = leb facts_room (length T.facts) in
      let b = leb costs_room (length T.costs) in
      let d = leb shares_room (length T.shares) in
      let two = and_left (a && b) d h in
      rw (filled_long facts_room T.facts f (and_left a b two), filled_long costs_room T.costs c (and_right a b two), filled_long shares_room T.shares s (and_right (a && b) d h)) refl

  left_own : OwnSame T U
  left_own =
      let fact : (p : ℕ) → get_or T.facts p 0 ≡ get_or (filled facts_room T.facts f) p 0 = λ p. sym (filled_at facts_room T.facts f p) in
      record {
        counts = record { vars = refl; ops = refl; maps = refl; edition = refl; quota = refl };
        room = roomy_clean ∙ sym roomy_left;
        dom = λ v l. fact (dom_place v);
        init = λ v l. fact (init_place v);
        goal = λ v l. fact (goal_place v);
        pre = λ o v lo l. fact (pre_place o v);
        eff = λ o v lo l. fact (eff_place o v);
        class = λ m v x lm l h. fact (class_place m v x);
        cost = λ o l. sym (filled_at costs_room T.costs c o);
        share = λ m o lm l. sym (filled_at shares_room T.shares s (share_place m o));
        mark = λ o l. ap (read_in T.counts.edition) (fact (mark_place o));
      }

  alike : ReadAlike T U
  alike = own_alike T U left_own

  back : ReadAlike U T
  back = read_back T U alike

  -- past the faults of clean tables there is nothing but the offer
  past : (r : Run) (number o : ℕ) → offered_past T r number o ≡ offered T r number o
  unfolding offered answered
  past r number o = rw clean refl

  left_says : (r : Run) (xs : List Offering) → SaysPast T r xs → SaysThat U r xs
  left_says r [] h = tt
  left_says r (x ∷ xs) h =
      subst (λ (o : Offered). (of_offer o.answer ≡ x.answer) × (o.run.columns ≡ x.columns) × SaysThat U o.run xs)
      (past r x.number x.operator ∙ offered_alike alike r x.number x.operator)
      (h.0, h.1, left_says (offered_past T r x.number x.operator).run xs h.2)

  pub left_holds : (x : Claim) → Shown T x → ClaimHolds U x
  left_holds (distances m ds r bs) h =
      let p = distances_exactly T clean m ds r bs h in
      let E = alike.task clean in
      let states = states_alike E.sas (view_alike E m h.asked) in (
        p.0 ∙ states,
        p.1 ∙ states,
        λ out best l k answer out' best'.
            through (distances_given_alike alike m out best out' best' answer) (distances_given_alike back m out best out' best' answer)
            (p.2 out best l k answer out' best'),
      )
  left_holds (distance_at m u v) h =
      λ answer.
      through (distance_given_alike alike u u (state_own T.counts u) m answer) (distance_given_alike back u u (state_own T.counts u) m answer)
      (distance_exactly T clean m u v h.0 h.1 h.2 answer)
  left_holds (best_at m u x) h =
      λ answer.
      through (best_given_alike alike u u (state_own T.counts u) m answer) (best_given_alike back u u (state_own T.counts u) m answer)
      (best_exactly T clean m u x h.0 h.1 h.2 answer)
  left_holds (bound_at u v) h =
      λ answer.
      through (bound_given_alike alike u u (state_own T.counts u) answer) (bound_given_alike back u u (state_own T.counts u) answer)
      (bound_exactly T clean u v h.0 h.1 answer)
  left_holds (judging u os x) h =
      ap of_sequence (sym (judged_alike alike u u (state_own T.counts u) os)) ∙ judged_exactly T clean u os x h.0 h.1
  left_holds (run u xs) h =
      subst (λ (o : Offered). (of_offer o.answer ≡ yes!) × SaysThat U o.run xs)
      (sym (begun_is T clean u h.0) ∙ begun_alike alike u u (state_own T.counts u))
      (refl, left_says (fresh (copied u T.counts.vars)) xs h.1)
