-- READING ACCEPTS EXACTLY THE TEXTS THAT SPELL TASKS, and gives their tables, with 0 beyond the task's own places.
-- What an accepted text spells passes the scan, for the scan is the grammar; and a valid task's text is accepted for the same reason. Assumes nothing.
use Prim.Native.Nat.{ℕ, zero, suc, ◌<◌}
use native.Mathlib.Omega.{arith}
use mathlib.Core.Path.{◌≡◌, refl, sym, ap, ◌∙◌}
use mathlib.Core.List.{List, ◌∷◌, ◌++◌}
use mathlib.Core.Bool.{true}
use lib.ListN.{length, get_or, length-replicate}
use Rattle.std.specs.Prelude.{Ok, Err}
use Rattle.scan.specs.Found.{Found, clean}
use Rattle.refusals.specs.declared.Refusal.TheVariants.{TableTooShort}
use Rattle.meaning.specs.Split.{Task, Valid}
use Rattle.tables.specs.Layout.{
  Tables,
  facts_room,
  costs_room,
  shares_room,
  dom_place,
  init_place,
  goal_place,
  pre_place,
  eff_place,
  mark_place,
  dom_at,
  init_at,
  goal_at,
  pre_at,
  eff_at,
  class_at,
  mark_at,
}
use Rattle.tables.specs.Editions.{read_in}
use Rattle.tables.specs.Task.{task_of}
use Rattle.scan.specs.Scan.{unless, task_fault, roomy, tables_fault}
use Rattle.scan.proofs.Rules.{task_is}
use Rattle.scan.proofs.Walks.{clean_next}
use Rattle.scan.proofs.Validity.{clean_valid, valid_clean}
use Rattle.grammar.specs.Fields.{comma, slash, semicolon}
use Rattle.grammar.specs.Grammar.{accepted, verdict}
use Rattle.grammar.specs.Spelling.{digits, numbers, some_facts, keyed, spelled_in, op_text, map_text, share_text, spelled, text_of, changed, op_rows, map_rows, head_rows, tables_of, canon}
use Rattle.grammar.proofs.Editions.{OnlySecond, ByEdition, tables_by_edition, read_whole}
use Rattle.grammar.proofs.SpellParts.{judged}
use Rattle.grammar.proofs.SpellTables.{zeros, long_changed, long_row}
use Rattle.grammar.proofs.SpellOwn.{Small, long_head, long_op, long_facts_of, long_shares_of, spares_head, head_dom, head_init}
use Rattle.grammar.proofs.SpellOwn.{head_goal, spares_ops_low, ops_pre, ops_eff, ops_mark, spares_maps, maps_class, costs_own, shares_own}
use Rattle.grammar.proofs.SpellTask.{spelled_judged, scan_is_grammar, clean_accepted}
use Rattle.grammar.proofs.SpellBack.{not_refused, joined_same, stacked_same}
use Rattle.grammar.proofs.SpellBackFacts.{some_same}
use Rattle.grammar.proofs.SpellBackTask.{accepted_task}

-- ---- a clean task is small

pub clean_small : (τ : Task) → task_fault τ ≡ clean → Small τ
clean_small τ p =
    let q = (task_is τ).0 p in
    let head = q.0.1 in
    record { vars = head.0.1; doms = λ v h. (head.1.0 v h).1; ops = head.1.1.1.1.1; maps = q.1.0.1.0.1 }

-- ---- the tables of a small task spell the same text

module _ (τ : Task) (s : Small τ) where
  module _ (w : List ℕ) (l : length w ≡ facts_room) (z : (p : ℕ) → get_or w p 0 ≡ 0) where
    abbrev ops_in : List ℕ
    ops_in = changed (op_rows τ) τ.sas.ops 0 (head_rows τ w)

    abbrev facts_in : List ℕ
    facts_in = changed (map_rows τ) τ.maps 0 ops_in

    in_head : (p : ℕ) → p < 24 → get_or facts_in p 0 ≡ get_or (head_rows τ w) p 0
    in_head p h = spares_maps τ s p (λ m v x a b c e. omega arith) ops_in ∙ spares_ops_low τ s p h (head_rows τ w)

    dom_in : (v : ℕ) → v < τ.sas.vars → dom_at facts_in v ≡ τ.sas.dom v
    dom_in v h = let a = s.vars in in_head (dom_place v) (omega arith) ∙ head_dom τ s w l z v h

    init_in : (v : ℕ) → v < τ.sas.vars → init_at facts_in v ≡ τ.sas.init v
    init_in v h = let a = s.vars in in_head (init_place v) (omega arith) ∙ head_init τ s w l z v h

    goal_in : (v : ℕ) → v < τ.sas.vars → goal_at facts_in v ≡ τ.sas.goal v
    goal_in v h = let a = s.vars in in_head (goal_place v) (omega arith) ∙ head_goal τ s w l z v h

    pre_in : (o v : ℕ) → o < τ.sas.ops → v < τ.sas.vars → pre_at facts_in o v ≡ τ.sas.pre o v
    pre_in o v k h =
        let a = s.vars in
        let b = s.ops in
        spares_maps τ s (pre_place o v) (λ m u x c d g e. omega arith) ops_in
        ∙ ops_pre τ s o v k h (head_rows τ w) (long_head τ w ∙ l) (spares_head τ s.vars (pre_place o v) (omega arith) w ∙ z (pre_place o v))

    eff_in : (o v : ℕ) → o < τ.sas.ops → v < τ.sas.vars → eff_at facts_in o v ≡ τ.sas.eff o v
    eff_in o v k h =
        let a = s.vars in
        let b = s.ops in
        spares_maps τ s (eff_place o v) (λ m u x c d g e. omega arith) ops_in
        ∙ ops_eff τ s o v k h (head_rows τ w) (long_head τ w ∙ l) (spares_head τ s.vars (eff_place o v) (omega arith) w ∙ z (eff_place o v))

    mark_in : ByEdition τ → (o : ℕ) → o < τ.sas.ops → mark_at facts_in o ≡ τ.mark o
    mark_in by o k =
        let b = s.ops in
        spares_maps τ s (mark_place o) (λ m u x c d g e. omega arith) ops_in
        ∙ ops_mark τ s by o k (head_rows τ w) (long_head τ w ∙ l) (spares_head τ s.vars (mark_place o) (omega arith) w ∙ z (mark_place o))

    class_in : (m v x : ℕ) → m < τ.maps → v < τ.sas.vars → x < τ.sas.dom v → class_at facts_in m v x ≡ τ.class m v x
    class_in m v x k h g =
        maps_class τ s m v x k h g ops_in (long_changed (op_rows τ) (long_op τ) τ.sas.ops 0 (head_rows τ w) ∙ long_head τ w ∙ l)

numbers_same : (f g : ℕ → ℕ) (n : ℕ) → ((i : ℕ) → i < n → f i ≡ g i) → numbers f n ≡ numbers g n
unfolding numbers
numbers_same f g n h = joined_same comma (λ i. digits (f i)) (λ i. digits (g i)) n 0 (λ i a b. ap digits (h i (omega arith)))

share_same : (f g : ℕ → ℕ) (n : ℕ) → ((i : ℕ) → i < n → f i ≡ g i) → share_text f n ≡ share_text g n
unfolding share_text
share_same f g zero h = refl
share_same f g (suc n) h = numbers_same f g (suc n) h

-- two tasks that agree in their own numbers
pub record Agree (σ τ : Task) : Type 0 where
  pub dom : (v : ℕ) → v < τ.sas.vars → σ.sas.dom v ≡ τ.sas.dom v
  pub init : (v : ℕ) → v < τ.sas.vars → σ.sas.init v ≡ τ.sas.init v
  pub goal : (v : ℕ) → v < τ.sas.vars → σ.sas.goal v ≡ τ.sas.goal v
  pub quota : σ.quota ≡ τ.quota
  pub cost : (o : ℕ) → o < τ.sas.ops → σ.sas.cost o ≡ τ.sas.cost o
  pub pre : (o v : ℕ) → o < τ.sas.ops → v < τ.sas.vars → σ.sas.pre o v ≡ τ.sas.pre o v
  pub eff : (o v : ℕ) → o < τ.sas.ops → v < τ.sas.vars → σ.sas.eff o v ≡ τ.sas.eff o v
  pub mark : (o : ℕ) → o < τ.sas.ops → σ.mark o ≡ τ.mark o
  pub class : (m v x : ℕ) → m < τ.maps → v < τ.sas.vars → x < τ.sas.dom v → σ.class m v x ≡ τ.class m v x
  pub share : (m o : ℕ) → m < τ.maps → o < τ.sas.ops → σ.share m o ≡ τ.share m o

-- what edition 2 alone reads is read of its place
pub read_own : (e x y : ℕ) → x ≡ y → OnlySecond e y → read_in e x ≡ y
read_own e x y p z = ap (read_in e) p ∙ read_whole e y z

pub own_numbers : (τ : Task) → Small τ → ByEdition τ → Agree (task_of (tables_of τ)) τ
unfolding tables_of
own_numbers τ s by =
    let l = length-replicate {A = ℕ} facts_room 0 in
    let z = zeros facts_room in
    record {
      dom = dom_in τ s _ l z;
      init = init_in τ s _ l z;
      goal = goal_in τ s _ l z;
      quota = read_own τ.edition _ τ.quota (read_whole τ.edition τ.quota by.quota) by.quota;
      cost = costs_own τ s _ (length-replicate {A = ℕ} costs_room 0);
      pre = pre_in τ s _ l z;
      eff = eff_in τ s _ l z;
      mark = λ o h. read_own τ.edition _ (τ.mark o) (mark_in τ s _ l z by o h) (by.mark o);
      class = class_in τ s _ l z;
      share = shares_own τ s _ (length-replicate {A = ℕ} shares_room 0);
    }

same_lines : (a b c c' d d' e e' f g h h' i j j' k k' : List ℕ) → c ≡ c' → d ≡ d' → e ≡ e' → h ≡ h' → j ≡ j' → k ≡ k'
    → a ++ b ++ c ++ d ++ e ++ f ++ g ++ h ++ i ++ j ++ k ≡ a ++ b ++ c' ++ d' ++ e' ++ f ++ g ++ h' ++ i ++ j' ++ k'
same_lines a b c c' d d' e e' f g h h' i j j' k k' p₁ p₂ p₃ p₄ p₅ p₆ = cc

op_same : (N e c c' x x' : ℕ) (F F' E E' : ℕ → ℕ) → c ≡ c' → x ≡ x' → ((v : ℕ) → v < N → F v ≡ F' v) → ((v : ℕ) → v < N → E v ≡ E' v)
    → digits c ++ semicolon ∷ some_facts F N 0 ++ semicolon ∷ some_facts E N 0 ++ spelled_in e (semicolon ∷ digits x)
    ≡ digits c' ++ semicolon ∷ some_facts F' N 0 ++ semicolon ∷ some_facts E' N 0 ++ spelled_in e (semicolon ∷ digits x')
op_same N e c c' x x' F F' E E' p m q r =
    let a = some_same F F' N 0 (λ v y z. q v (omega arith)) in
    let b = some_same E E' N 0 (λ v y z. r v (omega arith)) in
    cc

-- tasks of the same counts that agree in their own numbers have one text
pub agree_spelled : (σ τ : Task) → σ.edition ≡ τ.edition → σ.sas.vars ≡ τ.sas.vars → σ.sas.ops ≡ τ.sas.ops → σ.maps ≡ τ.maps → Agree σ τ → spelled σ ≡ spelled τ
unfolding spelled op_text map_text
agree_spelled σ τ t p q r a =
    let N = τ.sas.vars in
    let e = τ.edition in
    rw (t, p, q, r, a.quota)
    (same_lines (keyed "edition=" (digits e)) (keyed "vars=" (digits N)) _ _ _ _ _ _ (spelled_in e (keyed "quota=" (digits τ.quota))) (keyed "ops=" (digits τ.sas.ops)) _ _
    (keyed "maps=" (digits τ.maps)) _ _ _ _
    (ap (keyed "dom=") (numbers_same σ.sas.dom τ.sas.dom N a.dom))
    (ap (keyed "init=") (numbers_same σ.sas.init τ.sas.init N a.init))
    (ap (keyed "goal=") (some_same σ.sas.goal τ.sas.goal N 0 (λ v x y. a.goal v (omega arith))))
    (stacked_same _ _ τ.sas.ops 0
    (λ o x y. ap (keyed "op=")
    (op_same N e (σ.sas.cost o) (τ.sas.cost o) (σ.mark o) (τ.mark o) (σ.sas.pre o) (τ.sas.pre o) (σ.sas.eff o) (τ.sas.eff o) (a.cost o (omega arith)) (a.mark o (omega arith))
    (λ v h. a.pre o v (omega arith) h) (λ v h. a.eff o v (omega arith) h))))
    (stacked_same _ _ τ.maps 0
    (λ m x y. ap (keyed "map=")
    (joined_same slash (λ v. numbers (σ.class m v) (σ.sas.dom v)) (λ v. numbers (τ.class m v) (τ.sas.dom v)) N 0
    (λ v g h. ap (numbers (σ.class m v)) (a.dom v (omega arith))
    ∙ numbers_same (σ.class m v) (τ.class m v) (τ.sas.dom v) (λ i l. a.class m v i (omega arith) (omega arith) l)))))
    (stacked_same _ _ τ.maps 0
    (λ m x y. ap (keyed "share=") (share_same (σ.share m) (τ.share m) τ.sas.ops (λ o h. a.share m o (omega arith) h)))))

-- so the tables of a small task spell its text
pub tables_spell : (τ : Task) → Small τ → ByEdition τ → text_of (tables_of τ) ≡ spelled τ
unfolding tables_of
tables_spell τ s by = agree_spelled (task_of (tables_of τ)) τ refl refl refl refl (own_numbers τ s by)

-- ---- the theorems

pub judged_accepted : (f : Found) (U T : Tables) → judged f (accepted U) ≡ accepted T → (f ≡ clean) × (U ≡ T)
judged_accepted (Ok tt) U T p = (refl, cc)
judged_accepted (Err r) U T p = not_refused p

-- the tables of a task have room
roomy_of : (t : Tables) → length t.facts ≡ facts_room → length t.costs ≡ costs_room → length t.shares ≡ shares_room → roomy t ≡ true
unfolding roomy
roomy_of t p q r = rw (p, q, r) refl

canon_roomy : (t : Tables) → roomy (canon t) ≡ true
unfolding tables_of
canon_roomy t =
    let τ = task_of t in
    roomy_of (canon t) (long_facts_of τ _ ∙ length-replicate {A = ℕ} facts_room 0)
    (long_row (λ o. o) τ.sas.cost τ.sas.ops _ ∙ length-replicate {A = ℕ} costs_room 0) (long_shares_of τ _ ∙ length-replicate {A = ℕ} shares_room 0)

-- the text x spells the valid task of the tables T, in which every other place is 0
pub record Spells (x : List ℕ) (T : Tables) : Type 0 where
  pub text : text_of T ≡ x
  pub own : T ≡ canon T
  pub valid : Valid (task_of T)

pub own_roomy : (T : Tables) → T ≡ canon T → roomy T ≡ true
own_roomy T p = ap roomy p ∙ canon_roomy T

-- what an accepted text leaves passes the scan
record Left (x : List ℕ) (T : Tables) : Type 0 where
  text : text_of T ≡ x
  own : T ≡ canon T
  clean : task_fault (task_of T) ≡ clean

left : (x : List ℕ) (T : Tables) → verdict x ≡ accepted T → Left x T
left x T h =
    let t = accepted_task x T h in
    let τ = t.0 in
    let j = judged_accepted (task_fault τ) (tables_of τ) T (sym (spelled_judged τ t.2) ∙ ap verdict (sym t.1) ∙ h) in
    let p : text_of T ≡ x = ap text_of (sym j.1) ∙ tables_spell τ (clean_small τ j.0) t.2 ∙ sym t.1 in
    let i = judged_accepted (task_fault (task_of T)) (canon T) T (sym (scan_is_grammar T) ∙ ap verdict p ∙ h) in
    record { text = p; own = sym i.1; clean = i.0 }

pub accepted_clean : (x : List ℕ) (T : Tables) → verdict x ≡ accepted T → tables_fault T ≡ clean
unfolding tables_fault
accepted_clean x T h = let l = left x T h in rw (own_roomy T l.own) l.clean

-- ACCEPTED EXACTLY IF IT SPELLS A VALID TASK
pub accepted_spells : (x : List ℕ) (T : Tables) → verdict x ≡ accepted T → Spells x T
accepted_spells x T h = let l = left x T h in record { text = l.text; own = l.own; valid = clean_valid T (accepted_clean x T h) }

pub spells_accepted : (x : List ℕ) (T : Tables) → Spells x T → verdict x ≡ accepted T
unfolding tables_fault
spells_accepted x T s =
    let c = valid_clean T (own_roomy T s.own) s.valid in
    ap verdict (sym s.text) ∙ clean_accepted T (clean_next (unless (roomy T) TableTooShort) (task_fault (task_of T)) c) ∙ ap accepted (sym s.own)

-- ---- one text a task

-- only the task's own places are spelled
pub own_places_spelled : (t : Tables) → task_fault (task_of t) ≡ clean → text_of (canon t) ≡ text_of t
own_places_spelled t p = tables_spell (task_of t) (clean_small (task_of t) p) (tables_by_edition t)

-- tables with one text are those of one task
pub one_text : (t u : Tables) → task_fault (task_of t) ≡ clean → text_of t ≡ text_of u → canon t ≡ canon u
one_text t u p e =
    sym (judged_accepted (task_fault (task_of u)) (canon u) (canon t) (sym (scan_is_grammar u) ∙ ap verdict (sym e) ∙ clean_accepted t p)).1
