-- Tables that agree at every place that is read have the same first fault, and so have the states beside them; and if there is none, they spell the same task.
-- Rule by rule, in the scan's order; that tables agree may be shown with what the rules before have let pass. Assumes nothing.
use Prim.Native.Nat.{ℕ, zero, suc, ◌+◌, ◌≤◌, ◌<◌}
use mathlib.Core.Path.{◌≡◌, refl, sym, ap, ap₂, ◌∙◌, fun_ext, subst}
use mathlib.Core.Bool.{Bool, true, ◌||◌, not}
use mathlib.Core.List.{List}
use native.Mathlib.Omega.{arith}
use lib.Dec.{leb, ltb, eqb}
use lib.ListN.{length}
use borrow.Author.Tests.{leb-true}
use Rattle.std.specs.Prelude.{Ok, Err}
use Rattle.scan.specs.Found.{Found, clean}
use Rattle.refusals.specs.declared.Refusal.{Refusal}
use Rattle.refusals.specs.declared.Refusal.TheVariants.{OutOfRange, ClassMissing, SharesAboveCost, TooManyStates, TableTooShort, ValueOutside, IdleOperator}
use Rattle.meaning.specs.Limits.{most_vars, most_values, most_ops, most_cost, most_maps, most_states, most_edition, most_quota, most_mark}
use Rattle.meaning.specs.Sas.{Facts}
use Rattle.meaning.specs.Views.{every, asked, idle}
use Rattle.meaning.specs.Split.{Task, count_of, Valid}
use Rattle.meaning.proofs.Facts.{by_cases, every_same}
use Rattle.meaning.proofs.Columns.{sum_same}
use Rattle.meaning.proofs.Unread.{size_alike, count_alike, SameTask, task_back}
use Rattle.tables.specs.declared.Counts.{Counts}
use Rattle.tables.specs.Layout.{Tables, dom_at, init_at, goal_at, pre_at, eff_at, class_at, cost_at, share_at, quota_of, mark_at, mark_of}
use Rattle.tables.specs.Editions.{has_quota, read_in}
use Rattle.tables.specs.Task.{tables, task_of, state_of}
use Rattle.tables.specs.Classes.{some_has, none_missing}
use Rattle.tables.specs.Lines.{line_of_edition, line_of_vars, line_of_dom, line_of_init, line_of_goal, line_of_quota, line_of_ops, line_of_op, line_of_maps, line_of_map, line_of_shares}
use Rattle.scan.specs.Scan.{unless, ◌then◌, each, within, facts_fault, operator_fault, classes_fault, map_fault, shares_fault, split_fault, task_fault, roomy}
use Rattle.scan.specs.Scan.{tables_fault, state_fault, input_fault}
use Rattle.scan.specs.Own.{SameCounts, OwnSame, OwnState}
use Rattle.scan.proofs.Walks.{clean_first, clean_next, rule_held, tests_held}
use Rattle.scan.proofs.Rules.{within_says}
use Rattle.scan.proofs.Validity.{clean_valid}

-- ---- rules one after another

-- what a fault decides alone, and where there is none x or y does
pub unless_same : {X Y : Type 0} (on : Found → X → Y) → ((r : Refusal) (x y : X) → on (Err r) x ≡ on (Err r) y)
    → (a b : Found) (x y : X) → a ≡ b → (a ≡ clean → x ≡ y) → on a x ≡ on b y
unless_same on skips a b x y p q = at a q ∙ ap (λ (f : Found). on f y) p
  where
    at : (f : Found) → (f ≡ clean → x ≡ y) → on f x ≡ on f y
    at (Ok tt) h = ap (on clean) (h refl)
    at (Err r) h = skips r x y

pub then_same : (a a' b b' : Found) → a ≡ a' → (a ≡ clean → b ≡ b') → a then b ≡ a' then b'
then_same a a' b b' = unless_same ◌then◌ (λ r x y. refl) a a' b b'

each_same : (f g : ℕ → Found) (n i : ℕ) → ((j : ℕ) → j < i + n → f j ≡ g j) → each f n i ≡ each g n i
unfolding each
each_same f g zero i h = refl
each_same f g (suc n) i h = ap₂ ◌then◌ (h i (omega arith)) (each_same f g n (suc i) (λ j l. h j (omega arith)))

walk_same : (f g : ℕ → Found) (n : ℕ) → ((j : ℕ) → j < n → f j ≡ g j) → each f n 0 ≡ each g n 0
walk_same f g n h = each_same f g n 0 (λ j l. h j (omega arith))

-- ---- classes that agree

some_same : (c c' : ℕ → ℕ) (n y : ℕ) → ((x : ℕ) → x < n → c x ≡ c' x) → some_has c n y ≡ some_has c' n y
some_same c c' zero y h = refl
some_same c c' (suc n) y h = ap₂ ◌||◌ (some_same c c' n y (λ x l. h x (omega arith))) (ap (λ (z : ℕ). eqb z y) (h n (omega arith)))

missing_same : (c c' : ℕ → ℕ) (n : ℕ) → ((x : ℕ) → x < n → c x ≡ c' x) → none_missing c n ≡ none_missing c' n
missing_same c c' n h = ap₂ every (fun_ext (λ y. some_same c c' n y h)) (count_alike c c' n h)

-- ---- tables of the same counts

-- the rules from the line of the numbers of values on
abbrev values : Task → Found
values T =
    each (λ v. unless (within 1 most_values (T.sas.dom v)) (OutOfRange line_of_dom)) T.sas.vars 0
    then each (λ v. unless (ltb (T.sas.init v) (T.sas.dom v)) (OutOfRange line_of_init)) T.sas.vars 0
    then facts_fault T T.sas.goal line_of_goal
    then unless (leb T.quota most_quota) (OutOfRange line_of_quota)
    then unless (leb T.sas.ops most_ops) (OutOfRange (line_of_ops T.edition))
    then each (operator_fault T) T.sas.ops 0
    then unless (within 1 most_maps T.maps) (OutOfRange (line_of_maps T.edition T.sas.ops))
    then each (map_fault T) T.maps 0
    then each (shares_fault T) T.maps 0
    then each (split_fault T) T.sas.ops 0

-- they agree at every place that is read: of operators, maps and values only those within the limits, for the scan is over before it reads others
pub record Agree (c : Counts) (f f' k k' s s' : List ℕ) : Type 0 where
  pub dom : (v : ℕ) → v < c.vars → dom_at f v ≡ dom_at f' v
  pub init : (v : ℕ) → v < c.vars → init_at f v ≡ init_at f' v
  pub goal : (v : ℕ) → v < c.vars → goal_at f v ≡ goal_at f' v
  pub pre : (o v : ℕ) → o < c.ops → o < most_ops → v < c.vars → pre_at f o v ≡ pre_at f' o v
  pub eff : (o v : ℕ) → o < c.ops → o < most_ops → v < c.vars → eff_at f o v ≡ eff_at f' o v
  pub class : (m v x : ℕ) → m < c.maps → m < most_maps → v < c.vars → x < dom_at f v → x < most_values → class_at f m v x ≡ class_at f' m v x
  pub cost : (o : ℕ) → o < c.ops → o < most_ops → cost_at k o ≡ cost_at k' o
  pub share : (m o : ℕ) → m < c.maps → o < c.ops → share_at s m o ≡ share_at s' m o
  pub mark : (o : ℕ) → o < c.ops → o < most_ops → mark_of c f o ≡ mark_of c f' o

module _ (c : Counts) (f f' k k' s s' : List ℕ) (A : Agree c f f' k k' s s') where
  abbrev T : Task
  T = task_of (tables c f k s)

  abbrev T' : Task
  T' = task_of (tables c f' k' s')

  facts_same : (F F' : Facts) (line : ℕ) → ((v : ℕ) → v < c.vars → F v ≡ F' v) → facts_fault T F line ≡ facts_fault T' F' line
  unfolding facts_fault
  facts_same F F' line h =
      walk_same (λ v. unless (leb (F v) (T.sas.dom v)) (OutOfRange line)) (λ v. unless (leb (F' v) (T'.sas.dom v)) (OutOfRange line)) c.vars
      (λ v l. ap₂ (λ (x d : ℕ). unless (leb x d) (OutOfRange line)) (h v l) (A.dom v l))

  idle_same : (o : ℕ) → o < c.ops → o < most_ops → idle T.sas o ≡ idle T'.sas o
  idle_same o l few =
      every_same (λ v. asked (T.sas.pre o v) (T.sas.eff o v)) (λ v. asked (T'.sas.pre o v) (T'.sas.eff o v)) c.vars
      (λ v g. ap₂ asked (A.pre o v l few g) (A.eff o v l few g))

  operator_same : (o : ℕ) → o < c.ops → o < most_ops → operator_fault T o ≡ operator_fault T' o
  unfolding operator_fault
  operator_same o l few =
      let line = line_of_op c.edition o in
      ap₂ ◌then◌ (ap (λ (x : ℕ). unless (leb x most_cost) (OutOfRange line)) (A.cost o l few))
      (ap₂ ◌then◌ (facts_same (T.sas.pre o) (T'.sas.pre o) line (λ v g. A.pre o v l few g))
      (ap₂ ◌then◌ (facts_same (T.sas.eff o) (T'.sas.eff o) line (λ v g. A.eff o v l few g))
      (ap₂ ◌then◌ (ap (λ (x : ℕ). unless (leb x most_mark) (OutOfRange line)) (A.mark o l few))
      (ap (λ (b : Bool). unless (not b) (IdleOperator line)) (idle_same o l few)))))

  -- the rules of a variable's classes, by its number of values
  abbrev rules : (ℕ → ℕ) → ℕ → ℕ → Found
  rules class line d = each (λ x. unless (ltb (class x) d) (OutOfRange line)) d 0 then unless (none_missing class d) (ClassMissing line)

  -- a map and numbers of values within the limits
  module _ (m : ℕ) (lm : m < c.maps) (few : m < most_maps) (fits : (v : ℕ) → v < c.vars → dom_at f v ≤ most_values) where
    class_same : (v x : ℕ) → v < c.vars → x < dom_at f v → T.class m v x ≡ T'.class m v x
    class_same v x l h = A.class m v x lm few l h (omega (arith, fits v l))

    classes_same : (v line : ℕ) → v < c.vars → classes_fault T m line v ≡ classes_fault T' m line v
    unfolding classes_fault
    classes_same v line l =
        let d = dom_at f v in
        ap₂ ◌then◌
        (walk_same (λ x. unless (ltb (T.class m v x) d) (OutOfRange line)) (λ x. unless (ltb (T'.class m v x) d) (OutOfRange line)) d
        (λ x h. ap (λ (y : ℕ). unless (ltb y d) (OutOfRange line)) (class_same v x l h)))
        (ap (λ (y : Bool). unless y (ClassMissing line)) (missing_same (T.class m v) (T'.class m v) d (λ x h. class_same v x l h)))
        ∙ ap (rules (T'.class m v) line) (A.dom v l)

    map_same : map_fault T m ≡ map_fault T' m
    unfolding map_fault
    map_same =
        let line = line_of_map c.edition c.ops m in
        ap₂ ◌then◌ (walk_same (classes_fault T m line) (classes_fault T' m line) c.vars (λ v l. classes_same v line l))
        (ap (λ (x : ℕ). unless (leb x most_states) (TooManyStates line))
        (size_alike (λ v. count_of (T.class m v) (T.sas.dom v)) (λ v. count_of (T'.class m v) (T'.sas.dom v)) c.vars
        (λ v l. count_alike (T.class m v) (T'.class m v) (dom_at f v) (λ x h. class_same v x l h) ∙ ap (count_of (T'.class m v)) (A.dom v l))))

  shares_same : (m : ℕ) → m < c.maps → shares_fault T m ≡ shares_fault T' m
  unfolding shares_fault
  shares_same m lm =
      let r = OutOfRange (line_of_shares c.edition c.ops c.maps m) in
      walk_same (λ o. unless (leb (T.share m o) most_cost) r) (λ o. unless (leb (T'.share m o) most_cost) r) c.ops
      (λ o l. ap (λ (x : ℕ). unless (leb x most_cost) r) (A.share m o lm l))

  split_same : (o : ℕ) → o < c.ops → o < most_ops → split_fault T o ≡ split_fault T' o
  unfolding split_fault
  split_same o l few =
      ap₂ (λ (x y : ℕ). unless (leb x y) (SharesAboveCost (line_of_op c.edition o)))
      (sum_same (λ m. T.share m o) (λ m. T'.share m o) c.maps (λ m g. A.share m o g l)) (A.cost o l few)

  values_same : values T ≡ values T'
  values_same =
      then_same _ _ _ _
      (walk_same (λ v. unless (within 1 most_values (T.sas.dom v)) (OutOfRange line_of_dom)) (λ v. unless (within 1 most_values (T'.sas.dom v)) (OutOfRange line_of_dom)) c.vars
      (λ v l. ap (λ (d : ℕ). unless (within 1 most_values d) (OutOfRange line_of_dom)) (A.dom v l)))
      (λ e.
      ap₂ ◌then◌
      (walk_same (λ v. unless (ltb (T.sas.init v) (T.sas.dom v)) (OutOfRange line_of_init)) (λ v. unless (ltb (T'.sas.init v) (T'.sas.dom v)) (OutOfRange line_of_init)) c.vars
      (λ v l. ap₂ (λ (x d : ℕ). unless (ltb x d) (OutOfRange line_of_init)) (A.init v l) (A.dom v l)))
      (ap₂ ◌then◌ (facts_same T.sas.goal T'.sas.goal line_of_goal A.goal)
      (ap (λ (g : Found). unless (leb (quota_of c) most_quota) (OutOfRange line_of_quota) then g)
      (then_same _ _ _ _ refl
      (λ b.
      let ops : c.ops ≤ most_ops = leb-true c.ops most_ops (rule_held (leb c.ops most_ops) (OutOfRange (line_of_ops c.edition)) b) in
      ap₂ ◌then◌ (walk_same (operator_fault T) (operator_fault T') c.ops (λ o l. operator_same o l (omega arith)))
      (then_same _ _ _ _ refl
      (λ g.
      let maps = (within_says 1 most_maps c.maps (rule_held (within 1 most_maps c.maps) (OutOfRange (line_of_maps c.edition c.ops)) g)).1 in
      let fits : (v : ℕ) → v < c.vars → dom_at f v ≤ most_values = λ v h. (within_says 1 most_values (dom_at f v)
      (tests_held (λ v. within 1 most_values (dom_at f v)) (λ v. OutOfRange line_of_dom) c.vars v e h)).1 in
      ap₂ ◌then◌ (walk_same (map_fault T) (map_fault T') c.maps (λ m l. map_same m l (omega (arith, maps)) fits))
      (ap₂ ◌then◌ (walk_same (shares_fault T) (shares_fault T') c.maps shares_same) (walk_same (split_fault T) (split_fault T') c.ops (λ o l. split_same o l (omega arith)))))))))))

  -- a valid task's tables spell the same task
  task_alike : Valid T → SameTask T T'
  task_alike ok =
      record {
        sas =
            record {
              vars = refl;
              ops = refl;
              dom = A.dom;
              goal = A.goal;
              cost = λ o l. A.cost o l (omega (arith, ok.ops));
              pre = λ o v lo l. A.pre o v lo (omega (arith, ok.ops)) l;
              eff = λ o v lo l. A.eff o v lo (omega (arith, ok.ops)) l;
            };
        maps = refl;
        class = λ m v x lm l h. A.class m v x lm (omega (arith, ok.maps.1)) l h (omega (arith, ok.values v l));
        share = A.share;
        edition = refl;
        quota = refl;
        mark = λ o l. A.mark o l (omega (arith, ok.ops));
      }

-- t and u are read alike: the same first fault, and where there is none, the same task
pub record ReadAlike (t u : Tables) : Type 0 where
  pub fault : tables_fault t ≡ tables_fault u
  pub task : tables_fault t ≡ clean → SameTask (task_of t) (task_of u)

pub read_back : (t u : Tables) → ReadAlike t u → ReadAlike u t
read_back t u E = record { fault = sym E.fault; task = λ e. task_back (E.task (E.fault ∙ e)) }

-- ---- THE FIRST FAULT IS THE SAME

module _ (c : Counts) (f f' k k' s s' : List ℕ) (room : roomy (tables c f k s) ≡ roomy (tables c f' k' s'))
    (A : roomy (tables c f k s) ≡ true → c.vars ≤ most_vars → Agree c f f' k k' s s') where
  few : unless (within 1 most_vars c.vars) (OutOfRange line_of_vars) ≡ clean → c.vars ≤ most_vars
  few g = (within_says 1 most_vars c.vars (rule_held (within 1 most_vars c.vars) (OutOfRange line_of_vars) g)).1

  task_same : roomy (tables c f k s) ≡ true → task_fault (task_of (tables c f k s)) ≡ task_fault (task_of (tables c f' k' s'))
  unfolding task_fault
  task_same e =
      ap (λ (g : Found). unless (within 1 most_edition c.edition) (OutOfRange line_of_edition) then g)
      (then_same _ _ _ _ refl (λ g. values_same c f f' k k' s s' (A e (few g))))

  tables_same : tables_fault (tables c f k s) ≡ tables_fault (tables c f' k' s')
  unfolding tables_fault
  tables_same =
      then_same _ _ _ _ (ap (λ (b : Bool). unless b TableTooShort) room) (λ e. task_same (rule_held (roomy (tables c f k s)) TableTooShort e))

  -- clean tables have room, and few variables
  clean_agree : tables_fault (tables c f k s) ≡ clean → Agree c f f' k k' s s'
  unfolding tables_fault task_fault
  clean_agree e =
      A (rule_held (roomy (tables c f k s)) TableTooShort (clean_first _ _ e))
      (few
      (clean_first _ _
      (clean_next (unless (within 1 most_edition c.edition) (OutOfRange line_of_edition)) _
      (clean_next (unless (roomy (tables c f k s)) TableTooShort) _ e))))

  pub read_alike : ReadAlike (tables c f k s) (tables c f' k' s')
  read_alike =
      record { fault = tables_same; task = λ e. task_alike c f f' k k' s s' (clean_agree e) (clean_valid (tables c f k s) e) }

-- ---- OWN PLACES ALONE ARE READ

-- a task is told by the counts that are read, and the tables
abbrev told : ℕ → ℕ → ℕ → ℕ → ℕ → Tables → Task
told vars ops maps e q t =
    task_of (tables (record { vars = vars; ops = ops; maps = maps; edition = e; quota = q }) t.facts t.costs t.shares)

-- the quota that is read is the one that is read of it again
twice_read : (e x : ℕ) → read_in e (read_in e x) ≡ read_in e x
twice_read e x = by_cases (has_quota e) (λ h. rw h refl) (λ h. rw h refl)

told_is : (t : Tables) → told t.counts.vars t.counts.ops t.counts.maps t.counts.edition (quota_of t.counts) t ≡ task_of t
told_is t = ap (λ (q : ℕ). with_quota q (task_of t)) (twice_read t.counts.edition t.counts.quota)
  where
    with_quota : ℕ → Task → Task
    with_quota q T =
        record { sas = T.sas; maps = T.maps; class = T.class; share = T.share; edition = T.edition; quota = q; mark = T.mark }

-- tables of the same counts, as far as these are read, that agree where they have room and few variables
module _ (t u : Tables) (C : SameCounts t.counts u.counts) (room : roomy t ≡ roomy u)
    (A : roomy t ≡ true → t.counts.vars ≤ most_vars → Agree t.counts t.facts u.facts t.costs u.costs t.shares u.shares) where
  -- u's tables with the counts of t spell u's task
  abbrev beside : Tables
  beside = tables t.counts u.facts u.costs u.shares

  beside_is : task_of beside ≡ task_of u
  beside_is =
      sym (told_is beside)
      ∙ ap (λ (v : ℕ). told v t.counts.ops t.counts.maps t.counts.edition (quota_of t.counts) u) C.vars
      ∙ ap₂ (λ (o m : ℕ). told u.counts.vars o m t.counts.edition (quota_of t.counts) u) C.ops C.maps
      ∙ ap₂ (λ (e q : ℕ). told u.counts.vars u.counts.ops u.counts.maps e q u) C.edition C.quota
      ∙ told_is u

  pub agree_alike : ReadAlike t u
  unfolding tables_fault roomy
  agree_alike =
      let E = read_alike t.counts t.facts u.facts t.costs u.costs t.shares u.shares room A in
      record {
        fault = E.fault ∙ ap (λ (T : Task). unless (roomy u) TableTooShort then task_fault T) beside_is;
        task = λ e. subst (SameTask (task_of t)) beside_is (E.task e);
      }

module _ (t u : Tables) (O : OwnSame t u) where
  own_agree : Agree t.counts t.facts u.facts t.costs u.costs t.shares u.shares
  own_agree =
      record {
        dom = O.dom;
        init = O.init;
        goal = O.goal;
        pre = λ o v lo few l. O.pre o v lo l;
        eff = λ o v lo few l. O.eff o v lo l;
        class = λ m v x lm few l h fits. O.class m v x lm l h;
        cost = λ o l few. O.cost o l;
        share = O.share;
        mark = λ o l few. O.mark o l ∙ ap (λ (e : ℕ). read_in e (mark_at u.facts o)) (sym O.counts.edition);
      }

  pub own_alike : ReadAlike t u
  own_alike = agree_alike t u O.counts O.room (λ e few. own_agree)

-- ---- the state beside them

module _ {t u : Tables} (E : ReadAlike t u) (x z : List ℕ) (O : OwnState t.counts x z) where
  pub state_same : tables_fault t ≡ clean → state_fault t.counts t.facts x ≡ state_fault u.counts u.facts z
  unfolding state_fault
  state_same e =
      let S = (E.task e).sas in
      ap₂ ◌then◌ (ap (λ (b : Bool). unless b TableTooShort) (O.room ∙ ap (λ (n : ℕ). leb n (length z)) S.vars))
      (walk_same (λ v. unless (ltb (state_of x v) (dom_at t.facts v)) (ValueOutside v)) (λ v. unless (ltb (state_of z v) (dom_at u.facts v)) (ValueOutside v)) t.counts.vars
      (λ v l. ap₂ (λ (y d : ℕ). unless (ltb y d) (ValueOutside v)) (O.values v l) (S.dom v l))
      ∙ ap (λ (n : ℕ). each (λ v. unless (ltb (state_of z v) (dom_at u.facts v)) (ValueOutside v)) n 0) S.vars)

  pub input_same : input_fault t x ≡ input_fault u z
  unfolding input_fault
  input_same = then_same _ _ _ _ E.fault state_same

-- every state is the same as itself
pub state_own : (c : Counts) (x : List ℕ) → OwnState c x x
state_own c x = record { room = refl; values = λ v l. refl }
