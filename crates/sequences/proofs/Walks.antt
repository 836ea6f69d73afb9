-- Laws of the two walks over a list: a turn of a walk, where it stands, and its end. Assumes nothing.
use Prim.Native.Nat.{ℕ, ◌+◌, ◌*◌, ◌≤◌, ◌<◌}
use mathlib.Core.Path.{◌≡◌, refl, ap, sym, ◌∙◌}
use mathlib.Core.List.{List}
use mathlib.Core.Bool.{Bool, true, false, cond}
use native.Mathlib.Numerals.{add-one}
use native.Mathlib.Omega.{arith}
use lib.ListN.{length, drop, get_or, replicate, length-replicate}
use lib.Seq.{drop-cons, drop-length}
use borrow.Author.Tests.{le-leb}
use Rattle.std.specs.Prelude.{Some, None, Result, Ok, Err}
use Rattle.std.specs.Result.{result_ok}
use Rattle.std.specs.Bool.{then_some}
use Rattle.refusals.specs.declared.Refusal.TheVariants.{NoGoal}
use Rattle.meaning.specs.Limits.{most_vars, most_ops, most_cost, most_steps}
use Rattle.meaning.specs.Sas.{State, Sas, after}
use Rattle.meaning.specs.Split.{Task}
use Rattle.meaning.specs.Views.{complies}
use Rattle.meaning.proofs.Unread.{SameAt}
use Rattle.tables.specs.Layout.{Tables}
use Rattle.tables.specs.Task.{sas_of, task_of, state_of}
use Rattle.tables.specs.Steps.{meets_goal, stepped, copied}
use Rattle.tables.proofs.Laws.{filled_at}
use Rattle.tables.proofs.Meant.{meets_goal_is, stepped_is, stepped_length}
use Rattle.sequences.specs.declared.stepping.Hitch.{Hitch}
use Rattle.sequences.specs.Stepping.{step_of, refusal_of, taken_apart}
use Rattle.sequences.specs.Inside.Steps.{Usable}
use Rattle.sequences.specs.Judging.{onto, walked, limited}
use Rattle.sequences.specs.Choosing.{part, or_out, reached_from, chosen_from}
use Rattle.sequences.proofs.Laws.{step_told, reached_goal}
use Rattle.sequences.proofs.Alike.{steps_self, walked_alike, reached_alike, chosen_from_alike}

-- ---- a turn of a walk: after n stored tests the step o from the list s to the list t was taken, at the cost x

pub record Turn (T : Task) (n : ℕ) (s t : List ℕ) (o x : ℕ) : Type 0 where
  pub answer : step_of T n (state_of s) o ≡ Ok x
  pub op : o < most_ops
  pub within : n + T.mark o ≤ T.quota
  pub cost : x ≤ most_cost
  pub same : SameAt T.sas (after T.sas o (state_of s)) (state_of t)
  pub size : length t ≡ most_vars

module _ (t : Tables) (U : Usable (task_of t)) where
  pub turn : {m : Result ℕ Hitch} {n : ℕ} {s : List ℕ} {o x : ℕ} → length s ≡ most_vars → m ≡ step_of (task_of t) n (state_of s) o → m ≡ Ok x
      → Turn (task_of t) n s (stepped t.counts t.facts s o) o x
  turn {n = n} {s = s} {o = o} {x = x} h e r =
      let told = step_told (task_of t) n (state_of s) o (Ok x) (sym e ∙ r) in
      let b : t.counts.vars ≤ length s = omega (arith, U.vars) in
      record {
        answer = sym e ∙ r;
        op = omega (arith, told.exists, U.ops);
        within = told.within;
        cost = omega (arith, told.cost, U.costs o told.exists);
        same = λ v l. sym (stepped_is t s o v b l);
        size = stepped_length t s o ∙ h;
      }

  -- what is stored one turn on is a number of 32 bits
  pub storable : {n : ℕ} {s u : List ℕ} {o x : ℕ} → Turn (task_of t) n s u o x → n + (task_of t).mark o < 4294967296
  storable k = omega (arith, k.within, U.quota)

-- what a step said, by the cost that `ok` left of it
pub some_ok : {m : Result ℕ Hitch} {x : ℕ} → Some x ≡ result_ok m → m ≡ Ok x
some_ok {m = Ok y} e = cc
some_ok {m = Err w} e = cc

pub none_err : {m : Result ℕ Hitch} → None ≡ result_ok m → (w : Hitch) × (m ≡ Err w)
none_err {m = Ok y} e = absurd (cc)
none_err {m = Err w} e = (w, refl)

-- what the test of the goal said
pub goal_said : (t : Tables) (s : List ℕ) {b x : Bool} → b ≡ meets_goal t.counts t.facts s → b ≡ x → complies (sas_of t) (sas_of t).goal (state_of s) ≡ x
goal_said t s e f = sym (e ∙ meets_goal_is t s) ∙ f

-- a number of steps within the limit, and one more, is a number of 32 bits
pub few : {n : ℕ} → n ≤ most_steps → n + 1 < 4294967296
unfolding most_steps
few l = omega arith

-- ---- where a walk stands

-- the walk f over a list, from the state s₀, stands before place i, with n tests stored and p paid, in the state s: what is left of the list gives the rest
-- of its answer
pub record Along {A : Type 0} (f : ℕ → ℕ → ℕ → State → List ℕ → A) (s₀ : State) (ops : List ℕ) (i n p : ℕ) (s : List ℕ) : Type 0 where
  pub size : length s ≡ most_vars
  pub paid : p ≤ i * most_cost
  pub rest : f 0 0 0 s₀ ops ≡ f i n p (state_of s) (drop i ops)

module _ {A : Type 0} {f : ℕ → ℕ → ℕ → State → List ℕ → A} {s₀ : State} {ops s : List ℕ} {i n p : ℕ} (a : Along f s₀ ops i n p s) where
  -- what is paid one turn on is a number of 32 bits
  pub payable : {T : Task} {t : List ℕ} {o x : ℕ} → Turn T n s t o x → i < length ops → length ops ≤ most_steps → p + x < 4294967296
  unfolding most_steps
  payable k h l = omega (arith, a.paid, k.cost)

  -- at place i the walk takes its step apart, with an answer for a step that can't be taken
  module _ (T : Task) (out : Hitch → A) where
    abbrev o : ℕ
    o = get_or ops i 0

    abbrev apart : Result ℕ Hitch → A
    apart m = taken_apart m out (λ c. f (i + 1) (n + T.mark o) (p + c) (after T.sas o (state_of s)) (drop (i + 1) ops))

    module _ (turns : f i n p (state_of s) (drop i ops) ≡ apart (step_of T n (state_of s) o)) where
      along_on : ((k m q : ℕ) (u v : State) (os : List ℕ) → SameAt T.sas u v → f k m q u os ≡ f k m q v os) → {t : List ℕ} {c : ℕ}
          → Turn T n s t o c → Along f s₀ ops (i + 1) (n + T.mark o) (p + c) t
      along_on same {t = t} {c = c} k =
          record {
            size = k.size;
            paid = omega (arith, a.paid, k.cost);
            rest =
                a.rest ∙ turns ∙ ap apart k.answer
                ∙ same (i + 1) (n + T.mark o) (p + c) (after T.sas o (state_of s)) (state_of t) (drop (i + 1) ops) k.same;
          }

      along_out : {m : Result ℕ Hitch} {h : Hitch} → m ≡ step_of T n (state_of s) o → m ≡ Err h → out h ≡ f 0 0 0 s₀ ops
      along_out e r = ap apart (sym r ∙ e) ∙ sym (a.rest ∙ turns)

-- ---- judging

module _ (T : Task) where
  abbrev S : Sas
  S = T.sas

  module _ {s₀ : State} {ops s : List ℕ} {i n p : ℕ} (a : Along (walked T) s₀ ops i n p s) where
    walked_turns : i < length ops → walked T i n p (state_of s) (drop i ops)
        ≡ onto (step_of T n (state_of s) (get_or ops i 0)) (i + 1)
        (λ x. walked T (i + 1) (n + T.mark (get_or ops i 0)) (p + x) (after S (get_or ops i 0) (state_of s)) (drop (i + 1) ops))
    unfolding walked
    walked_turns h = rw (drop-cons ops i 0, add-one i)

    pub walked_on : {t : List ℕ} {x : ℕ} → i < length ops → Turn T n s t (get_or ops i 0) x
        → Along (walked T) s₀ ops (i + 1) (n + T.mark (get_or ops i 0)) (p + x) t
    walked_on h = along_on a T (λ w. Err (refusal_of w (i + 1))) (walked_turns h) (walked_alike (steps_self T))

    pub walked_refused : {m : Result ℕ Hitch} {w : Hitch} → i < length ops → m ≡ step_of T n (state_of s) (get_or ops i 0) → m ≡ Err w
        → Err (refusal_of w (i + 1)) ≡ walked T 0 0 0 s₀ ops
    walked_refused h = along_out a T (λ w. Err (refusal_of w (i + 1))) (walked_turns h)

    pub walked_end : {b : Bool} → i ≡ length ops → complies S S.goal (state_of s) ≡ b → cond b (Ok p) (Err (NoGoal (length ops))) ≡ walked T 0 0 0 s₀ ops
    unfolding walked
    walked_end e g = sym (a.rest ∙ rw (e, drop-length ops, g))

  -- ---- up to the first goal moment

  module _ {s₀ : State} {ops s : List ℕ} {i n p : ℕ} (a : Along (reached_from T) s₀ ops i n p s) where
    pub reached_first : complies S S.goal (state_of s) ≡ true → Some (part i p) ≡ reached_from T 0 0 0 s₀ ops
    reached_first g = sym (a.rest ∙ reached_goal T i n p (state_of s) (drop i ops) g)

    pub reached_end : {b : Bool} → i ≡ length ops → complies S S.goal (state_of s) ≡ b → then_some b (part (length ops) p) ≡ reached_from T 0 0 0 s₀ ops
    unfolding reached_from
    reached_end {b = b} e g = sym (a.rest ∙ rw (e, drop-length ops, g) (at b))
      where
        at : (b : Bool) → cond b (Some (part (length ops) p)) None ≡ then_some b (part (length ops) p)
        at true = refl
        at false = refl

    module _ (g : complies S S.goal (state_of s) ≡ false) where
      reached_turns : i < length ops → reached_from T i n p (state_of s) (drop i ops)
          ≡ or_out (step_of T n (state_of s) (get_or ops i 0))
          (λ x. reached_from T (i + 1) (n + T.mark (get_or ops i 0)) (p + x) (after S (get_or ops i 0) (state_of s)) (drop (i + 1) ops))
      unfolding reached_from
      reached_turns h = rw (drop-cons ops i 0, g, add-one i)

      pub reached_on : {t : List ℕ} {x : ℕ} → i < length ops → Turn T n s t (get_or ops i 0) x
          → Along (reached_from T) s₀ ops (i + 1) (n + T.mark (get_or ops i 0)) (p + x) t
      reached_on h = along_on a T (λ w. None) (reached_turns h) (reached_alike (steps_self T))

      pub reached_refused : {m : Result ℕ Hitch} {w : Hitch} → i < length ops → m ≡ step_of T n (state_of s) (get_or ops i 0) → m ≡ Err w
          → None ≡ reached_from T 0 0 0 s₀ ops
      reached_refused h = along_out a T (λ w. None) (reached_turns h)

  -- ---- a list of any length

  pub limited_within : (s t : State) (ops : List ℕ) → SameAt S t s → length ops ≤ most_steps → walked T 0 0 0 t ops ≡ limited T s ops
  unfolding limited
  limited_within s t ops h l = walked_alike (steps_self T) 0 0 0 t s ops h ∙ sym (rw (le-leb (length ops) most_steps l))

  pub chosen_same : (s t : State) (a b : List ℕ) → SameAt S s t → chosen_from T s a b ≡ chosen_from T t a b
  chosen_same = chosen_from_alike (steps_self T)

  -- the copy of a lent state agrees with it
  pub same_copied : (s t : List ℕ) → Usable T → t ≡ copied s S.vars → SameAt S (state_of t) (state_of s)
  unfolding copied
  same_copied s t U e v l =
      ap (λ (u : List ℕ). get_or u v 0) e ∙ filled_at (state_of s) (replicate most_vars 0) S.vars v l (omega (arith, U.vars, length-replicate {A = ℕ} most_vars 0))
