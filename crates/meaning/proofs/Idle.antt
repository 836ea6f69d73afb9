-- What an idle step is. It leaves every state in which it may run as it was; and a step that isn't idle alters some state in which it may run, where each variable
-- that it sets and asks nothing of has two values. Exactly: a step alters some state if and only if it sets a variable of two values to one that it doesn't ask for.
-- Variable by variable: what is asked for holds before; where something else is set, a state is made in which that doesn't hold. Assumes nothing.
use Prim.Native.Nat.{ℕ, zero, suc, ◌≤◌, ◌<◌}
use mathlib.Core.Path.{◌≡◌, refl, sym, ◌∙◌}
use mathlib.Core.Bool.{Bool, true, false, not, cond, or-true, false≢true}
use mathlib.Core.Logic.{◌⊎◌, inl, inr, ◌↔◌, ⊎_elim}
use native.Mathlib.Omega.{arith}
use lib.Dec.{eqb}
use borrow.Author.Tests.{eqb-true, eqb-false, eq-eqb, not-true}
use Rattle.meaning.specs.Sas.{State, Sas, IsState, Holds, MayRun, Transition, put, after, Idle, Alters, Proper}
use Rattle.meaning.specs.Views.{asked, idle}
use Rattle.meaning.proofs.Facts.{by_cases, every_true, some_false, true_every, put_rest, put_below, put_holds}
use Rattle.meaning.proofs.Space.{to_after, only_after}

-- ---- a variable

-- a fact that holds is no other value
stays : (p x : ℕ) → Holds p x → put p x ≡ x
stays zero x h = put_rest x
stays (suc k) x h = sym h

-- a value that isn't the one an effect sets
abbrev other : ℕ → ℕ
other zero = 0
other (suc zero) = 1
other (suc (suc k)) = 0

other_below : (e d : ℕ) → 2 ≤ d → other e < d
other_below zero d h = omega arith
other_below (suc zero) d h = omega arith
other_below (suc (suc k)) d h = omega arith

other_set : (e x : ℕ) → (e ≡ 0 → ⊥) → put e x ≡ other e → ⊥
other_set zero x n q = n refl
other_set (suc zero) x n q = omega arith
other_set (suc (suc k)) x n q = omega arith

-- what is set is neither asked for nor there before
moved : (e p : ℕ) → (e ≡ 0 → ⊥) → (e ≡ p → ⊥) → put e (put p (other e)) ≡ put p (other e) → ⊥
moved e zero n m q = other_set e (other e) n (rw (put_rest (other e)) at q)
moved zero (suc j) n m q = n refl
moved (suc k) (suc j) n m q = m (omega arith)

-- the test of an effect: it is none or asked for; or it is neither
asked_true : (p e : ℕ) → asked p e ≡ true → (e ≡ 0) ⊎ (e ≡ p)
asked_true p e h = by_cases (eqb e 0) (λ q. inl (eqb-true e 0 q)) (λ q. inr (eqb-true e p (rw q at h)))

true_asked : (p e : ℕ) → (e ≡ 0) ⊎ (e ≡ p) → asked p e ≡ true
true_asked p e (inl q) = rw (eq-eqb e 0 q)
true_asked p e (inr q) = rw (eq-eqb e p q) (or-true (eqb e 0))

asked_false : (p e : ℕ) → asked p e ≡ false → (e ≡ 0 → ⊥) × (e ≡ p → ⊥)
asked_false p e h = (λ q. false≢true (sym h ∙ true_asked p e (inl q)), λ q. false≢true (sym h ∙ true_asked p e (inr q)))

-- ---- AN IDLE STEP LEAVES EVERY STATE AS IT WAS

module _ (S : Sas) (o : ℕ) where
  pub idle_after : (s : State) → Idle S o → MayRun S o s → (v : ℕ) → v < S.vars → after S o s v ≡ s v
  idle_after s i r v l =
      let none = put_rest (s v) in
      let same = stays (S.pre o v) (s v) (r v l) in
      ⊎_elim (λ e. cc) (λ e. cc) (i v l)

  pub idle_stays : (s t : State) → Idle S o → Transition S s o t → (v : ℕ) → v < S.vars → t v ≡ s v
  idle_stays s t i h v l = only_after S s o t h v l ∙ idle_after s i h.runs v l

  -- ---- WHAT ISN'T IDLE ALTERS SOME STATE

  -- the variable is set, and to what isn't asked of it
  abbrev pub Sets : ℕ → Type 0
  Sets v = (S.eff o v ≡ 0 → ⊥) × (S.eff o v ≡ S.pre o v → ⊥)

  pub some_set : (Idle S o → ⊥) → (v : ℕ) × (v < S.vars) × Sets v
  some_set busy =
      let test : ℕ → Bool = λ v. asked (S.pre o v) (S.eff o v) in
      by_cases (idle S o)
      (λ e. absurd (busy (λ v l. ⊎_elim (λ q. inl cc) (λ q. inr cc) (asked_true (S.pre o v) (S.eff o v) (every_true test S.vars e v l)))))
      (λ e.
      let w = some_false test S.vars e in
      (w.0, w.1, asked_false (S.pre o w.0) (S.eff o w.0) w.2))

  -- a state in which what is set at u doesn't hold
  abbrev apart : ℕ → State
  apart u v = put (S.pre o v) (cond (eqb v u) (other (S.eff o v)) (S.init v))

  module _ (P : Proper S) (lo : o < S.ops) where
    pub sets_alters : (u : ℕ) → u < S.vars → Sets u → 2 ≤ S.dom u → Alters S o
    sets_alters u l n two = (apart u, after S o (apart u), to_after S P (apart u) o state lo runs, (u, l, altered))
      where
        state : IsState S (apart u)
        state v h =
            put_below (S.pre o v) _ (S.dom v) (P.pre o v lo h)
            (by_cases (eqb v u)
            (λ e. rw e (other_below (S.eff o v) (S.dom v) (rw (eqb-true v u e) two)))
            (λ e. rw e (P.init v h)))

        runs : MayRun S o (apart u)
        runs v h = put_holds (S.pre o v) _

        altered : after S o (apart u) u ≡ apart u u → ⊥
        altered q = moved (S.eff o u) (S.pre o u) n.0 n.1 (rw (eq-eqb u u refl) at q)

    -- two different facts about a variable name two values
    two_values : (v : ℕ) → v < S.vars → Sets v → (S.pre o v ≡ 0 → ⊥) → 2 ≤ S.dom v
    two_values v l n p = omega (arith, P.pre o v lo l, P.eff o v lo l, eqb-false, n)

    pub busy_alters : (Idle S o → ⊥) → ((v : ℕ) → v < S.vars → (S.eff o v ≡ 0 → ⊥) → S.pre o v ≡ 0 → 2 ≤ S.dom v) → Alters S o
    busy_alters busy two =
        let w = some_set busy in
        sets_alters w.0 w.1 w.2
        (by_cases (eqb (S.pre o w.0) 0) (λ e. two w.0 w.1 w.2.0 (eqb-true (S.pre o w.0) 0 e))
        (λ e. two_values w.0 w.1 w.2 (eqb-false (S.pre o w.0) 0 e)))

    -- ---- EXACTLY: it sets a variable of two values to what it doesn't ask for

    pub alters_exactly : Alters S o ↔ ((v : ℕ) × (v < S.vars) × Sets v × (2 ≤ S.dom v))
    alters_exactly = (so, λ w. sets_alters w.0 w.1 w.2 w.3)
      where
        so : Alters S o → (v : ℕ) × (v < S.vars) × Sets v × (2 ≤ S.dom v)
        so a =
            let s = a.0 in
            let t = a.1 in
            let h = a.2 in
            let v = a.3.0 in
            let l = a.3.1 in
            let none = put_rest (s v) in
            let same = stays (S.pre o v) (s v) (h.runs v l) in
            let to = only_after S s o t h v l in
            (v, l, (λ e. a.3.2 cc, λ e. a.3.2 cc), omega (arith, h.from v l, h.into v l, a.3.2))

-- ---- the test that computes says what the definition says

module _ (S : Sas) (o : ℕ) where
  pub idle_is : (idle S o ≡ true) ↔ Idle S o
  idle_is =
      let test : ℕ → Bool = λ v. asked (S.pre o v) (S.eff o v) in (
        λ h v l. ⊎_elim (λ q. inl cc) (λ q. inr cc) (asked_true (S.pre o v) (S.eff o v) (every_true test S.vars h v l)),
        λ h. true_every test S.vars (λ v l. true_asked (S.pre o v) (S.eff o v) (⊎_elim (λ q. inl cc) (λ q. inr cc) (h v l))),
      )

  pub not_idle_is : (not (idle S o) ≡ true) ↔ (Idle S o → ⊥)
  not_idle_is = (
    λ h i. false≢true (sym (not-true (idle S o) h) ∙ idle_is.1 i),
    λ h. by_cases (idle S o) (λ e. absurd (h (idle_is.0 e))) (λ e. rw e refl),
  )
