-- Two rules for sums, the second the first's wherever that fits: so are the runs (Claims: AgreedBy, SameCondition,
-- Agreed).
use mathlib.Core.Path.{◌≡◌, refl, sym, ◌∙◌, ap, subst}
use mathlib.Core.Logic.{◌↔◌}
use Prim.Native.Nat.{ℕ, zero, suc}
use native.Mathlib.Omega.{arith}
use mathlib.Core.Bool.{Bool, true, false, not}
use lib.IntN.{ℤ}
use Rattle.std.specs.Prelude.{if◌then◌else◌}
use Rattle.base.specs.Acts.{ok, ended, then'}
use Rattle.word.specs.Sums.{Sum, fits, out, SumRule, stopping, holding, stopping_at, Extends}
use Rattle.word.proofs.Claims.{same_within}
use Rattle.text.specs.Syntax.{Expression, Constant, Variable, Plus, Condition, Bc, Not, And, Less, Command, SKIP}
use Rattle.text.specs.Syntax.{◌:=◌, ◌⨾◌, IF◌THEN◌ELSE◌, WHILE◌DO◌}
use Rattle.source.specs.Claims.{AgreedBy, BringsPast, SameCondition, Agreed}
use Rattle.source.specs.Rules.{Early, State, Store, start, Ending, Rule, Outcomes, tick, lower, in_range, add}
use Rattle.source.specs.Rules.{value, truth, loop, exec, result_of}

-- r' is r; but if r ended out of range, then only where the ticks left are late
Agree : {A : Type 0} → (ℕ → Type 0) → Outcomes A → Outcomes A → Type 0
Agree Late (ok a s) r' = r' ≡ ok a s
Agree Late (ended (Early.spent, s)) r' = r' ≡ ended (Early.spent, s)
Agree Late (ended (Early.out_of_range, s)) r' = Late s.left → r' ≡ ended (Early.out_of_range, s)

agreed_end : {A : Type 0} (Late : ℕ → Type 0) (r r' : Outcomes A) → Agree Late r r'
    → ((u : Ending) → r ≡ ended (Early.out_of_range, u) → ⊥) → r' ≡ r
unfolding Agree
agreed_end Late (ok a s) r' h k = h
agreed_end Late (ended (Early.spent, s)) r' h k = h
agreed_end Late (ended (Early.out_of_range, s)) r' h k = absurd (k s refl)

late_end : {A : Type 0} (Late : ℕ → Type 0) (r r' : Outcomes A) (u : Ending) → Agree Late r r'
    → r ≡ ended (Early.out_of_range, u) → Late u.left → r' ≡ ended (Early.out_of_range, u)
unfolding Agree
late_end Late r r' u h e l = subst (λ x. Agree Late x r') e h l

-- ---- By induction on the part

-- two rules, the second the first's wherever that fits, and everywhere where the ticks left are late
module _ (S H : SumRule) (Late : ℕ → Type 0) (same : Extends S H)
    (late : (n : ℕ) (x y : ℤ) → Late n → H n x y ≡ S n x y) where
  agree_refl : {A : Type 0} (r : Outcomes A) → Agree Late r r
  unfolding Agree
  agree_refl (ok a s) = refl
  agree_refl (ended (Early.spent, s)) = refl
  agree_refl (ended (Early.out_of_range, s)) = λ _. refl

  agree_then : {A B : Type 0} (r r' : Outcomes A) (f f' : A → Rule B) → Agree Late r r'
      → ((a : A) (s : State) → Agree Late (f a s) (f' a s)) → Agree Late (then' r f) (then' r' f')
  unfolding then' Agree
  agree_then (ok a s) r' f f' e h = subst (λ x. Agree Late (f a s) (then' x f')) (sym e) (h a s)
  agree_then (ended (Early.spent, s)) r' f f' e h = ap (λ x. then' x f') e
  agree_then (ended (Early.out_of_range, s)) r' f f' e h = λ l. ap (λ x. then' x f') (e l)

  -- the same outcome, and then f or f'
  agree_on : {A B : Type 0} (r : Outcomes A) (f f' : A → Rule B) → ((a : A) (s : State) → Agree Late (f a s) (f' a s))
      → Agree Late (then' r f) (then' r f')
  agree_on r f f' h = agree_then r r f f' (agree_refl r) h

  agree_if : {A : Type 0} (v : Bool) (x x' y y' : Rule A) (s : State) → Agree Late (x s) (x' s)
      → Agree Late (y s) (y' s)
      → Agree Late ((if v then x else y) s) ((if v then x' else y') s)
  agree_if true x x' y y' s h k = h
  agree_if false x x' y y' s h k = k

  sum_agree : (x y : ℤ) (s : State) → Agree Late (add S x y s) (add H x y s)
  unfolding add in_range Agree
  sum_agree x y s = go (S s.left x y) refl
    where
      go : (r : Sum) → S s.left x y ≡ r → Agree Late (in_range r s) (in_range (H s.left x y) s)
      go (fits z) e = ap (λ r. in_range r s) (same s.left x y z e)
      go out e = λ l. ap (λ r. in_range r s) (late s.left x y l ∙ e)

  value_agree : (a : Expression) (s : State) → Agree Late (value S a s) (value H a s)
  unfolding value
  value_agree (Constant w z) s = agree_refl _
  value_agree (Variable v) s = agree_refl _
  value_agree (Plus a b) s =
      agree_then (value S a s) _ _ _ (value_agree a s) (λ x s₁.
      agree_then (value S b s₁) _ _ _ (value_agree b s₁) (λ y s₂.
      agree_on (tick s₂) _ _ (λ _ s₃. agree_on (lower 1 s₃) _ _ (λ _ s₄. sum_agree x y s₄))))

  truth_agree : (b : Condition) (f : Bool) (s : State) → Agree Late (truth S b f s) (truth H b f s)
  unfolding truth
  truth_agree (Bc v) f s = agree_refl _
  truth_agree (Not b) f s = agree_then (truth S b (not f) s) _ _ _ (truth_agree b (not f) s) (λ v s₁. agree_refl _)
  truth_agree (And b c) f s =
      agree_then (truth S b false s) _ _ _ (truth_agree b false s) (λ v s₁.
      agree_if v _ _ _ _ s₁ (truth_agree c f s₁) (agree_refl _))
  truth_agree (Less a b) f s =
      agree_then (value S a s) _ _ _ (value_agree a s) (λ x s₁.
      agree_then (value S b s₁) _ _ _ (value_agree b s₁) (λ y s₂. agree_refl _))

  loop_agree : (t t' : Rule Bool) (x x' : Rule (Unit {0})) → ((s : State) → Agree Late (t s) (t' s))
      → ((s : State) → Agree Late (x s) (x' s))
      → (g : ℕ) (s : State) → Agree Late (loop S g t x s) (loop H g t' x' s)
  unfolding loop
  loop_agree t t' x x' h k zero s = agree_refl _
  loop_agree t t' x x' h k (suc g) s =
      agree_then (t s) _ _ _ (h s) (λ v s₁.
      agree_if v _ _ _ _ s₁
      (agree_then (x s₁) _ _ _ (k s₁) (λ _ s₂.
      agree_on (tick s₂) _ _ (λ _ s₃. loop_agree t t' x x' h k g s₃)))
      (agree_refl _))

  exec_agree : (c : Command) (s : State) → Agree Late (exec S c s) (exec H c s)
  unfolding exec
  exec_agree SKIP s = agree_refl _
  exec_agree (v := a) s = agree_then (value S a s) _ _ _ (value_agree a s) (λ z s₁. agree_refl _)
  exec_agree (c ⨾ d) s = agree_then (exec S c s) _ _ _ (exec_agree c s) (λ _ s₁. exec_agree d s₁)
  exec_agree (IF b THEN c ELSE d) s =
      agree_then (truth S b false s) _ _ _ (truth_agree b false s) (λ v s₁.
      agree_if v _ _ _ _ s₁
      (agree_then (exec S c s₁) _ _ _ (exec_agree c s₁) (λ _ s₂. agree_refl (tick s₂)))
      (exec_agree d s₁))
  exec_agree (WHILE b DO c) s = loop_agree _ _ _ _ (truth_agree b false) (exec_agree c) (suc s.left) s

pub agreed_by : (first second : SumRule) → AgreedBy first second
agreed_by S H same c s h =
    agreed_end (λ _. ⊥) (exec S c s) (exec H c s) (exec_agree S H (λ _. ⊥) same (λ n x y l. absurd l) c s) h

-- ---- The stopping rule, and one that stops at one tick

-- Whether an outcome is the end out of range: 1, or 0
is_out : {A : Type 0} → Outcomes A → ℕ
is_out (ok a s) = 0
is_out (ended (Early.spent, s)) = 0
is_out (ended (Early.out_of_range, s)) = 1

module _ (c : Command) (s : Store) (n : ℕ) where
  both : (k : ℕ) → Agree (λ m. m ≡ k) (exec stopping c (start n s)) (exec (stopping_at k) c (start n s))
  both k = exec_agree stopping (stopping_at k) (λ m. m ≡ k) (same_within.held_but_at k)
      (same_within.stopped_at k) c (start n s)

  -- where that rule stops, the stopping rule has stopped there or before
  stopped : (k : ℕ) (u : Ending) (r r' : Outcomes (Unit {0})) → Agree (λ m. m ≡ k) r r'
      → r' ≡ ended (Early.out_of_range, u) → (u' : Ending) × (r ≡ ended (Early.out_of_range, u'))
  unfolding Agree is_out
  stopped k u (ok a t) r' h e = absurd (omega (arith, ap is_out (sym h ∙ e)))
  stopped k u (ended (Early.spent, t)) r' h e = absurd (omega (arith, ap is_out (sym h ∙ e)))
  stopped k u (ended (Early.out_of_range, t)) r' h e = (t, refl)

  stops_where : ((k : ℕ) × BringsPast c s n k)
      ↔ ((u : Ending) × (exec stopping c (start n s) ≡ ended (Early.out_of_range, u)))
  stops_where = (
    λ (k, (u, e)). stopped k u _ _ (both k) e,
    λ (u, e). (u.left, (u, late_end (λ m. m ≡ u.left) _ _ u (both u.left) e refl)),
  )

  -- no sum past a limit: the two rules' outcomes are the same
  pub same_outcome : ((k : ℕ) → BringsPast c s n k → ⊥) → exec holding c (start n s) ≡ exec stopping c (start n s)
  same_outcome none =
      agreed_by stopping holding same_within.held c (start n s) (λ u e.
      let (k, past) = stops_where.1 (u, e) in none k past)

pub same_condition : SameCondition
same_condition = stops_where

pub agreed : Agreed
agreed c s n none = ap result_of (same_outcome c s n none)
