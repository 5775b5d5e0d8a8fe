-- What each record comes to, and a run's three cases, in the form in which code has them: k values on the stack,
-- tests on k, `k - 1` and `p + 1` for the sizes and positions. Over any memory and any sum rule.
use mathlib.Core.Path.{◌≡◌, refl, ◌∙◌, ap, ap₂}
use Prim.Native.Nat.{ℕ, zero, suc, ◌+◌, ◌-◌, ◌≤◌, ◌<◌, max}
use native.Mathlib.Omega.{arith}
use mathlib.Core.Bool.{Bool, true, false, not}
use mathlib.Core.List.{List}
use mathlib.Core.Option.{none, some}
use lib.IntN.{ℤ}
use lib.Dec.{ltb}
use lib.Arith.{le→nltb}
use lib.ListN.{length}
use lib.Signed.{lt_z}
use Rattle.std.specs.Prelude.{if◌then◌else◌}
use Rattle.base.specs.Acts.{Outcome, ok, ended, then'}
use Rattle.word.specs.Sums.{Sum, fits, out, SumRule}
use Rattle.word.specs.Targets.{target}
use Rattle.std.specs.Prelude.{Some, None}
use Rattle.record.specs.Records.{Record, ADD, STORE, JMPLESS, JMPGE}
use Rattle.base.specs.Ends.{Fault, End, fault, result}
use Rattle.machine.specs.Machine.{Memory, Machine, at, taken, pop, push, keep}
use Rattle.machine.specs.Machine.{in_range, next, land, jump, act, after, due, run_at, run}
use Rattle.machine.proofs.Effects.{if_no, push_next, land_on}

module _ {M Name : Type 0} (sum : ℤ → ℤ → Sum) (D : ℕ) (o : Memory M Name) (last : ℕ) where
  -- what a record does with k values on the stack at position p
  abbrev does : Record Name → ℕ → ℕ → M → Outcome (Machine M) Fault (Unit {0})
  does r p k m = act sum D o last r (at p k m)

  -- ---- pushes

  pub push_on : (z : ℤ) (p k : ℕ) (m : M) → k < D
      → then' (push sum D o last z (at p k m)) (λ _. next sum D o last) ≡ ok tt (at (p + 1) (k + 1) (o.poke m k z))
  push_on z p k m d =
      push_next sum D o last z p k m d ∙ ap₂ (λ p k'. ok tt (at p k' (o.poke m k z))) (omega arith) (omega arith)

  pub push_full : (z : ℤ) (p k : ℕ) (m : M) → D ≤ k
      → then' (push sum D o last z (at p k m)) (λ _. next sum D o last) ≡ ended Fault.full
  unfolding push next then'
  push_full z p k m d = ap (λ r. then' r (λ _. next sum D o last))
      (if_no (ltb k D) _ (ended Fault.full) (le→nltb k D d))

  -- ---- ADD

  pub add_short : (p k : ℕ) (m : M) → k < 2 → does ADD p k m ≡ ended Fault.short
  unfolding act pop taken then'
  add_short p zero m h = refl
  add_short p (suc zero) m h = refl
  add_short p (suc (suc k)) m h = absurd (omega arith)

  add_sum : (r : Sum) (p k : ℕ) (m : M) → k < D → sum (o.peek m k) (o.peek m (suc k)) ≡ r
      → does ADD p (suc (suc k)) m
      ≡ then' (in_range sum D o last r (at p k m)) (λ z s. then' (push sum D o last z s) (λ _. next sum D o last))
  unfolding act pop taken then'
  add_sum r p k m d e =
      ap (λ r. then' (in_range sum D o last r (at p k m))
      (λ z s. then' (push sum D o last z s) (λ _. next sum D o last))) e

  -- k is two more than k - 2
  two : {A : Type 0} (f : ℕ → A) (k : ℕ) → 2 ≤ k → f k ≡ f (suc (suc (k - 2)))
  two f k h = ap f (omega arith)

  second : (k : ℕ) (m : M) → 2 ≤ k → o.peek m (suc (k - 2)) ≡ o.peek m (k - 1)
  second k m h = ap (o.peek m) (omega arith)

  pub add_fits : (z : ℤ) (p k : ℕ) (m : M) → 2 ≤ k → k ≤ D → sum (o.peek m (k - 2)) (o.peek m (k - 1)) ≡ fits z
      → does ADD p k m ≡ ok tt (at (p + 1) (k - 1) (o.poke m (k - 2) z))
  unfolding in_range then'
  add_fits z p k m h d e =
      two (λ k. does ADD p k m) k h
      ∙ add_sum (fits z) p (k - 2) m (omega arith) (ap (sum (o.peek m (k - 2))) (second k m h) ∙ e)
      ∙ push_on z p (k - 2) m (omega arith)
      ∙ ap (λ k'. ok tt (at (p + 1) k' (o.poke m (k - 2) z))) (omega arith)

  pub add_out : (p k : ℕ) (m : M) → 2 ≤ k → k ≤ D → sum (o.peek m (k - 2)) (o.peek m (k - 1)) ≡ out
      → does ADD p k m ≡ ended Fault.out_of_range
  unfolding in_range then'
  add_out p k m h d e =
      two (λ k. does ADD p k m) k h
      ∙ add_sum out p (k - 2) m (omega arith) (ap (sum (o.peek m (k - 2))) (second k m h) ∙ e)

  -- ---- STORE

  pub store_short : (x : Name) (p k : ℕ) (m : M) → k < 1 → does (STORE x) p k m ≡ ended Fault.short
  unfolding act pop taken then'
  store_short x p zero m h = refl
  store_short x p (suc k) m h = absurd (omega arith)

  store_suc : (x : Name) (p k : ℕ) (m : M)
      → does (STORE x) p (suc k) m ≡ ok tt (at (suc p) k (o.save m x (o.peek m k)))
  unfolding act pop taken keep next then'
  store_suc x p k m = refl

  pub store_on : (x : Name) (p k : ℕ) (m : M) → 1 ≤ k
      → does (STORE x) p k m ≡ ok tt (at (p + 1) (k - 1) (o.save m x (o.peek m (k - 1))))
  store_on x p k m h =
      ap (λ k. does (STORE x) p k m) (omega arith) ∙ store_suc x p (k - 1) m
      ∙ ap (λ p. ok tt (at p (k - 1) (o.save m x (o.peek m (k - 1))))) (omega arith)

  -- ---- jumps

  pub jump_to : (i : ℤ) (p t k : ℕ) (m : M) → target p i last ≡ Some t
      → jump sum D o last i (at p k m) ≡ ok tt (at t k m)
  jump_to i p t k m e = land_on sum D o last i p k m t e

  pub jump_astray : (i : ℤ) (p k : ℕ) (m : M) → target p i last ≡ None
      → jump sum D o last i (at p k m) ≡ ended Fault.astray
  unfolding jump land
  jump_astray i p k m e = ap (λ t. land sum D o last t (at p k m)) e

  pub compare_short : (i : ℤ) (p k : ℕ) (m : M) → k < 2
      → (does (JMPLESS i) p k m ≡ ended Fault.short) × (does (JMPGE i) p k m ≡ ended Fault.short)
  unfolding act pop taken then'
  compare_short i p zero m h = (refl, refl)
  compare_short i p (suc zero) m h = (refl, refl)
  compare_short i p (suc (suc k)) m h = absurd (omega arith)

  compare_two : (i : ℤ) (p k : ℕ) (m : M) (b : Bool) → lt_z (o.peek m k) (o.peek m (suc k)) ≡ b
      → (does (JMPLESS i) p (suc (suc k)) m ≡ (if b then jump sum D o last i else next sum D o last) (at p k m))
      × (does (JMPGE i) p (suc (suc k)) m ≡ (if b then next sum D o last else jump sum D o last i) (at p k m))
  unfolding act pop taken then'
  compare_two i p k m b e = (
    ap (λ b. (if b then jump sum D o last i else next sum D o last) (at p k m)) e,
    ap (λ b. (if b then next sum D o last else jump sum D o last i) (at p k m)) e,
  )

  -- the comparison being b: the jump, or the next record
  pub compare_on : (i : ℤ) (p k : ℕ) (m : M) (b : Bool) → 2 ≤ k → lt_z (o.peek m (k - 2)) (o.peek m (k - 1)) ≡ b
      → (does (JMPLESS i) p k m ≡ (if b then jump sum D o last i else next sum D o last) (at p (k - 2) m))
      × (does (JMPGE i) p k m ≡ (if b then next sum D o last else jump sum D o last i) (at p (k - 2) m))
  compare_on i p k m b h e =
      let x = compare_two i p (k - 2) m b (ap (lt_z (o.peek m (k - 2))) (second k m h) ∙ e) in
      (two (λ k. does (JMPLESS i) p k m) k h ∙ x.0, two (λ k. does (JMPGE i) p k m) k h ∙ x.1)

  -- JMPLESS under the flag true, JMPGE under false: taken where the comparison is the flag
  pub compare_taken : (flag : Bool) (i : ℤ) (p k : ℕ) (m : M) → 2 ≤ k
      → lt_z (o.peek m (k - 2)) (o.peek m (k - 1)) ≡ flag
      → does (if flag then JMPLESS i else JMPGE i) p k m ≡ jump sum D o last i (at p (k - 2) m)
  compare_taken true i p k m h e = (compare_on i p k m true h e).0
  compare_taken false i p k m h e = (compare_on i p k m false h e).1

  next_one : (p k : ℕ) (m : M) → next sum D o last (at p k m) ≡ ok tt (at (p + 1) k m)
  unfolding next
  next_one p k m = ap (λ p. ok tt (at p k m)) (omega arith)

  pub compare_passed : (flag : Bool) (i : ℤ) (p k : ℕ) (m : M) → 2 ≤ k
      → lt_z (o.peek m (k - 2)) (o.peek m (k - 1)) ≡ not flag
      → does (if flag then JMPLESS i else JMPGE i) p k m ≡ ok tt (at (p + 1) (k - 2) m)
  compare_passed true i p k m h e = (compare_on i p k m false h e).0 ∙ next_one p (k - 2) m
  compare_passed false i p k m h e = (compare_on i p k m true h e).1 ∙ next_one p (k - 2) m

  pub compare_stopped : (flag : Bool) (i : ℤ) (p k : ℕ) (m : M) → k < 2
      → does (if flag then JMPLESS i else JMPGE i) p k m ≡ ended Fault.short
  compare_stopped true i p k m h = (compare_short i p k m h).0
  compare_stopped false i p k m h = (compare_short i p k m h).1

-- ---- a run's three cases

module _ {M Name : Type 0} (sum : SumRule) (D : ℕ) (o : Memory M Name) (code : List (Record Name)) where
  pub run_done : (n μ : ℕ) (s : Machine M) → due sum D o code s ≡ none
      → run sum D o code n μ s ≡ result End.done n μ s
  unfolding run run_at
  run_done zero μ s e = ap (λ r. run_at sum D o code zero r μ s) e
  run_done (suc n) μ s e = ap (λ r. run_at sum D o code (suc n) r μ s) e

  pub run_spent : (r : Record Name) (μ : ℕ) (s : Machine M) → due sum D o code s ≡ some r
      → run sum D o code 0 μ s ≡ result End.spent 0 μ s
  unfolding run run_at
  run_spent r μ s e = ap (λ r. run_at sum D o code zero r μ s) e

  pub run_step : (n : ℕ) (r : Record Name) (μ : ℕ) (s : Machine M) → due sum D o code s ≡ some r
      → run sum D o code (suc n) μ s
      ≡ after (act (sum n) D o (length code) r s)
      (λ s'. run sum D o code n (max μ s'.size) s') (λ e. result (fault e) n μ s)
  unfolding run run_at
  run_step n r μ s e = ap (λ r. run_at sum D o code (suc n) r μ s) e
