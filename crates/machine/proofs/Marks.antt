-- A run's mark is the most values that its stack held (Claims: Highest): by induction on the ticks, since every way
-- from a machine stays there or goes by the record due.
use mathlib.Core.Path.{◌≡◌, refl, subst}
use mathlib.Core.Logic.{◌⊎◌, inl, inr}
use Prim.Native.Nat.{ℕ, zero, suc, ◌≤◌, max}
use native.Mathlib.Decide.{dec_lt}
use native.Mathlib.Omega.{arith}
use mathlib.Core.List.{List}
use mathlib.Core.Option.{Option, none, some}
use lib.ListN.{length, get_elem?}
use Rattle.base.specs.Acts.{Outcome, ok, ended}
use Rattle.base.specs.Ends.{Fault, fault, Result, result}
use Rattle.word.specs.Sums.{SumRule}
use Rattle.record.specs.Records.{Record}
use Rattle.machine.specs.Claims.{Walk, stay, step, Most, Highest}
use Rattle.machine.specs.Machine.{Memory, Machine, due, act, after, run_at, run}

module _ {M Name : Type 0} (sum : SumRule) (D : ℕ) (o : Memory M Name) (code : List (Record Name)) where
  abbrev Way : ℕ → ℕ → Machine M → Machine M → Type 0
  Way = Walk sum D o code

  abbrev Tops : ℕ → ℕ → Machine M → ℕ → Type 0
  Tops = Most sum D o code

  -- ---- Where no step can be made the mark stays

  abbrev Stuck : ℕ → Machine M → Type 0
  Stuck n s = (m : ℕ) (r : Record Name) (t : Machine M) → n ≡ suc m → get_elem? code s.position ≡ some r
      → act (sum m) D o (length code) r s ≡ ok tt t → ⊥

  stuck : (n n' : ℕ) (s s' : Machine M) → Stuck n s → Way n n' s s' → s ≡ s'
  stuck n n' s s' h (stay) = refl
  stuck n n' s s' h (step {n = m} {s' = t} r d e w) = absurd (h m r t refl d e)

  stays : (n μ : ℕ) (s : Machine M) → s.size ≤ μ → Stuck n s → Tops n μ s μ
  stays n μ s l h = record {
    kept = omega arith;
    no_more = λ n' s' w. subst (λ (s : Machine M). s.size ≤ μ) (stuck n n' s s' h w) l;
    reached = inl refl;
  }

  stuck_none : (n : ℕ) (s : Machine M) → get_elem? code s.position ≡ none → Stuck n s
  stuck_none n s none_due m r t q d e = let z : ◌≡◌ {A = ℕ} 0 1 = cc in omega arith

  stuck_fault : (n : ℕ) (s : Machine M) (r : Record Name) (f : Fault) → get_elem? code s.position ≡ some r
      → act (sum n) D o (length code) r s ≡ ended f → Stuck (suc n) s
  stuck_fault n s r f d e m r' t q d' e' =
      let same : n ≡ m = omega arith in
      let z : ◌≡◌ {A = ℕ} 0 1 = cc in
      omega arith

  -- ---- The record due at s, with n ticks left after it, goes on to t

  module _ (n μ : ℕ) (s t : Machine M) (r : Record Name) (d : get_elem? code s.position ≡ some r)
      (e : act (sum n) D o (length code) r s ≡ ok tt t) (l : s.size ≤ μ)
      (high : ℕ) (m : Tops n (max μ t.size) t high) where
    below : (n₀ n' : ℕ) (s' : Machine M) → n₀ ≡ suc n → Way n₀ n' s s' → s'.size ≤ high
    below n₀ n' s' q (stay) = omega (arith, m.kept)
    below n₀ n' s' q (step {n = k} {s' = u} r' d' e' w) =
        let same : k ≡ n = omega arith in
        let one : u ≡ t = cc in
        m.no_more n' s' (subst (λ k. Way k n' t s') same (subst (λ (u : Machine M). Way k n' u s') one w))

    up : (high ≡ max μ t.size) ⊎ ((n' : ℕ) × (s' : Machine M) × Way n n' t s' × (s'.size ≡ high))
        → (high ≡ μ) ⊎ ((n' : ℕ) × (s' : Machine M) × Way (suc n) n' s s' × (s'.size ≡ high))
    up (inl q) = elim (dec_lt μ t.size) [
      | yes h ↦ inr (n, t, step r d e stay, omega arith)
      | no h ↦ inl (omega arith)
    ]
    up (inr (n', s', w, q)) = inr (n', s', step r d e w, q)

    goes_on : Tops (suc n) μ s high
    goes_on = record {
      kept = omega (arith, m.kept);
      no_more = λ n' s'. below (suc n) n' s' refl;
      reached = up m.reached;
    }

  -- ---- A run

  most_at : (n : ℕ) (r : Option (Record Name)) (μ : ℕ) (s : Machine M) → due sum D o code s ≡ r → s.size ≤ μ
      → Tops n μ s (run_at sum D o code n r μ s).mark
  unfolding run_at
  most_at zero none μ s d l = stays 0 μ s l (stuck_none 0 s d)
  most_at (suc n) none μ s d l = stays (suc n) μ s l (stuck_none (suc n) s d)
  most_at zero (some r) μ s d l = stays 0 μ s l (λ m r' t q d e. omega arith)
  most_at (suc n) (some r) μ s d l =
      pick (act (sum n) D o (length code) r s) refl
      (λ s'. most_at n (due sum D o code s') (max μ s'.size) s' refl (omega arith))
    where
      again : Machine M → Result (Machine M)
      again s' = run_at sum D o code n (due sum D o code s') (max μ s'.size) s'

      pick : (x : Outcome (Machine M) Fault (Unit {0})) → act (sum n) D o (length code) r s ≡ x
          → ((s' : Machine M) → Tops n (max μ s'.size) s' (again s').mark)
          → Tops (suc n) μ s (after x again (λ e. result (fault e) n μ s)).mark
      pick (ok a t) e i = unfold after in goes_on n μ s t r d e l (again t).mark (i t)
      pick (ended f) e i = unfold after in stays (suc n) μ s l (stuck_fault n s r f d e)

  pub highest : Highest sum D o code
  unfolding run
  highest n μ s l = most_at n (due sum D o code s) μ s refl l
