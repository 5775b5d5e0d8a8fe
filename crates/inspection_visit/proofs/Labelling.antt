-- Positions without a label are counted: a label put there takes one away.
use mathlib.Core.Path.{◌≡◌, sym, subst}
use Prim.Native.Nat.{ℕ, zero, suc, ◌+◌, ◌≤◌, ◌<◌}
use native.Mathlib.Omega.{arith}
use mathlib.Core.Bool.{Bool, true, false}
use mathlib.Core.List.{List, [], ◌∷◌}
use borrow.Author.Tests.{eq-eqb, ne_eqb}
use lib.Dec.{eqb}
use lib.ListN.{length, get_or, set}
use Rattle.std.specs.Prelude.{if◌then◌else◌, Option}
use Rattle.word.specs.Targets.{Target}
use Rattle.inspection_visit.specs.Positions.{zeros, Followed}

one_zero : (x : ℕ) → x ≡ 0 → ◌≡◌ {A = ℕ} (if eqb x 0 then 1 else 0) 1
one_zero x e = simp (eq-eqb x 0 e)

no_zero : (x : ℕ) → (x ≡ 0 → ⊥) → ◌≡◌ {A = ℕ} (if eqb x 0 then 1 else 0) 0
no_zero x e = simp (ne_eqb x 0 e)

-- a label put where there was none
pub zeros_set : (l : List ℕ) (i v : ℕ) → i < length l → get_or l i 0 ≡ 0 → (v ≡ 0 → ⊥)
    → suc (zeros (set l i v)) ≡ zeros l
unfolding zeros
zeros_set [] i v h e n = absurd (omega arith)
zeros_set (x ∷ l) zero v h e n = omega (arith, one_zero x e, no_zero v n)
zeros_set (x ∷ l) (suc i) v h e n = omega (arith, zeros_set l i v (omega arith) e n)

-- some position has none
pub some_zero : (l : List ℕ) (i : ℕ) → i < length l → get_or l i 0 ≡ 0 → 0 < zeros l
some_zero l i h e = omega (arith, zeros_set l i 1 h e (λ z. omega arith))

-- no more than there are positions
pub zeros_most : (l : List ℕ) → zeros l ≤ length l
unfolding zeros
zeros_most [] = omega arith
zeros_most (x ∷ l) = by (eqb x 0) (zeros_most l)
  where
    by : (b : Bool) → zeros l ≤ length l → (if b then 1 else 0) + zeros l ≤ suc (length l)
    by true h = omega arith
    by false h = omega arith

-- a target that is known to be another
pub followed_at : {ls o : List ℕ} {f label : ℕ} {t u : Target} {r : Option ℕ} {ls' o' : List ℕ} → t ≡ u
    → Followed ls o f label u r ls' o' → Followed ls o f label t r ls' o'
followed_at {ls} {o} {f} {label} {t} {u} {r} {ls'} {o'} e = subst (λ t. Followed ls o f label t r ls' o') (sym e)
