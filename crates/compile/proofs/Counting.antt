-- How many numbers below k pass a test: one more where one more passes, and k with those that do not. By going through
-- the numbers.
use mathlib.Core.Path.{◌≡◌, refl, sym, ◌∙◌, ap}
use Prim.Native.Nat.{ℕ, zero, suc, ◌+◌, ◌≤◌, ◌<◌}
use native.Mathlib.Omega.{arith}
use mathlib.Core.Bool.{Bool, true, false, not}
use lib.Dec.{eqb}
use borrow.Author.Tests.{eqb-true, eqb-false, ne_eqb}
use Rattle.std.specs.Prelude.{if◌then◌else◌}
use Rattle.text.specs.Sizes.{how_many}

-- A number that is not below k does not count.
unchanged : (test : ℕ → Bool) (x k : ℕ) → k ≤ x
    → how_many (λ w. if eqb x w then true else test w) k ≡ how_many test k
unfolding how_many
unchanged test x zero l = refl
unchanged test x (suc k) l = simp (ne_eqb x k (λ e. omega arith), unchanged test x k (omega arith))

-- One below k that did not pass counts 1.
pub one_more : (test : ℕ → Bool) (x k : ℕ) → x < k → test x ≡ false
    → how_many (λ w. if eqb x w then true else test w) k ≡ suc (how_many test k)
unfolding how_many
one_more test x zero l e = absurd (omega arith)
one_more test x (suc k) l e = by (eqb x k) refl (λ m. one_more test x k m e)
  where
    more : ℕ
    more = how_many (λ w. if eqb x w then true else test w) k

    by : (b : Bool) → eqb x k ≡ b → (x < k → more ≡ suc (how_many test k))
        → (if (if b then true else test k) then 1 else 0) + more ≡ suc ((if test k then 1 else 0) + how_many test k)
    by true q i =
        let same : x ≡ k = eqb-true x k q in
        let fails : test k ≡ false = ap test (sym same) ∙ e in
        simp fails (omega (arith, unchanged test x k (omega arith)))
    by false q i = omega (arith, i (omega (arith, eqb-false x k q)))

pub none_pass : how_many (λ w. false) 64 ≡ 0
unfolding how_many
none_pass = refl

-- Those that pass and those that do not are all.
pub pass_or_not : (test : ℕ → Bool) (k : ℕ) → how_many (λ w. not (test w)) k + how_many test k ≡ k
unfolding how_many
pass_or_not test zero = refl
pass_or_not test (suc k) = by (test k) (pass_or_not test k)
  where
    no_pass : ℕ
    no_pass = how_many (λ w. not (test w)) k

    by : (b : Bool) → no_pass + how_many test k ≡ k
        → (if not b then 1 else 0) + no_pass + ((if b then 1 else 0) + how_many test k) ≡ suc k
    by true h = omega arith
    by false h = omega arith
