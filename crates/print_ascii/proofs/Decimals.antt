-- Numbers as text: a digit more or none, and how long a number's text can be. By the digits left, and by cases on the
-- sign.
use mathlib.Core.Path.{◌≡◌, refl, sym, ap}
use mathlib.Core.Bool.{Bool, true, false}
use mathlib.Core.List.{[], ◌∷◌, ◌++◌}
use Prim.Native.Nat.{ℕ, zero, suc, ◌+◌, ◌-◌, ◌*◌, ◌/◌, ◌%◌, ◌<◌, ◌≤◌}
use native.Mathlib.Omega.{arith}
use lib.Dec.{ltb}
use lib.IntN.{ℤ, pos, negsuc}
use lib.ListN.{length, length-append}
use lib.Signed.{lt_z}
use borrow.Author.Tests.{lt-ltb, le-ltb, ltb-true}
use Rattle.std.specs.Prelude.{if◌then◌else◌, unsigned_abs}
use Rattle.print.specs.Ascii.{ascii}
use Rattle.print.specs.Numbers.{decimal_by, decimal, signed}

-- ---- Digits

-- No digits left: nothing.
pub no_digits : (most n : ℕ) → most ≡ 0 → decimal_by most n ≡ []
unfolding decimal_by
no_digits zero n e = refl
no_digits (suc most) n e = absurd (omega arith)

-- A number below 10 is one digit,
pub one_digit : (most n : ℕ) → (most ≡ 0 → ⊥) → n < 10 → decimal_by most n ≡ (48 + n) ∷ []
unfolding decimal_by
one_digit zero n e h = absurd (e refl)
one_digit (suc most) n e h = simp (lt-ltb n 10 h)

-- and another is a tenth of it and its last digit.
pub more_digits : (most n : ℕ) → (most ≡ 0 → ⊥) → 10 ≤ n
    → decimal_by most n ≡ decimal_by (most - 1) (n / 10) ++ ((48 + n % 10) ∷ [])
unfolding decimal_by
more_digits zero n e h = absurd (e refl)
more_digits (suc most) n e h =
    let less : suc most - 1 ≡ most = omega arith in
    rw less (simp (le-ltb n 10 h))

-- ---- Lengths

-- At most as many digits as were allowed,
pub digits_allowed : (most n : ℕ) → length (decimal_by most n) ≤ most
unfolding decimal_by
digits_allowed zero n = omega arith
digits_allowed (suc most) n = by (ltb n 10) (digits_allowed most (n / 10))
  where
    by : (t : Bool) → length (decimal_by most (n / 10)) ≤ most
        → length (if t then (48 + n) ∷ [] else decimal_by most (n / 10) ++ ((48 + n % 10) ∷ [])) ≤ suc most
    by true h = omega arith
    by false h = omega (arith, length-append (decimal_by most (n / 10)) ((48 + n % 10) ∷ []))

-- and at most d + 1 of them below `limit`, if at most d below a tenth of it:
fewer : (d limit tenth : ℕ) → limit ≤ 10 * tenth → ((most n : ℕ) → n < tenth → length (decimal_by most n) ≤ d)
    → (most n : ℕ) → n < limit → length (decimal_by most n) ≤ suc d
unfolding decimal_by
fewer d limit tenth e h zero n below = omega arith
fewer d limit tenth e h (suc most) n below = by (ltb n 10) (h most (n / 10) (omega arith))
  where
    by : (t : Bool) → length (decimal_by most (n / 10)) ≤ d
        → length (if t then (48 + n) ∷ [] else decimal_by most (n / 10) ++ ((48 + n % 10) ∷ [])) ≤ suc d
    by true h = omega arith
    by false h = omega (arith, length-append (decimal_by most (n / 10)) ((48 + n % 10) ∷ []))

-- 1 below 10, 2 below 100, 4 below 10,000.
one_below : (most n : ℕ) → n < 10 → length (decimal_by most n) ≤ 1
unfolding decimal_by
one_below zero n h = omega arith
one_below (suc most) n h = rw (lt-ltb n 10 h) (omega arith)

two_below : (most n : ℕ) → n < 100 → length (decimal_by most n) ≤ 2
two_below = fewer 1 100 10 (omega arith) one_below

four_below : (most n : ℕ) → n < 10000 → length (decimal_by most n) ≤ 4
four_below = fewer 3 10000 1000 (omega arith) (fewer 2 1000 100 (omega arith) two_below)

-- A number of 32 bits has at most 10 digits,
pub decimal_length : (n : ℕ) → length (decimal n) ≤ 10
decimal_length n = digits_allowed 10 n

-- a variable's number at most 2,
pub decimal_below_100 : (n : ℕ) → n < 100 → length (decimal n) ≤ 2
decimal_below_100 n h = two_below 10 n h

-- and a record's position at most 4.
pub decimal_below_10000 : (n : ℕ) → n < 10000 → length (decimal n) ≤ 4
decimal_below_10000 n h = four_below 10 n h

-- A signed number has at most 11 bytes.
pub signed_length : (z : ℤ) → length (signed z) ≤ 11
unfolding signed
signed_length (pos n) = omega (arith, decimal_length n)
signed_length (negsuc n) = omega (arith, decimal_length (suc n))

-- ---- The sign

-- From 0 on a signed number is its size,
pub signed_plain : (z : ℤ) {n : ℕ} → n ≡ unsigned_abs z → lt_z z (pos 0) ≡ false → signed z ≡ decimal n
unfolding signed
signed_plain (pos m) e h = ap decimal (sym e)
signed_plain (negsuc m) e h = absurd (let no : ◌≡◌ {A = ℕ} 0 1 = cc in omega arith)

-- and below 0 it is a minus and its size.
pub signed_minus : (z : ℤ) {n : ℕ} → n ≡ unsigned_abs z → lt_z z (pos 0) ≡ true → signed z ≡ ascii "-" ++ decimal n
unfolding signed
signed_minus (pos m) e h = absurd (omega (arith, ltb-true m 0 h))
signed_minus (negsuc m) e h = ap (λ (k : ℕ). ascii "-" ++ decimal k) (sym e)
