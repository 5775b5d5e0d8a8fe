-- What the proofs of this crate's functions share. A signed local holds bits, of_z w z; what is read from it is
-- to_z w (of_z w z), which is z again where z fits the width (to_z-of_z).
use mathlib.Core.Path.{◌≡◌, refl, ap, ◌∙◌}
use mathlib.Core.Bool.{Bool, true, false, cond}
use Prim.Native.Nat.{ℕ, zero, suc, ◌+◌, ◌-◌, ◌*◌, ◌/◌, ◌%◌, ◌<◌, ◌≤◌, ◌^◌, zero-le}
use native.Mathlib.Nat.{div-div-eq-div-mul, div-add-mod'}
use native.Mathlib.Omega.{arith}
use lib.IntN.{ℤ, pos, negsuc, ◌+ℤ◌, ◌-ℤ◌, nat_abs}
use lib.Signed.{mag, lt_z, le_z}
use mir.Syntax.{Width, w32, w64}
use mir.Val.{SFits, to_z, of_z, hbits}
use mir.Facts.{to_z-of_z, to_z_pos}
use Rattle.std.proofs.lemmas.Int.{ints}
use borrow.Author.Tests.{le-ltb, le-leb}
use Rattle.std.specs.Int.{int_max, int_min}
use Rattle.std.specs.Prelude.{if◌then◌else◌, Some, None}
use Rattle.word.specs.Sums.{least, greatest, clamped}
use Rattle.word.specs.Numbers.{joined}
use Rattle.word.specs.Targets.{within}

-- ---- numbers read back from their bits

-- A number that fits and is v is read back as v.
pub read_back : (w : Width) {z v : ℤ} → mag z < 2 ^ hbits w → z ≡ v → to_z w (of_z w z) ≡ v
read_back w f e = to_z-of_z {w = w} (record { sfits = f }) ∙ e

-- ---- every bit the other way

-- −1 − z, by cases
abbrev pub opposite : ℤ → ℤ
opposite (pos n) = negsuc n
opposite (negsuc n) = pos n

-- The difference −1 − z is that.
pub opposite_is : (z : ℤ) → negsuc 0 -ℤ z ≡ opposite z
opposite_is (pos zero) = refl
opposite_is (pos (suc n)) = ap negsuc (omega arith)
opposite_is (negsuc n) =
    ap (λ (t : Bool). cond t (negsuc (1 - suc (suc n))) (pos (suc n - 1))) (le-ltb (suc n) 1 (omega arith))
    ∙ ap pos (omega arith)

-- It fits where the number does.
pub opposite_fits : {w : Width} (z : ℤ) → SFits w z → SFits w (opposite z)
opposite_fits (pos n) f = record { sfits = f.sfits }
opposite_fits (negsuc n) f = record { sfits = f.sfits }

-- ---- four bytes

-- The four bytes of 32 bits, joined, are these bits.
pub joined_again : (u : ℕ) → u < 4294967296
    → joined (u % 256) (u / 256 % 256) (u / 65536 % 256) (u / 16777216 % 256) ≡ u
joined_again u h = omega (arith, div-add-mod' u 256, second, third)
  where
    second : u / 65536 * 256 + u / 256 % 256 ≡ u / 256
    second = rw (← div-div-eq-div-mul u 256 256) (div-add-mod' (u / 256) 256)

    third : u / 16777216 * 256 + u / 65536 % 256 ≡ u / 65536
    third = rw (← div-div-eq-div-mul u 65536 256) (div-add-mod' (u / 65536) 256)

-- ---- a sum held at its limits

-- The least of a number and the greatest, and the greatest of that and the least, is the number held at its limits.
pub held_between : (z : ℤ) → int_max least (int_min z greatest) ≡ clamped z
unfolding clamped
held_between (pos n) = by (lt_z greatest (pos n))
  where
    by : (past : Bool) → let held = if past then greatest else pos n in int_max least held ≡ held
    by true = refl
    by false = refl
held_between (negsuc n) = refl

-- ---- a jump's target

-- What the code reaches is the operand added to the next position, which 64 bits hold.
pub reached : (position : ℕ) {z r : ℤ} → position < 4096 → SFits w32 z → r ≡ to_z w32 (of_z w32 z)
    → to_z w64 (of_z w64 (to_z w64 (of_z w64 (to_z w64 position +ℤ pos 1)) +ℤ to_z w64 (of_z w64 r)))
    ≡ pos (suc position) +ℤ z
reached position h f e = omega (arith, ints)

-- The last position, in 64 bits
last_is : (last : ℕ) → last ≤ 4096 → to_z w64 last ≡ pos last
last_is last few = to_z_pos w64 {n = last} (omega arith)

-- From 0 to the last position a number leads there,
pub within_inside : (z : ℤ) (last : ℕ) → last ≤ 4096 → le_z (pos 0) z ≡ true → le_z z (to_z w64 last) ≡ true
    → Some (nat_abs z) ≡ within last z
unfolding within
within_inside (pos n) last few low high = simp (rw (last_is last few) at high)
within_inside (negsuc n) last few low high = absurd (let no : ◌≡◌ {A = ℕ} 0 1 = cc in omega arith)

-- and any other goes astray.
pub within_below : (z : ℤ) (last : ℕ) → le_z (pos 0) z ≡ false → None ≡ within last z
unfolding within
within_below (pos n) last h = absurd (let no : ◌≡◌ {A = ℕ} 0 1 = cc (le-leb 0 n zero-le) in omega arith)
within_below (negsuc n) last h = refl

pub within_past : (z : ℤ) (last : ℕ) → last ≤ 4096 → le_z z (to_z w64 last) ≡ false → None ≡ within last z
unfolding within
within_past (pos n) last few h = simp (rw (last_is last few) at h)
within_past (negsuc n) last few h = refl
