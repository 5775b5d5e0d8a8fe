-- The claims of specs/Claims.antt.
use mathlib.Core.Path.{◌≡◌, refl, ap, ◌∙◌}
use mathlib.Core.Bool.{Bool, true, false}
use mathlib.Core.List.{[], ◌∷◌}
use Prim.Native.Nat.{ℕ, ◌/◌, ◌%◌}
use native.Mathlib.Omega.{arith}
use lib.IntN.{ℤ, pos, negsuc, ◌+ℤ◌}
use lib.Dec.{eqb}
use lib.Signed.{lt_z}
use borrow.Author.Tests.{eq-eqb}
use mir.Syntax.{w8, w32}
use mir.Val.{to_z, of_z}
use mir.Facts.{to_z-of_z, of_z-to_z, Fits-of_z, sfits_to_z}
use Rattle.std.specs.Prelude.{if◌then◌else◌}
use Rattle.word.specs.Sums.{least, greatest, Sum, fits, out, limited, stopping, clamped, holding}
use Rattle.word.specs.Numbers.{joined, number_of, number_at, split, bits_of, bytes_of, byte_number, byte_of}
use Rattle.word.specs.Targets.{within, target}
use Rattle.word.specs.Claims.{Exact, Held, SameWithin, SteadySums, NumberOfBytes, BytesOfNumber}
use Rattle.word.specs.Claims.{NumbersFit, SignedBytes, Jumps}
use Rattle.word.proofs.Laws.{joined_again}

-- Neither rule looks at the ticks left, by its definition.
pub steady_sums : SteadySums
unfolding stopping holding
steady_sums = record { stops = λ n n' x y. refl; holds = λ n n' x y. refl }

-- A number within two tests is what it was before them.
kept : (low high : Bool) (s z : ℤ) → (if low then out else if high then out else fits s) ≡ fits z → z ≡ s
kept true high s z e = absurd (let no : ◌≡◌ {A = ℕ} 0 1 = cc in omega arith)
kept false true s z e = absurd (let no : ◌≡◌ {A = ℕ} 0 1 = cc in omega arith)
kept false false s z e = cc

-- A sum that fits is the sum.
pub exact : Exact stopping
unfolding stopping limited
exact n x y z = kept (lt_z (x +ℤ y) least) (lt_z greatest (x +ℤ y)) (x +ℤ y) z

-- Past one limit the held sum is that limit. (No number is past both.)
pub held : Held
unfolding clamped holding
held left x y = record {
  within = λ low high. simp (low, high);
  below = λ low. simp low;
  above = λ high. simp (not_below (x +ℤ y) high, high);
}
  where
    not_below : (z : ℤ) → lt_z greatest z ≡ true → lt_z z least ≡ false
    not_below (pos n) e = refl
    not_below (negsuc n) e = absurd (let no : ◌≡◌ {A = ℕ} 0 1 = cc in omega arith)

-- Where the two tests let a number pass, it is held as it is.
same_held : (low high : Bool) (s z : ℤ) → (if low then out else if high then out else fits s) ≡ fits z
    → fits (if low then least else if high then greatest else s) ≡ fits z
same_held true high s z e = absurd (let no : ◌≡◌ {A = ℕ} 0 1 = cc in omega arith)
same_held false true s z e = absurd (let no : ◌≡◌ {A = ℕ} 0 1 = cc in omega arith)
same_held false false s z e = e

pub same_within : SameWithin
unfolding stopping limited clamped holding
same_within = record {
  held = same;
  held_but_at = λ k n x y z e. either (eqb n k) (stopping n x y) (holding n x y) z e (same n x y z e);
  stopped_at = λ k n x y e. simp (eq-eqb n k e);
}
  where
    same : (n : ℕ) (x y z : ℤ) → stopping n x y ≡ fits z → holding n x y ≡ fits z
    same n x y z = same_held (lt_z (x +ℤ y) least) (lt_z greatest (x +ℤ y)) (x +ℤ y) z

    either : (b : Bool) (s h : Sum) (z : ℤ) → s ≡ fits z → h ≡ fits z → (if b then s else h) ≡ fits z
    either true s h z e f = e
    either false s h z e f = f

-- A number's four bytes give that number: its bytes joined are its bits, and its bits are read back.
pub number_of_bytes : NumberOfBytes
unfolding number_at number_of bytes_of bits_of
number_of_bytes z f = ap (to_z w32) (joined_again (of_z w32 z) (Fits-of_z f).fits) ∙ to_z-of_z f

-- Four bytes give a number that has these four bytes: its bits are the bytes joined, and these split again.
pub bytes_of_number : BytesOfNumber
unfolding number_of bytes_of bits_of
bytes_of_number b0 b1 b2 b3 h0 h1 h2 h3 =
    ap split (of_z-to_z {w = w32} (record { fits = omega arith })) ∙ (λ i. first i ∷ second i ∷ third i ∷ fourth i ∷ [])
  where
    first : joined b0 b1 b2 b3 % 256 ≡ b0
    first = omega arith

    second : joined b0 b1 b2 b3 / 256 % 256 ≡ b1
    second = omega arith

    third : joined b0 b1 b2 b3 / 65536 % 256 ≡ b2
    third = omega arith

    fourth : joined b0 b1 b2 b3 / 16777216 % 256 ≡ b3
    fourth = omega arith

-- Four bytes give a 32-bit number: joined they are below 4294967296.
pub numbers_fit : NumbersFit
unfolding number_of
numbers_fit b0 b1 b2 b3 h0 h1 h2 h3 = sfits_to_z {w = w32} {n = joined b0 b1 b2 b3} (record { fits = omega arith })

-- One byte is its number's bits.
pub signed_bytes : SignedBytes
unfolding byte_number byte_of
signed_bytes = record {
  number_again = λ z f. to_z-of_z f;
  byte_again = λ b h. of_z-to_z {w = w8} (record { fits = h });
  fits = λ b h. sfits_to_z {w = w8} {n = b} (record { fits = h });
}

-- Profile C's jumps, by computation.
pub jumps : Jumps
unfolding target within
jumps = (refl, refl)
