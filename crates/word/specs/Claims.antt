-- What is claimed of 32-bit numbers. The proof of the same spelling stands in proofs/.
use Rattle.std.specs.Prelude.{◌≡◌, ℕ, ◌<◌, [], ◌∷◌, true, false, ℤ, pos, negsuc, ◌+ℤ◌}
use Rattle.std.specs.Int.Signed.{lt_z}
use Rattle.std.specs.Int.{w8, w32}
use Rattle.std.proofs.Common.{SFits}
use Rattle.word.specs.Sums.{least, greatest, fits, SumRule, stopping, holding, stopping_at, Extends, Steady}
use Rattle.word.specs.Numbers.{number_of, number_at, bytes_of, byte_number, byte_of}
use Rattle.word.specs.Targets.{target}
use Rattle.std.specs.Prelude.{Some}

-- ---- Sums

-- A sum that fits is the sum. So it is by the stopping rule.
abbrev pub Exact : SumRule → Type 0
Exact sum = (n : ℕ) (x y z : ℤ) → sum n x y ≡ fits z → z ≡ x +ℤ y

-- "A sum past either limit takes the limit's value" (document 02, W8): the held sum is the sum where that is within
-- the limits, and else the nearer limit.
pub record HeldSum (left : ℕ) (x y : ℤ) : Type 0 where
  pub within : lt_z (x +ℤ y) least ≡ false → lt_z greatest (x +ℤ y) ≡ false → holding left x y ≡ fits (x +ℤ y)
  pub below : lt_z (x +ℤ y) least ≡ true → holding left x y ≡ fits least
  pub above : lt_z greatest (x +ℤ y) ≡ true → holding left x y ≡ fits greatest

abbrev pub Held : Type 0
Held = (left : ℕ) (x y : ℤ) → HeldSum left x y

-- Both rules give the same wherever a sum stays within the limits; so does the one that stops at one tick, which at
-- that tick is the stopping rule.
pub record SameWithin : Type 0 where
  pub held : Extends stopping holding
  pub held_but_at : (k : ℕ) → Extends stopping (stopping_at k)
  pub stopped_at : (k n : ℕ) (x y : ℤ) → n ≡ k → stopping_at k n x y ≡ stopping n x y

-- Neither rule looks at the ticks left.
pub record SteadySums : Type 0 where
  pub stops : Steady stopping
  pub holds : Steady holding

-- ---- Bytes

-- A 32-bit number's four bytes give that number. (SFits w32 z: z is from −2147483648 to 2147483647.)
abbrev pub NumberOfBytes : Type 0
NumberOfBytes = (z : ℤ) → SFits w32 z → number_at (bytes_of z) 0 ≡ z

-- Four bytes give a number that has these four bytes.
abbrev pub BytesOfNumber : Type 0
BytesOfNumber = (b0 b1 b2 b3 : ℕ) → b0 < 256 → b1 < 256 → b2 < 256 → b3 < 256
    → bytes_of (number_of b0 b1 b2 b3) ≡ b0 ∷ b1 ∷ b2 ∷ b3 ∷ []

-- Four bytes give a 32-bit number.
abbrev pub NumbersFit : Type 0
NumbersFit = (b0 b1 b2 b3 : ℕ) → b0 < 256 → b1 < 256 → b2 < 256 → b3 < 256 → SFits w32 (number_of b0 b1 b2 b3)

-- One byte and numbers from −128 to 127, the same three. (SFits w8 z: z is from −128 to 127.)
pub record SignedBytes : Type 0 where
  -- such a number's byte gives that number
  pub number_again : (z : ℤ) → SFits w8 z → byte_number (byte_of z) ≡ z
  -- a byte gives a number that has this byte
  pub byte_again : (b : ℕ) → b < 256 → byte_of (byte_number b) ≡ b
  -- a byte gives such a number
  pub fits : (b : ℕ) → b < 256 → SFits w8 (byte_number b)

-- ---- Jumps

-- Profile C's two jumps, in code of 8 records: JMPGE 5 at position 2 leads to the end position, JMP −8 at position 7 to
-- the first record.
abbrev pub Jumps : Type 0
Jumps = (target 2 (pos 5) 8 ≡ Some 8) × (target 7 (negsuc 7) 8 ≡ Some 0)
