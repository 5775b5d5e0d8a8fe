-- Signed 32-bit numbers as four bytes (document 01, "Profile text" and "Records"):
-- "signed 32-bit, two's complement, lowest byte first"; and small ones as "one signed byte" (document 02, W1).
use Rattle.std.specs.Prelude.{ℕ, ◌+◌, ◌*◌, ◌/◌, ◌%◌, List, [], ◌∷◌, ℤ, get_or}
use Rattle.std.specs.Int.{w8, w32}
use Rattle.std.proofs.Common.{to_z, of_z}

-- Four bytes, lowest first, as an unsigned number
abbrev pub joined : ℕ → ℕ → ℕ → ℕ → ℕ
joined b0 b1 b2 b3 = b0 + b1 * 256 + b2 * 65536 + b3 * 16777216

-- The number of four bytes. Two's complement: to_z w32 u is u below 2147483648, else u − 4294967296
unfoldable pub number_of : ℕ → ℕ → ℕ → ℕ → ℤ
number_of b0 b1 b2 b3 = to_z w32 (joined b0 b1 b2 b3)

-- The number of the four bytes from a position on
unfoldable pub number_at : List ℕ → ℕ → ℤ
number_at bytes i = number_of (get_or bytes i 0) (get_or bytes (i + 1) 0) (get_or bytes (i + 2) 0)
    (get_or bytes (i + 3) 0)

-- The four bytes of an unsigned number, lowest first
abbrev pub split : ℕ → List ℕ
split u = u % 256 ∷ u / 256 % 256 ∷ u / 65536 % 256 ∷ u / 16777216 % 256 ∷ []

-- A number's 32 bits, unsigned: of_z w32 z is z from 0 on, else z + 4294967296
unfoldable pub bits_of : ℤ → ℕ
bits_of z = of_z w32 z

-- The four bytes of a number
unfoldable pub bytes_of : ℤ → List ℕ
bytes_of z = split (bits_of z)

-- The number of one signed byte: to_z w8 b is b below 128, else b − 256
unfoldable pub byte_number : ℕ → ℤ
byte_number b = to_z w8 b

-- The byte of a number from −128 to 127: of_z w8 z is z from 0 on, else z + 256
unfoldable pub byte_of : ℤ → ℕ
byte_of z = of_z w8 z
