-- Tables and their address marks, by computation (document 02, W4).
use Rattle.std.specs.Prelude.{◌≡◌, List, [], ◌∷◌, ◌++◌, ℕ, zero, suc, replicate, Option, Some, None}
use Rattle.compile_table.specs.AddressMarks.{address_bit, address_marks}
use Rattle.compile_table.specs.Tested.{tested}

-- "bit a − 1 for address a (an entry above 64 sets none)"
abbrev pub AddressBits : Type 0
AddressBits = (address_bit 1 ≡ 1) × (address_bit 2 ≡ 2) × (address_bit 3 ≡ 4) × (address_bit 64 ≡ 9223372036854775808)
    × (address_bit 0 ≡ 0) × (address_bit 65 ≡ 0) × (address_bit 255 ≡ 0)

-- the k numbers from a on
unfoldable pub numbers : ℕ → ℕ → List ℕ
numbers a zero = []
numbers a (suc k) = a ∷ numbers (suc a) k

-- a table's word, and what its test finds
abbrev pub found : List ℕ → ℕ × Option ℕ
found t = (address_marks t, tested t)

-- no name; those of profile I; all 64
abbrev pub TablesPass : Type 0
TablesPass = (found (replicate 64 0) ≡ (0, Some 0))
    × (found (3 ∷ 2 ∷ 1 ∷ replicate 61 0) ≡ (7, Some 3))
    × (found (numbers 1 64) ≡ (18446744073709551615, Some 64))

-- an address twice, one left out, one above 64; 64 entries of which two are the same
abbrev pub TablesFail : Type 0
TablesFail = (found (1 ∷ 1 ∷ replicate 62 0) ≡ (1, None))
    × (found (1 ∷ 3 ∷ replicate 62 0) ≡ (5, None))
    × (found (1 ∷ 65 ∷ replicate 62 0) ≡ (1, None))
    × (found (numbers 1 63 ++ 63 ∷ []) ≡ (9223372036854775807, None))
