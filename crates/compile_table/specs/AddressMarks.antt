-- The address marks of a table, kept as bits of one word (document 02, W4).
use Rattle.std.specs.Prelude.{◌≡◌, Bool, true, List, [], ◌∷◌, ◌↔◌, ℕ, zero, suc, ◌-◌, ◌/◌, ◌%◌, ◌^◌, ◌≤◌, ◌<◌, eqb}
use Rattle.std.specs.Prelude.{ltb, length, if◌then◌else◌}
use Rattle.std.specs.Int.Bits.{bit_or}
use Rattle.compile.specs.Table.{times, named_in, is_table}

-- "bit a − 1 for address a (an entry above 64 sets none)": a word with this bit alone
unfoldable pub address_bit : ℕ → ℕ
address_bit zero = 0
address_bit (suc b) = if ltb b 64 then 2 ^ b else 0

-- "Address marks .. as bits of one 64-bit word"
unfoldable pub address_marks : List ℕ → ℕ
address_marks [] = 0
address_marks (x ∷ t) = bit_or (address_bit x) (address_marks t)

-- whether bit b of a word is set; the lowest is bit 0
unfoldable pub bit : ℕ → ℕ → Bool
bit word b = eqb (word / 2 ^ b % 2) 1

-- a word with its n lowest bits set, and no other
abbrev pub lowest : ℕ → ℕ
lowest n = 2 ^ n - 1

-- The request's sentence, of a table
pub record ByWord (t : List ℕ) : Type 0 where
  -- "one 64-bit word, bit a − 1 for address a (an entry above 64 sets none)"
  pub one_word : address_marks t < 2 ^ 64
  pub marked : (b : ℕ) → (bit (address_marks t) b ≡ true) ↔ ((b < 64) × (1 ≤ times (suc b) t))
  -- "a table passes exactly when its n lowest bits are set and no other, n counting the nonzero entries"
  pub passes : (is_table t ≡ true) ↔ ((b : ℕ) → bit (address_marks t) b ≡ ltb b (named_in t))
  -- "look at the word as a whole"
  pub as_a_whole : (is_table t ≡ true) ↔ (address_marks t ≡ lowest (named_in t))

-- "for every table" of 64 bytes
abbrev pub WordTest : Type 0
WordTest = (t : List ℕ) → length t ≡ 64 → ByWord t
