-- Where a part of a text ends, and a cache of that.
use Rattle.std.specs.Prelude.{ℕ, suc, ◌+◌, ◌≤◌, List, [], ◌∷◌, eqb, ltb, length, get_or, set, Option, Some, None}
use Rattle.std.specs.Prelude.{if◌then◌else◌}
use Rattle.text_shape.specs.Shape.{begins_constant, constant_width}
use Rattle.text_shape.specs.Caches.{Right}

-- ---- Where a part ends

-- The bytes of a construct before its parts, by its first byte
unfoldable pub width : ℕ → ℕ
width b =
    if eqb b 0x01 then 2 else
    if begins_constant b then 1 + constant_width b else
    if eqb b 0x11 then 2 else
    if eqb b 0x20 then 2 else 1

-- How many parts are due after these bytes, with n due after the construct: its own parts and n
unfoldable pub due_after : ℕ → ℕ → ℕ
due_after b n =
    if eqb b 0x00 then n else
    if eqb b 0x01 then suc n else
    if eqb b 0x03 then suc (suc (suc n)) else
    if begins_constant b then n else
    if eqb b 0x11 then n else
    if eqb b 0x20 then n else
    if eqb b 0x21 then suc n else suc (suc n)

-- `Row text i n j`: n parts, of any kinds, stand in a row from i to j
pub data Row (text : List ℕ) : ℕ → ℕ → ℕ → Type 0 where
  none : {i : ℕ} → Row text i 0 i
  more : {i n j : ℕ} → i + width (get_or text i 0) ≤ length text
      → Row text (i + width (get_or text i 0)) (due_after (get_or text i 0) n) j → Row text i (suc n) j

-- ---- A cache of part ends

-- What an entry of a cache says: a position, and 0 says nothing
unfoldable pub known : ℕ → Option ℕ
known entry = if eqb entry 0 then None else Some entry

-- The cache with a value at a position, where it has that position and the value has 16 bits
unfoldable pub noted : List ℕ → ℕ → ℕ → List ℕ
noted cache i value = if ltb value 0x10000 then set cache i value else cache

-- A cache of part ends: at a part's position, the position after the part
abbrev pub PartEnds : List ℕ → List ℕ → Type 0
PartEnds text = Right (λ i end. Row text i 1 end)

-- ---- A byte in a text

-- How often a byte stands in a text
unfoldable pub times : ℕ → List ℕ → ℕ
times b [] = 0
times b (x ∷ xs) = if eqb x b then suc (times b xs) else times b xs

-- Where a byte stands first in a text, or the text's length
unfoldable pub first : ℕ → List ℕ → ℕ
first b [] = 0
first b (x ∷ xs) = if eqb x b then 0 else suc (first b xs)
