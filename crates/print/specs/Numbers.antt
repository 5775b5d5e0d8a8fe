-- Numbers as bytes, in ASCII.
use Rattle.std.specs.Prelude.{ℕ, zero, suc, ◌+◌, ◌/◌, ◌%◌, List, [], ◌∷◌, ◌++◌, ltb, ℤ, pos, negsuc, if◌then◌else◌}
use Rattle.print.specs.Ascii.{ascii}

-- n in decimal, by at most k digits: 48 is '0'
unfoldable pub decimal_by : ℕ → ℕ → List ℕ
decimal_by zero n = []
decimal_by (suc k) n = if ltb n 10 then (48 + n) ∷ [] else decimal_by k (n / 10) ++ ((48 + n % 10) ∷ [])

-- Numbers of 32 bits have at most 10 digits
abbrev pub decimal : ℕ → List ℕ
decimal n = decimal_by 10 n

unfoldable pub signed : ℤ → List ℕ
signed (pos n) = decimal n
signed (negsuc n) = ascii "-" ++ decimal (suc n)
