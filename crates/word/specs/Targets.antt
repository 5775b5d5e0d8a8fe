-- Where a jump leads (document 01, "Records" and "Executors").
use Rattle.std.specs.Prelude.{ℕ, suc, ℤ, pos, negsuc, ◌+ℤ◌, leb, if◌then◌else◌, Option, Some, None}

-- Where a taken jump leads: to a position, or outside the code
abbrev pub Target : Type 0
Target = Option ℕ

-- "astray (a taken jump to below 0 or past the end position)"
unfoldable pub within : ℕ → ℤ → Target
within last (pos p) = if leb p last then Some p else None
within last (negsuc p) = None

-- "A jump adds its operand to the position of the record after it", in unbounded numbers
unfoldable pub target : ℕ → ℤ → ℕ → Target
target position operand last = within last (pos (suc position) +ℤ operand)
