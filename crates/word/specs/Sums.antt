-- Sums on 32-bit numbers (document 01, "Source rules and ticks"; document 02, W8).
use Rattle.std.specs.Prelude.{◌≡◌, ℤ, pos, negsuc, ◌+ℤ◌, ℕ, eqb, if◌then◌else◌}
use Rattle.std.specs.Int.Signed.{lt_z}

-- The limits, −2147483648 and 2147483647 (negsuc k is −1 − k)
abbrev pub least : ℤ
least = negsuc 2147483647

abbrev pub greatest : ℤ
greatest = pos 2147483647

-- What a sum comes to: a number, or out of range
pub data Sum : Type 0 where
  fits : ℤ → Sum
  out : Sum

-- A rule for sums: the ticks left after the sum's tick, the two numbers, what they come to. The ticks are there so that
-- a rule can change in the course of a run (document 02, W9); no claim but those that say so depends on them
abbrev pub SumRule : Type 0
SumRule = ℕ → ℤ → ℤ → Sum

-- ---- Stopping, document 01's rule

-- "a sum below −2147483648 or above 2147483647" is out of range
unfoldable pub limited : ℤ → Sum
limited z = if lt_z z least then out else if lt_z greatest z then out else fits z

unfoldable pub stopping : SumRule
stopping left x y = limited (x +ℤ y)

-- ---- Holding, the rule since W8: all calls name it

-- "a sum past either limit takes the limit's value"
unfoldable pub clamped : ℤ → ℤ
clamped z = if lt_z z least then least else if lt_z greatest z then greatest else z

unfoldable pub holding : SumRule
holding left x y = fits (clamped (x +ℤ y))

-- ---- Rules compared

-- Sums hold, but for the one with k ticks left after it, which stops: by this rule a run ends out of range exactly
-- where that sum comes up and is past a limit
abbrev pub stopping_at : ℕ → SumRule
stopping_at k left x y = if eqb left k then stopping left x y else holding left x y

-- The second rule gives what the first gives, wherever that fits
abbrev pub Extends : SumRule → SumRule → Type 0
Extends first second = (n : ℕ) (x y z : ℤ) → first n x y ≡ fits z → second n x y ≡ fits z

-- A rule that does not look at the ticks left
abbrev pub Steady : SumRule → Type 0
Steady sum = (n n' : ℕ) (x y : ℤ) → sum n x y ≡ sum n' x y
