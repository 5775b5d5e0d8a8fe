-- The two rules for sums at their limits, and signed bytes at theirs. negsuc k is −1 − k.
use Rattle.std.specs.Prelude.{◌≡◌, pos, negsuc}
use Rattle.word.specs.Sums.{fits, out, stopping, holding}
use Rattle.word.specs.Numbers.{byte_number}

-- A sum at each limit, one past it, and far past it, by both rules. The first number is the ticks left, at which
-- neither rule looks.
pub record SumLimits : Type 0 where
  -- 2147483646 + 1 is 2147483647
  pub greatest_fits : stopping 0 (pos 2147483646) (pos 1) ≡ fits (pos 2147483647)
  pub greatest_held : holding 0 (pos 2147483646) (pos 1) ≡ fits (pos 2147483647)
  -- "2147483647 + 1 gives 2147483647" (document 02, W8)
  pub above_greatest : stopping 0 (pos 2147483647) (pos 1) ≡ out
  pub above_held : holding 0 (pos 2147483647) (pos 1) ≡ fits (pos 2147483647)
  -- 2147483647 + 2147483647
  pub far_above : stopping 0 (pos 2147483647) (pos 2147483647) ≡ out
  pub far_above_held : holding 0 (pos 2147483647) (pos 2147483647) ≡ fits (pos 2147483647)
  -- −2147483647 + −1 is −2147483648
  pub least_fits : stopping 0 (negsuc 2147483646) (negsuc 0) ≡ fits (negsuc 2147483647)
  pub least_held : holding 0 (negsuc 2147483646) (negsuc 0) ≡ fits (negsuc 2147483647)
  -- −2147483648 + −1
  pub below_least : stopping 0 (negsuc 2147483647) (negsuc 0) ≡ out
  pub below_held : holding 0 (negsuc 2147483647) (negsuc 0) ≡ fits (negsuc 2147483647)
  -- −2147483648 + −2147483648
  pub far_below : stopping 0 (negsuc 2147483647) (negsuc 2147483647) ≡ out
  pub far_below_held : holding 0 (negsuc 2147483647) (negsuc 2147483647) ≡ fits (negsuc 2147483647)

-- "one signed byte" (document 02, W1): `7F` is 127, `80` is −128, `FF` is −1.
pub record ByteLimits : Type 0 where
  pub greatest_byte : byte_number 0x7f ≡ pos 127
  pub least_byte : byte_number 0x80 ≡ negsuc 127
  pub minus_one : byte_number 0xff ≡ negsuc 0
