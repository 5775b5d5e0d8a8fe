-- The rules for sums and signed bytes at their limits, by computation (Cases: SumLimits, ByteLimits).
use mathlib.Core.Path.{refl}
use Rattle.word.specs.Sums.{limited, stopping, clamped, holding}
use Rattle.word.specs.Numbers.{byte_number}
use Rattle.word.specs.Cases.{SumLimits, ByteLimits}

pub sum_limits : SumLimits
unfolding limited stopping clamped holding
sum_limits = record {
  greatest_fits = refl;
  greatest_held = refl;
  above_greatest = refl;
  above_held = refl;
  far_above = refl;
  far_above_held = refl;
  least_fits = refl;
  least_held = refl;
  below_least = refl;
  below_held = refl;
  far_below = refl;
  far_below_held = refl;
}

pub byte_limits : ByteLimits
unfolding byte_number
byte_limits = record { greatest_byte = refl; least_byte = refl; minus_one = refl }
