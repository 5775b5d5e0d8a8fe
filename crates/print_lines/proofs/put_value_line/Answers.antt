-- A variable without an address has no line; the line of any other is its parts, printed one after the other: of its 15
-- bytes its number takes at most 2 and its value at most 11.
use mir.Syntax.{w32}
use mir.Val.{to_z, of_z}
use mir.Facts.{to_z-of_z}
use Rattle.std.proofs.Common.{arith}
use Rattle.print_ascii.proofs.Puts.{prints_is, prints_none, prints_both}
use Rattle.print_ascii.proofs.Decimals.{decimal_below_100, signed_length}
use Rattle.print_lines.proofs.Values.{unnamed, named_value}
use Rattle.print_lines.proofs.put_value_line.Goals as goal

pub returns-then-address-eq0 : goal.returns-then-address-eq0
returns-then-address-eq0 c = prints_is (prints_none (omega arith)) (unnamed _ _ _ c.if-address-eq0.true)

pub put_byte-requires : goal.put_byte-requires
put_byte-requires c = omega (arith, decimal_below_100 c.args.v (omega arith))

pub put_signed-requires : goal.put_signed-requires
put_signed-requires c = omega (arith, decimal_below_100 c.args.v (omega arith))

pub put_byte-requires-2 : goal.put_byte-requires-2
put_byte-requires-2 c =
    omega (arith, decimal_below_100 c.args.v (omega arith), signed_length (to_z w32 (of_z w32 c.args.value)))

-- The parts in a row
pub returns : goal.returns
returns c =
    prints_is
    (prints_both c.put_decimal.ensures
    (prints_both c.put_byte.ensures (prints_both c.put_signed.ensures c.put_byte-2.ensures)))
    (rw (to_z-of_z c.ranges.value) (named_value c.args.v c.args.address c.args.value c.if-address-eq0.false))
