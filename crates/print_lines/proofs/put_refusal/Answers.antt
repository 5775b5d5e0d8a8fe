-- A refusal's line is its parts, put one after the other; each number takes at most 10 of the 33 bytes.
use Rattle.std.proofs.Common.{sym, arith}
use Rattle.print_ascii.proofs.Puts.{prints_both}
use Rattle.print_ascii.proofs.Decimals.{decimal_length}
use Rattle.print.specs.Printing.{refusal_line}
use Rattle.print_lines.proofs.put_refusal.Goals as goal

pub put_word-requires-2 : goal.put_word-requires-2
put_word-requires-2 c = omega (arith, decimal_length c.from.result)

pub put_decimal-requires-2 : goal.put_decimal-requires-2
put_decimal-requires-2 c = omega (arith, decimal_length c.from.result)

pub put_byte-requires : goal.put_byte-requires
put_byte-requires c = omega (arith, decimal_length c.from.result, decimal_length c.args.refusal.place)

-- The parts in a row
pub returns : goal.returns
unfolding refusal_line
returns c =
    rw (sym c.number.ensures, sym c.from.ensures)
    (prints_both c.put_word.ensures
    (prints_both c.put_decimal.ensures
    (prints_both c.put_word-2.ensures (prints_both c.put_decimal-2.ensures c.put_byte.ensures))))
