-- The first line is its parts, put one after the other; each number takes at most 10 of the 53 bytes.
use Rattle.std.proofs.Common.{arith}
use Rattle.print_ascii.proofs.Puts.{prints_both}
use Rattle.print_ascii.proofs.Decimals.{decimal_length}
use Rattle.print.specs.Printing.{first_line}
use Rattle.print_lines.proofs.put_first_line.Goals as goal

pub put_word-requires-2 : goal.put_word-requires-2
put_word-requires-2 c = omega (arith, decimal_length c.args.sizes.records)

pub put_decimal-requires-2 : goal.put_decimal-requires-2
put_decimal-requires-2 c = omega (arith, decimal_length c.args.sizes.records)

pub put_word-requires-3 : goal.put_word-requires-3
put_word-requires-3 c =
    let a = c.args.sizes in
    omega (arith, decimal_length a.records, decimal_length a.depth)

pub put_decimal-requires-3 : goal.put_decimal-requires-3
put_decimal-requires-3 c =
    let a = c.args.sizes in
    omega (arith, decimal_length a.records, decimal_length a.depth)

pub put_byte-requires : goal.put_byte-requires
put_byte-requires c =
    let a = c.args.sizes in
    omega (arith, decimal_length a.records, decimal_length a.depth, decimal_length a.cells)

-- The parts in a row
pub returns : goal.returns
unfolding first_line
returns c =
    prints_both c.put_word.ensures
    (prints_both c.put_decimal.ensures
    (prints_both c.put_word-2.ensures
    (prints_both c.put_decimal-2.ensures
    (prints_both c.put_word-3.ensures
    (prints_both c.put_decimal-3.ensures c.put_byte.ensures)))))
