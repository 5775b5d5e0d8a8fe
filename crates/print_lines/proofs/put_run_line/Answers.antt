-- The run's line is its parts, printed one after the other: of its 21 bytes the end takes at most 5 and the count at
-- most 10.
use Rattle.std.proofs.Common.{arith}
use Rattle.base.specs.Code.{end_of}
use Rattle.print_ascii.proofs.Puts.{prints_both}
use Rattle.print_ascii.proofs.Decimals.{decimal_length}
use Rattle.print.specs.Printing.{run_line}
use Rattle.print_lines.proofs.Lengths.{end_length}
use Rattle.print_lines.proofs.put_run_line.Goals as goal

pub put_byte-requires : goal.put_byte-requires
put_byte-requires c = omega (arith, end_length (end_of c.args.run.end))

pub put_decimal-requires : goal.put_decimal-requires
put_decimal-requires c = omega (arith, end_length (end_of c.args.run.end))

pub put_byte-requires-2 : goal.put_byte-requires-2
put_byte-requires-2 c = omega (arith, end_length (end_of c.args.run.end), decimal_length c.args.run.count)

-- The parts in a row
pub returns : goal.returns
unfolding run_line
returns c =
    prints_both c.put_word.ensures
    (prints_both c.put_end.ensures
    (prints_both c.put_byte.ensures (prints_both c.put_decimal.ensures c.put_byte-2.ensures)))
