-- A line is its parts, printed one after the other: of its 48 bytes the position takes at most 4 and each record at
-- most 19.
use Rattle.std.proofs.Common.{arith}
use Rattle.print_ascii.proofs.Puts.{prints_both}
use Rattle.print_ascii.proofs.Decimals.{decimal_below_10000}
use Rattle.print_records.specs.Lines.{line_at}
use Rattle.print_records.proofs.Texts.{text_length}
use Rattle.print_records.proofs.put_record_line.Goals as goal

pub put_byte-requires : goal.put_byte-requires
put_byte-requires c = omega (arith, decimal_below_10000 c.args.i (omega arith))

pub put_record-requires : goal.put_record-requires
put_record-requires c = (omega (arith, decimal_below_10000 c.args.i (omega arith)), omega arith, omega arith)

pub put_word-requires : goal.put_word-requires
put_word-requires c =
    let a = c.args in
    omega (arith, decimal_below_10000 a.i (omega arith), text_length 0x40 a.assembly.now a.i)

pub put_record-requires-2 : goal.put_record-requires-2
put_record-requires-2 c =
    let a = c.args in (
      omega (arith, decimal_below_10000 a.i (omega arith), text_length 0x40 a.assembly.now a.i),
      omega arith,
      omega arith,
    )

pub put_byte-requires-2 : goal.put_byte-requires-2
put_byte-requires-2 c =
    let a = c.args in
    omega (
      arith,
      decimal_below_10000 a.i (omega arith),
      text_length 0x40 a.assembly.now a.i,
      text_length 0x50 a.machine.now a.i,
    )

-- The parts in a row
pub returns : goal.returns
unfolding line_at
returns c =
    prints_both c.put_decimal.ensures
    (prints_both c.put_byte.ensures
    (prints_both c.put_record.ensures
    (prints_both c.put_word.ensures (prints_both c.put_record-2.ensures c.put_byte-2.ensures))))
