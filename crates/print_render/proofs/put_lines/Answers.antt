-- The lines are printed one after the other: of the 200,000 bytes the first takes at most 53, each record at most 48,
-- the run's line 21 and the values 960.
use Rattle.std.proofs.Common.{◌≤◌, length, arith}
use Rattle.base.specs.Code.{end_of}
use Rattle.record.specs.Bytes.{assembly_kind}
use Rattle.record.proofs.Tested.{records_length}
use Rattle.print_ascii.proofs.Puts.{prints_both}
use Rattle.print.specs.Printing.{record_lines}
use Rattle.print_lines.proofs.Lengths.{first_line_length, record_lines_length, run_line_length}
use Rattle.print_render.specs.Lines.{SomeCodes}
use Rattle.print_render.proofs.put_lines.Goals as goal

-- The record lines' length
short : {assembly machine : _} (count : _) (some : SomeCodes assembly machine count) → count ≤ 4096
    → length (record_lines 0 some.P some.Q) ≤ 196608
short {assembly} count some few =
    let many = records_length assembly_kind assembly 0 count some.codes.of_assembly in
    omega (arith, record_lines_length 0 some.P some.Q (omega (arith, many, few)), many, few)

pub put_record_lines-requires-clause-room : goal.put_record_lines-requires-clause-room
put_record_lines-requires-clause-room c = (omega (arith, first_line_length c.args.sizes), omega arith)

pub put_run_line-requires : goal.put_run_line-requires
put_run_line-requires c =
    let some = c.requires.some_codes in
    let put = c.put_record_lines.ensures some.n some.P some.Q some.codes in
    omega (arith, first_line_length c.args.sizes, short c.args.sizes.records some (omega arith), put.puts, put.long)

pub put_value_lines-requires-clause-room : goal.put_value_lines-requires-clause-room
put_value_lines-requires-clause-room c =
    let some = c.requires.some_codes in
    let put = c.put_record_lines.ensures some.n some.P some.Q some.codes in
    omega (
      arith,
      first_line_length c.args.sizes,
      short c.args.sizes.records some (omega arith),
      run_line_length (end_of c.args.run.end) c.args.run.count,
      put.puts,
      put.long,
    )

-- The parts in a row
pub returns : goal.returns
returns c n P Q codes =
    prints_both c.put_first_line.ensures
    (prints_both (c.put_record_lines.ensures n P Q codes)
    (prints_both c.put_run_line.ensures c.put_value_lines.ensures))
