-- The lines are printed one by one; each takes at most 48 bytes, so the next has room. That these lines are the two
-- codes' is the law `codes_rows`.
use Rattle.std.proofs.Common.{◌≡◌, ap, ◌∙◌, arith}
use Rattle.print_ascii.proofs.Puts.{prints_is, prints_none}
use Rattle.print_ascii.proofs.Rows.{rows, rows_next, rows_length}
use Rattle.print_records.specs.Lines.{line_at}
use Rattle.print_records.proofs.Texts.{line_length}
use Rattle.print_records.proofs.Records.{codes_rows}
use Rattle.print_records.proofs.put_record_lines.Goals as goal

pub loop-i-init : goal.loop-i-init
unfolding rows
loop-i-init c = prints_none (omega arith)

-- The next line has room.
pub put_record_line-requires-clause-room : goal.put_record_line-requires-clause-room
put_record_line-requires-clause-room c =
    let line = line_at c.args.assembly.now c.args.machine.now in
    let used = rows_length line 48 10000 (line_length _ _) 0 c.loop-i.i (omega arith) in
    (omega (arith, used), omega arith)

pub loop-i-preserved : goal.loop-i-preserved
loop-i-preserved c = rows_next _ c.loop-i.i c.loop-i.invariant c.put_record_line.ensures

pub returns : goal.returns
returns c n P Q codes =
    let all : c.args.count ≡ c.loop-i.i = omega arith in
    prints_is c.loop-i.invariant (codes_rows _ _ n codes ∙ ap (rows _ 0) all)
