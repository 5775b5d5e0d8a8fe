-- The lines are printed one by one: those of the first i positions are printed.
use Rattle.print_ascii.specs.Puts.{Prints}
use Rattle.print_ascii.proofs.Rows.{rows}
use Rattle.print_records.specs.Lines.{line_at}
use Rattle.print_records.proofs.put_record_lines.Given as goal

abbrev pub invariant-loop-i : goal.invariant-loop-i
invariant-loop-i l = Prints (rows (line_at l.assembly l.machine) 0 l.i) l.initial.page l.page
