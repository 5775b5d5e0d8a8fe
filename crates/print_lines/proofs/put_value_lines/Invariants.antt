-- The lines are printed one by one: those of the variables below v are printed.
use Rattle.print_ascii.specs.Puts.{Prints}
use Rattle.print_ascii.proofs.Rows.{rows}
use Rattle.print_lines.proofs.Values.{value_at}
use Rattle.print_lines.proofs.put_value_lines.Given as goal

abbrev pub invariant-loop-v : goal.invariant-loop-v
invariant-loop-v l = Prints (rows (value_at l.table l.store) 0 l.v) l.initial.page l.page
