-- The entries before the one that is looked at are seen.
use Rattle.compile_table.proofs.Marking.{Seen}
use Rattle.compile_table.proofs.mark_all.Given as goal

abbrev pub invariant-loop-entry : goal.invariant-loop-entry
invariant-loop-entry l = Seen l.table l.word l.count l.entry-index
