-- Of the records from i on the addresses at their first sight are 1 to `seen`, for whichever records the code passed
-- with.
use Rattle.std.proofs.Common.{◌≤◌}
use Rattle.compile_table.specs.Sights.{Passed}
use Rattle.compile_table.proofs.Sights.{Seen}
use Rattle.compile_table.proofs.agrees.Given as goal

abbrev pub invariant-loop-i : goal.invariant-loop-i
invariant-loop-i l = (l.seen ≤ l.n) × ((x : Passed l.code l.count l.n) → Seen x l.i l.seen)
