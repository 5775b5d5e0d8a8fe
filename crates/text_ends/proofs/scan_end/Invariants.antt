-- `scan_end` passes over parts. The invariant: the parts due reach the end of the part at the start (Passing). The
-- measure is what is left of the text.
use Rattle.std.proofs.Common.{◌-◌, length}
use Rattle.text_ends.proofs.Passing.{Passing}
use Rattle.text_ends.proofs.scan_end.Given as goal

abbrev pub invariant-loop-due : goal.invariant-loop-due
invariant-loop-due l = Passing l.text l.start l.at l.due

abbrev pub decreases-loop-due : goal.decreases-loop-due
decreases-loop-due l = length l.text - l.at
