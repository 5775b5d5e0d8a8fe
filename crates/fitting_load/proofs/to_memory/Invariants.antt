-- `to_memory` puts each named variable at its address, from the last back to the first, as the definition recurs.
use Rattle.fitting_load.proofs.Cells.{Filled}
use Rattle.fitting_load.proofs.to_memory.Given as goal

abbrev pub invariant-loop-v : goal.invariant-loop-v
invariant-loop-v l = Filled l.table l.store l.depth l.initial.memory l.memory l.v
