-- The entries from v on are inverted.
use Rattle.compile_back.proofs.Finding.{Inverted}
use Rattle.compile_back.proofs.invert.Given as goal

abbrev pub invariant-loop-v : goal.invariant-loop-v
invariant-loop-v l = Inverted l.table l.initial.names l.v l.names
