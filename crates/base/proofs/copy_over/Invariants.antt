-- `copy_over` writes the items one by one. The invariant: up to the index they are written, from there on the buffer is
-- as it was.
use Rattle.std.proofs.Common.{◌≡◌, take, drop}
use Rattle.base.proofs.copy_over.Given as goal

abbrev pub invariant-loop-i : goal.invariant-loop-i
invariant-loop-i g l = (take l.i l.out ≡ take l.i l.items) × (drop l.i l.out ≡ drop l.i l.initial.out)
