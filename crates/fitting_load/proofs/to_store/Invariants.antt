-- `to_store` takes each named variable from its address: a sweep to the store that is read back.
use Rattle.std.proofs.Common.{pos}
use Rattle.base.proofs.Sweep.{Swept}
use Rattle.fitting.specs.Loading.{read_back}
use Rattle.fitting_load.proofs.to_store.Given as goal

abbrev pub invariant-loop-v : goal.invariant-loop-v
invariant-loop-v l = Swept (pos 0) l.initial.store (read_back l.table l.depth l.initial.store l.memory) l.store l.v
