use Prim.Native.Nat.{◌-◌}
use Rattle.machine_step.proofs.Looping.{Loops}
use Rattle.machine_step.proofs.Machine.finish.Given as goal

abbrev pub invariant-loop-machine : goal.invariant-loop-machine
invariant-loop-machine g l =
    Loops
    (record {
      lent = g.L.Layout.lent l.limits.layout;
      last = l.limits.last;
      code = l.code;
      store = l.fn.store;
      stack = l.fn.stack;
      limit = l.limit;
      first = l.fn.self;
    })
    l.store l.stack l.machine

abbrev pub decreases-loop-machine : goal.decreases-loop-machine
decreases-loop-machine g l = l.limit - l.machine.count
