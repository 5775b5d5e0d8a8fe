-- The call is `go_on` from a fresh machine.
use Rattle.machine.proofs.Calls.{from_fresh}
use Rattle.machine_run.proofs.run_machine.Goals as goal

pub returns : goal.returns
returns c =
    let s = c.args in
    from_fresh s.code.now s.memory.now s.depth s.cells s.budget c.fresh.ensures c.go_on.ensures
