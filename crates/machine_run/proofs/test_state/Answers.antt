-- The tests of a call from a state: those of the code first, then the state's.
use Rattle.std.proofs.Common.{sym, ◌∙◌, true, false}
use Rattle.std.proofs.lemmas.Result.{err_from_is_err_and}
use Rattle.machine.proofs.Calls.{still_refused, then_fifteen}
use Rattle.machine_run.proofs.test_state.Goals as goal

pub returns-in_err-last : goal.returns-in_err-last
returns-in_err-last c =
    let s = c.args in
    let e = err_from_is_err_and c.from_residual.result c.from_residual.ensures.1 in
    rw (e.1, e.2)
    (still_refused s.code.now s.memory.now s.depth s.cells s.state s.budget c.in_err-last.was c.test.ensures)

pub returns-then-not-state_fits : goal.returns-then-not-state_fits
returns-then-not-state_fits c =
    let s = c.args in
    rw c.at.ensures
    (then_fifteen s.code.now s.memory.now s.depth s.cells s.state s.budget false
    (sym c.state_fits.ensures ∙ c.if-not-state_fits.true) c.in_ok-last.was c.test.ensures)

pub returns : goal.returns
returns c =
    let s = c.args in
    then_fifteen s.code.now s.memory.now s.depth s.cells s.state s.budget true
    (sym c.state_fits.ensures ∙ c.if-not-state_fits.false) c.in_ok-last.was c.test.ensures
