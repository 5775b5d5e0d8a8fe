-- `test` makes the calls' tests in their order: each return is one of the laws of `Tests`.
use Rattle.std.proofs.Common.{arith}
use Rattle.std.proofs.lemmas.Result.{err_from_is_err_and}
use Rattle.base.proofs.Answers.{answers}
use Rattle.fitting.proofs.Calls.{tabled}
use Rattle.fitting_load.proofs.Tests.{no_names, too_deep, no_room, accepts}
use Rattle.fitting_load.proofs.test.Goals as goal

pub returns-in_err-n : goal.returns-in_err-n
returns-in_err-n c =
    let e = err_from_is_err_and c.from_residual.result c.from_residual.ensures.1 in
    rw (e.1, e.2) (no_names _ _ _ _ (answers c.test_table.ensures c.in_err-n.was))

pub returns-then-depth : goal.returns-then-depth
returns-then-depth c =
    rw c.at.ensures (too_deep _ _ _ _ (answers c.test_table.ensures c.in_ok-n.was) c.if-depth.true)

-- n is at most 64
pub overflow_add-depth-2 : goal.overflow_add-depth-2
overflow_add-depth-2 c = omega (arith, tabled _ _ (answers c.test_table.ensures c.in_ok-n.was))

pub returns-then-memory-depth : goal.returns-then-memory-depth
returns-then-memory-depth c =
    rw c.at-then-memory-depth.ensures
    (no_room _ _ _ _ (answers c.test_table.ensures c.in_ok-n.was) c.if-depth.false c.if-memory-depth.true)

pub returns : goal.returns
returns c =
    accepts _ _ _ _ (answers c.test_table.ensures c.in_ok-n.was) c.if-depth.false c.if-memory-depth.false
