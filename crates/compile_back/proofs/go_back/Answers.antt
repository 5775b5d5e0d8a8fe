-- `go_back` is the call's definition: its tests, then the inverse of the table, a copy of the code, and the records
-- renamed in it.
use Rattle.std.proofs.Common.{arith}
use Rattle.std.proofs.lemmas.Result.{err_from_is_err_and}
use Rattle.base.proofs.Settled.{declined}
use Rattle.compile.specs.Calls as Calls
use Rattle.compile_back.proofs.GoingBack.{made, back_renames, back_holds, gone_back}
use Rattle.compile_back.proofs.Tests.{tests_refuse, passed}
use Rattle.compile_back.proofs.go_back.Goals as goal

pub invert-requires-clause-table_len : goal.invert-requires-clause-table_len
invert-requires-clause-table_len c = omega (arith, (passed _ _ _ c.test.ensures c.in_ok-n.was).bytes)

pub invert-requires-clause-entries_inside : goal.invert-requires-clause-entries_inside
invert-requires-clause-entries_inside c = (passed _ _ _ c.test.ensures c.in_ok-n.was).entries

pub copy_over-requires : goal.copy_over-requires
copy_over-requires c = (passed _ _ _ c.test.ensures c.in_ok-n.was).room

pub rename_records-requires-clause-renames : goal.rename_records-requires-clause-renames
rename_records-requires-clause-renames c =
    rw (c.machine.ensures, c.assembly.ensures)
    (back_renames
    (made (passed _ _ _ c.test.ensures c.in_ok-n.was) c.type_inv.code c.invert.ensures c.copy_over.ensures.over))

pub rename_records-requires-clause-holds : goal.rename_records-requires-clause-holds
rename_records-requires-clause-holds c =
    rw c.machine.ensures
    (back_holds
    (made (passed _ _ _ c.test.ensures c.in_ok-n.was) c.type_inv.code c.invert.ensures c.copy_over.ensures.over))

pub returns-in_err-n : goal.returns-in_err-n
unfolding Calls.go_back
returns-in_err-n c =
    let e = err_from_is_err_and c.from_residual.result c.from_residual.ensures.1 in
    rw (e.1, e.2)
    (declined _ _ _ _ (tests_refuse _ _ _ c.test.ensures c.in_err-n.was))

pub returns : goal.returns
returns c =
    gone_back
    (made (passed _ _ _ c.test.ensures c.in_ok-n.was) c.type_inv.code c.invert.ensures c.copy_over.ensures.over)
    (rw (c.machine.ensures, c.assembly.ensures) at c.rename_records.ensures)
