-- `test` makes the tests of going back in their order: each return is one of the laws of `Tests`.
use Rattle.std.proofs.Common.{sym}
use Rattle.compile_back.proofs.Tests.{tabled, not_whole, no_bytes, no_table, mismatched, no_room, accepts}
use Rattle.compile_back.proofs.test.Goals as goal

pub returns-then-not-is_whole : goal.returns-then-not-is_whole
returns-then-not-is_whole c = rw c.at.ensures
    (not_whole _ _ _ (sym c.if-not-is_whole.ensures))

pub returns-then-table-ne-TABLE_BYTES : goal.returns-then-table-ne-TABLE_BYTES
returns-then-table-ne-TABLE_BYTES c =
    rw c.at-then-table-ne-TABLE_BYTES.ensures
    (no_bytes _ _ _ (sym c.if-not-is_whole.ensures) c.if-table-ne-TABLE_BYTES.true)

pub returns-in_default : goal.returns-in_default
returns-in_default c =
    rw c.at-in_default.ensures
    (no_table _ _ _ (sym c.if-not-is_whole.ensures) c.if-table-ne-TABLE_BYTES.false c.in_default.ensures)

pub returns-in-Some-mismatch : goal.returns-in-Some-mismatch
returns-in-Some-mismatch c =
    rw c.at-in-Some-mismatch.ensures
    (mismatched _ _ _ (tabled (sym c.if-not-is_whole.ensures) c.if-table-ne-TABLE_BYTES.false c.in-Some.ensures)
    c.machine.ensures c.mismatch.ensures c.in-Some-mismatch.is)

pub returns-then-out-count : goal.returns-then-out-count
returns-then-out-count c =
    rw c.at-then-out-count.ensures
    (no_room _ _ _ (tabled (sym c.if-not-is_whole.ensures) c.if-table-ne-TABLE_BYTES.false c.in-Some.ensures)
    c.machine.ensures c.mismatch.ensures c.in_default-mismatch.is c.if-out-count.true)

pub returns : goal.returns
returns c =
    accepts _ _ _ (tabled (sym c.if-not-is_whole.ensures) c.if-table-ne-TABLE_BYTES.false c.in-Some.ensures)
    c.machine.ensures c.mismatch.ensures c.in_default-mismatch.is c.if-out-count.false
