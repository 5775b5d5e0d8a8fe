-- `test_table` makes the tests of a table and a store in their order: each return is one of the laws of `Tests`.
use Rattle.fitting_load.proofs.Tests.{no_bytes, no_cells, named}
use Rattle.fitting_load.proofs.test_table.Goals as goal

pub returns-then-table-ne-TABLE_BYTES : goal.returns-then-table-ne-TABLE_BYTES
returns-then-table-ne-TABLE_BYTES c = rw c.at.ensures (no_bytes _ _ c.if-table-ne-TABLE_BYTES.true)

pub returns-then-store-ne-VARIABLES : goal.returns-then-store-ne-VARIABLES
returns-then-store-ne-VARIABLES c =
    rw c.at-then-store-ne-VARIABLES.ensures
    (no_cells _ _ c.if-table-ne-TABLE_BYTES.false c.if-store-ne-VARIABLES.true)

pub returns : goal.returns
returns c =
    named _ _ c.if-table-ne-TABLE_BYTES.false c.if-store-ne-VARIABLES.false c.names.ensures c.at-2.ensures
    c.ok_or.ensures.value
