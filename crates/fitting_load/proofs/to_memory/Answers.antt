-- A variable's value goes to its address, a cell of the memory, and past an entry of 0 the memory stays.
use Rattle.std.proofs.Common.{arith, rules}
use Rattle.fitting_load.proofs.Cells.{filled_start, filled_past, filled_put, filled_all}
use Rattle.fitting_load.proofs.to_memory.Goals as goal

pub loop-v-init : goal.loop-v-init
loop-v-init c = filled_start c.args.table.now _ _ _ c.requires.entries

pub loop-v-preserved-in-Some : goal.loop-v-preserved-in-Some
loop-v-preserved-in-Some c =
    let a = c.in-Some.ensures in
    filled_put c.loop-v.invariant c.loop-v-test.true c.requires.entries c.requires.variables
    a.0 (search rules) (λ none. omega (arith, a.1))

pub loop-v-preserved : goal.loop-v-preserved
loop-v-preserved c =
    filled_past c.loop-v.invariant c.loop-v-test.true c.requires.entries c.requires.variables c.in_default.ensures

pub returns : goal.returns
returns c = filled_all c.loop-v.invariant c.loop-v-test.false
