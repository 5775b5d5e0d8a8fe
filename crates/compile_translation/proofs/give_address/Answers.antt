-- `give_address` gives the next address where the variable's entry is 0.
use Rattle.std.proofs.Common.{get_or, arith, eq-eqb}
use borrow.Author.Tests.{ne_eqb}
use Rattle.compile_translation.specs.Steps.{addressed}
use Rattle.compile_translation.proofs.give_address.Goals as goal

pub returns-then-table-v-eq0 : goal.returns-then-table-v-eq0
unfolding addressed
returns-then-table-v-eq0 c =
    let entry = get_or c.args.table.now c.args.variable.0 0 in
    simp (eq-eqb entry 0 (omega (arith, c.if-table-v-eq0.true)))

pub returns : goal.returns
unfolding addressed
returns c =
    let entry = get_or c.args.table.now c.args.variable.0 0 in
    simp (ne_eqb entry 0 (λ none. omega (arith, c.if-table-v-eq0.false)))
