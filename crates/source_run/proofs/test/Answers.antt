-- The reading's refusal stays, the store's length is wrong, or both are as they should be.
use Rattle.std.proofs.lemmas.Result.{err_from_is_err_and}
use Rattle.source_run.proofs.Whole.{tests_refused, tests_wrong_length, tests_passed}
use Rattle.source_run.proofs.test.Goals as goal

pub returns-in_err-sizes : goal.returns-in_err-sizes
returns-in_err-sizes c =
    let e = err_from_is_err_and c.from_residual.result c.from_residual.ensures.1 in
    rw (e.1, e.2) (tests_refused c.args.text.now c.args.store.now c.read.ensures c.in_err-sizes.was)

pub returns-then-store-ne-VARIABLES : goal.returns-then-store-ne-VARIABLES
returns-then-store-ne-VARIABLES c =
    rw c.at.ensures
    (tests_wrong_length c.args.text.now c.args.store.now c.read.ensures c.in_ok-sizes.was c.if-store-ne-VARIABLES.true)

pub returns : goal.returns
returns c = tests_passed c.args.text.now c.args.store.now c.read.ensures c.in_ok-sizes.was c.if-store-ne-VARIABLES.false
