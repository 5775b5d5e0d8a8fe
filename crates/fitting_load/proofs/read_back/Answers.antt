-- `read_back` is the call's definition: its tests, then each named variable from its address.
use Rattle.std.proofs.Common.{refl}
use Rattle.std.proofs.lemmas.Result.{err_from_is_err_and}
use Rattle.base.proofs.Answers.{answers}
use Rattle.base.proofs.Settled.{settled, declined}
use Rattle.fitting.specs.Calls.{read_back_call}
use Rattle.fitting_load.proofs.Tests.{passed, fits}
use Rattle.fitting_load.proofs.read_back.Goals as goal

pub returns-in_err-n : goal.returns-in_err-n
unfolding read_back_call
returns-in_err-n c =
    let e = err_from_is_err_and c.from_residual.result c.from_residual.ensures.1 in
    rw (e.1, e.2) (declined _ _ _ _ (answers c.test.ensures c.in_err-n.was))

pub to_store-requires : goal.to_store-requires
to_store-requires c = fits (passed _ _ _ _ (answers c.test.ensures c.in_ok-n.was)) refl

pub returns : goal.returns
unfolding read_back_call
returns c = settled _ _ _ _ (answers c.test.ensures c.in_ok-n.was) c.to_store.ensures
