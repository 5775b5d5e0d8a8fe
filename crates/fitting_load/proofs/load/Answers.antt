-- `load` is the call's definition: its tests, then zeros, then each named variable at its address.
use Rattle.std.proofs.lemmas.Result.{err_from_is_err_and}
use Rattle.base.proofs.Answers.{answers}
use Rattle.base.proofs.Settled.{settled, declined}
use Rattle.fitting.specs.Calls as Calls
use Rattle.fitting_load.proofs.Tests.{passed, fits, loads}
use Rattle.fitting_load.proofs.load.Goals as goal

pub returns-in_err-n : goal.returns-in_err-n
unfolding Calls.load
returns-in_err-n c =
    let e = err_from_is_err_and c.from_residual.result c.from_residual.ensures.1 in
    rw (e.1, e.2) (declined _ _ _ _ (answers c.test.ensures c.in_err-n.was))

pub to_memory-requires : goal.to_memory-requires
to_memory-requires c = fits (passed _ _ _ _ (answers c.test.ensures c.in_ok-n.was)) c.fill.ensures.len

pub returns : goal.returns
unfolding Calls.load
returns c =
    let e = answers c.test.ensures c.in_ok-n.was in
    settled _ _ _ _ e (loads (passed _ _ _ _ e) (c.fill.ensures.after (λ y e. e)) c.to_memory.ensures)
