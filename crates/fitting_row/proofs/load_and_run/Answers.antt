-- Loading declined, or the row went on from the loaded memory.
use Rattle.std.proofs.Common.{ap}
use Rattle.std.proofs.lemmas.Result.{err_from_is_err_and}
use Rattle.base.specs.Code.{count_answer}
use Rattle.base.proofs.Rows.{ends_there, goes_on}
use Rattle.fitting.specs.Rows.{buffers}
use Rattle.fitting_row.proofs.load_and_run.Goals as goal

pub returns-in_err-load : goal.returns-in_err-load
returns-in_err-load c =
    let a = c.args in
    let e = err_from_is_err_and c.from_residual.result c.from_residual.ensures.1 in
    rw (e.1, e.2)
    (ends_there (λ m. buffers a.code.now a.table.now m a.store.now) _ c.load.ensures
    (ap count_answer c.in_err-load.was))

pub returns : goal.returns
returns c =
    let a = c.args in
    goes_on (λ m. buffers a.code.now a.table.now m a.store.now) _ c.load.ensures (ap count_answer c.in_ok-load.was)
    c.run_and_read_back.ensures
