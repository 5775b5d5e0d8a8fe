-- The row ends where a call declined, and else goes on with what it gave and left.
use Rattle.std.proofs.Common.{refl, sym, ap, ◌∙◌}
use Rattle.std.proofs.lemmas.Result.{err_from_is_err_and}
use Rattle.base.specs.Acts.{give}
use Rattle.base.specs.Answers.{gives, and_then}
use Rattle.base.specs.Code.{count_answer}
use Rattle.base.specs.Rows.{answered}
use Rattle.base.proofs.Rows.{ends_there, goes_on}
use Rattle.machine.specs.Calls.{without_state, answer_without_state}
use Rattle.machine.specs.Code.{piece_answer}
use Rattle.fitting.specs.Rows.{buffers}
use Rattle.fitting_row.proofs.run_and_read_back.Goals as goal

-- the run declined
pub returns-in_err-piece : goal.returns-in_err-piece
unfolding and_then
returns-in_err-piece c =
    let a = c.args in
    let e = err_from_is_err_and c.from_residual.result c.from_residual.ensures.1 in
    rw (e.1, e.2)
    (ends_there (λ m. buffers a.code.now a.table.now m a.store.now) _ (ap without_state c.run_machine.ensures)
    (ap (λ r. answer_without_state (piece_answer r)) c.in_err-piece.was))

-- it ended, and reading back declined
pub returns-in_err-read_back : goal.returns-in_err-read_back
unfolding and_then
returns-in_err-read_back c =
    let a = c.args in
    let r = c.from_residual-in_err-read_back in
    let e = err_from_is_err_and r.result r.ensures.1 in
    rw (e.1, e.2)
    (goes_on (λ m. buffers a.code.now a.table.now m a.store.now) _ (ap without_state c.run_machine.ensures)
    (ap (λ r. answer_without_state (piece_answer r)) c.in_ok-piece.was)
    (ends_there (buffers a.code.now a.table.now _) _ c.read_back.ensures (ap count_answer c.in_err-read_back.was)))

-- or gave
pub returns : goal.returns
unfolding and_then give answered
returns c =
    let a = c.args in
    goes_on (λ m. buffers a.code.now a.table.now m a.store.now) _ (ap without_state c.run_machine.ensures)
    (ap (λ r. answer_without_state (piece_answer r)) c.in_ok-piece.was ∙ ap gives (sym c.without_state.ensures))
    (goes_on (buffers a.code.now a.table.now _) _ c.read_back.ensures (ap count_answer c.in_ok-read_back.was) refl)
