-- The call: what the tests refuse, the call refuses; where they give a number of records, it runs these from the state.
use Rattle.std.proofs.Common.{refl, sym, ap, ◌∙◌, rules}
use Rattle.std.proofs.lemmas.Result.{err_from_is_err_and}
use Rattle.base.specs.Code.{count_answer}
use Rattle.machine.specs.Calls.{state_tests}
use Rattle.machine.proofs.Calls.{refused_by, state_declines, state_tested}
use Rattle.machine_run.proofs.go_on.Goals as goal

pub returns-in_err-last : goal.returns-in_err-last
returns-in_err-last c =
    let s = c.args in
    let e = err_from_is_err_and c.from_residual.result c.from_residual.ensures.1 in
    rw (e.1, e.2)
    (state_declines s.code.now s.memory.now s.depth s.cells s.state s.budget
    (refused_by (state_tests s.code.now s.memory.now s.depth s.cells s.state s.budget) c.in_err-last.was
    c.test_state.ensures))

-- the limit is within 32 bits
pub overflow_add-limit : goal.overflow_add-limit
overflow_add-limit c =
    let s = c.args in
    let f = state_tested s.code.now s.memory.now s.depth s.cells s.state s.budget
    (sym c.test_state.ensures ∙ ap count_answer c.in_ok-last.was) in
    let room = f.state_is.room in
    let small = c.ranges.budget.fits in
    search rules

pub run_from-requires : goal.run_from-requires
run_from-requires c =
    (c.args.cells, c.args.budget, (sym c.test_state.ensures ∙ ap count_answer c.in_ok-last.was, refl))

pub returns : goal.returns
returns c =
    c.run_from.ensures c.args.cells c.args.budget (sym c.test_state.ensures ∙ ap count_answer c.in_ok-last.was, refl)
