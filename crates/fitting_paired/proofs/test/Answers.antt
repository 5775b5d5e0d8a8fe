-- `test` makes the call's tests in their order: each return is one of the laws of `Tests`.
use Rattle.std.proofs.Common.{sym, ◌∙◌}
use Rattle.std.proofs.lemmas.Result.{err_from_is_err_and}
use Rattle.base.proofs.Answers.{answers}
use Rattle.fitting.proofs.Calls.{names_few}
use Rattle.fitting_paired.proofs.Tests.{not_whole, no_names, with_names}
use Rattle.fitting_paired.proofs.test.Goals as goal

-- 9
pub returns-then-not-is_whole : goal.returns-then-not-is_whole
returns-then-not-is_whole c =
    rw c.at.ensures (not_whole _ _ _ _ (sym c.is_whole.ensures ∙ c.if-not-is_whole.true))

-- 8, 12
pub returns-in_err-n : goal.returns-in_err-n
returns-in_err-n c =
    let e = err_from_is_err_and c.from_residual.result c.from_residual.ensures.1 in
    rw (e.1, e.2)
    (no_names _ _ _ _ (sym c.is_whole.ensures ∙ c.if-not-is_whole.false)
    (answers c.test_table.ensures c.in_err-n.was))

pub test_pair-requires : goal.test_pair-requires
test_pair-requires c = (
  sym c.is_whole.ensures ∙ c.if-not-is_whole.false,
  names_few _ _ (answers c.test_table.ensures c.in_ok-n.was),
)

-- 10, 14, 11, or the sizes
pub returns : goal.returns
returns c =
    with_names _ _ _ _ (sym c.is_whole.ensures ∙ c.if-not-is_whole.false)
    (answers c.test_table.ensures c.in_ok-n.was) c.test_pair.ensures
