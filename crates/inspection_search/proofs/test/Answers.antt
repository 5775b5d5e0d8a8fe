-- The tests are those of machine code, over whether both limits hold.
use Rattle.std.proofs.Common.{length, ap, ◌∙◌}
use Rattle.base.specs.Answers.{gives, and_then}
use Rattle.record_test.specs.Tests.{code_tests}
use Rattle.inspection.specs.Calls.{inspect_tests}
use Rattle.inspection_search.proofs.test.Goals as goal

pub returns : goal.returns
unfolding inspect_tests
returns c =
    let a = c.args in
    c.test_machine.ensures
    ∙ ap (λ fits. and_then (code_tests a.code.now a.cells fits) (λ P. gives (length P))) c.limits_hold.ensures
