-- The tests are those of machine code, over whether the memory fits.
use Rattle.std.proofs.Common.{length, ap, ◌∙◌}
use Rattle.base.specs.Answers.{gives, and_then}
use Rattle.record_test.specs.Tests.{code_tests}
use Rattle.machine.specs.Calls.{machine_tests}
use Rattle.machine_run.proofs.test.Goals as goal

pub returns : goal.returns
unfolding machine_tests
returns c =
    c.test_machine.ensures
    ∙ ap (λ fits. and_then (code_tests c.args.code.now c.args.cells fits) (λ P. gives (length P)))
    c.memory_fits.ensures
