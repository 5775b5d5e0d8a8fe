-- A byte stands for what its number above the first stands for: the laws `at_number` and `past_all`.
use Rattle.std.proofs.Common.{arith, ap, ◌∙◌}
use Rattle.record.specs.Bytes.{operation}
use Rattle.record.specs.Code.{operation_of}
use Rattle.record.proofs.Reading.{at_number, past_all}
use Rattle.record.proofs.Operation.of.Goals as goal

pub returns-in_err-checked_sub : goal.returns-in_err-checked_sub
returns-in_err-checked_sub c =
    ap operation_of c.from_residual.ensures
    ∙ past_all c.args.loadi c.args.byte (λ h. absurd (c.in_err-checked_sub.ensures h))

pub returns-in-0 : goal.returns-in-0
unfolding operation
returns-in-0 c = at_number c.args.loadi c.args.byte 0 c.in_ok-checked_sub.ensures c.in-0.is

pub returns-in-1 : goal.returns-in-1
unfolding operation
returns-in-1 c = at_number c.args.loadi c.args.byte 1 c.in_ok-checked_sub.ensures c.in-1.is

pub returns-in-2 : goal.returns-in-2
unfolding operation
returns-in-2 c = at_number c.args.loadi c.args.byte 2 c.in_ok-checked_sub.ensures c.in-2.is

pub returns-in-3 : goal.returns-in-3
unfolding operation
returns-in-3 c = at_number c.args.loadi c.args.byte 3 c.in_ok-checked_sub.ensures c.in-3.is

pub returns-in-4 : goal.returns-in-4
unfolding operation
returns-in-4 c = at_number c.args.loadi c.args.byte 4 c.in_ok-checked_sub.ensures c.in-4.is

pub returns-in-5 : goal.returns-in-5
unfolding operation
returns-in-5 c = at_number c.args.loadi c.args.byte 5 c.in_ok-checked_sub.ensures c.in-5.is

pub returns-in-6 : goal.returns-in-6
unfolding operation
returns-in-6 c = at_number c.args.loadi c.args.byte 6 c.in_ok-checked_sub.ensures c.in-6.is

pub returns-in_default : goal.returns-in_default
returns-in_default c = past_all c.args.loadi c.args.byte (λ h. omega (arith, c.in_ok-checked_sub.ensures.1))
