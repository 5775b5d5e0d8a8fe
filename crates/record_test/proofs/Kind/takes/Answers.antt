-- LOAD and STORE test the operand's bits for a name, ADD the operand for 0, the others take any. One law of ByNumbers
-- for each answer.
use Rattle.std.proofs.Common.{sym, ◌∙◌}
use mir.Facts.{to_z-of_z}
use Rattle.word.specs.Numbers.{bits_of}
use Rattle.record_test.specs.Code.{kind_of}
use Rattle.record_test.proofs.ByNumbers.{name_bits, zero_bits, named_taken, add_taken, rest_taken}
use Rattle.record_test.proofs.Kind.takes.Goals as goal

pub returns-in-Load : goal.returns-in-Load
returns-in-Load c =
    let a = c.args in
    cc (
      to_z-of_z c.ranges.operand,
      name_bits a.self a.operand c.ranges.operand,
      named_taken (kind_of a.self) a.operand a.operation c.in-Load.is,
    )

pub returns-in-Add : goal.returns-in-Add
unfolding bits_of
returns-in-Add c =
    let a = c.args in
    sym (add_taken (kind_of a.self) a.operand a.operation c.in-Add.is ∙ zero_bits a.operand c.ranges.operand)

pub returns-in_default : goal.returns-in_default
returns-in_default c =
    let a = c.args in
    let not = c.in_default in
    sym (rest_taken (kind_of a.self) a.operand a.operation not.not-Load not.not-Add not.not-Store)
