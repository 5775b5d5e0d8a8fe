-- ADD's operand is not printed, every other is.
use mir.Facts.{to_z-of_z}
use Rattle.std.proofs.Common.{arith, refl}
use Rattle.print_ascii.proofs.Puts.{prints_is, prints_none}
use Rattle.print_records.specs.Lines.{operation_operand}
use Rattle.print_records.proofs.Texts.{operand_shown}
use Rattle.print_records.proofs.put_operand.Goals as goal

pub returns-in-Add : goal.returns-in-Add
unfolding operation_operand
returns-in-Add c = prints_is (prints_none (omega arith)) (rw c.in-Add.is refl)

pub returns-in_default : goal.returns-in_default
returns-in_default c =
    let a = c.args in
    prints_is (rw (to_z-of_z c.ranges.operand) at c.put_number.ensures)
    (operand_shown a.operation a.operand c.in_default.not-Add)
