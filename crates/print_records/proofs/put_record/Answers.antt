-- A record is its name and its operand (the law `text_by`).
use mir.Syntax.{w32}
use Rattle.std.proofs.Common.{arith, refl, ap, ◌∙◌}
use Rattle.record.specs.Bytes.{operation}
use Rattle.record.specs.Code.{operation_of}
use Rattle.word.proofs.Laws.{read_back}
use Rattle.print_ascii.proofs.Puts.{prints_is, prints_both}
use Rattle.print_records.specs.Lines.{operation_operand}
use Rattle.print_records.proofs.Texts.{name_length, text_by}
use Rattle.print_records.proofs.put_record.Goals as goal

pub put_operand-requires : goal.put_operand-requires
put_operand-requires c = omega (arith, name_length (operation_of c.of-operation.result), c.put_name.ensures)

pub put_number-requires : goal.put_number-requires
put_number-requires c = omega (arith, name_length (operation_of c.of-operation.result), c.put_name.ensures)

pub returns-in-Some : goal.returns-in-Some
returns-in-Some c =
    let a = c.args in
    let is = c.of-operation.ensures ∙ ap (operation a.first) c.byte_at.ensures in
    prints_is (prints_both c.put_name.ensures (rw c.in-Some.is c.put_operand.ensures))
    (text_by a.first a.code.now a.i c.of-operation.result _ is
    (read_back w32 c.operand_at-operand.type_inv c.operand_at-operand.ensures))

pub returns-in-None : goal.returns-in-None
unfolding operation_operand
returns-in-None c =
    let a = c.args in
    let is = c.of-operation.ensures ∙ ap (operation a.first) c.byte_at.ensures in
    prints_is (prints_both c.put_name.ensures c.put_number.ensures)
    (text_by a.first a.code.now a.i c.of-operation.result _ is
    (read_back w32 c.operand_at-operand.type_inv c.operand_at-operand.ensures)
    ∙ rw c.in-None.is refl)
