-- A constant's operand has one byte or four, by its first byte.
use Rattle.text_shape.proofs.Constants.{one_byte_width, four_byte_width}
use Rattle.text_shape.proofs.constant_width.Goals as goal

pub returns-then-byte-eq-ONE_BYTE_CONSTANT : goal.returns-then-byte-eq-ONE_BYTE_CONSTANT
returns-then-byte-eq-ONE_BYTE_CONSTANT c = rw (one_byte_width c.if-byte-eq-ONE_BYTE_CONSTANT.true)

pub returns-else-byte-eq-ONE_BYTE_CONSTANT : goal.returns-else-byte-eq-ONE_BYTE_CONSTANT
returns-else-byte-eq-ONE_BYTE_CONSTANT c = rw (four_byte_width c.if-byte-eq-ONE_BYTE_CONSTANT.false)
