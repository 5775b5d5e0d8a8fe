-- The shape of a text: the bytes of a constant.
use Rattle.std.specs.Prelude.{ℕ, ◌+◌, Bool, ◌||◌, List, eqb, get_or, if◌then◌else◌}
use Rattle.text.specs.Syntax.{Width, four_bytes, one_byte, bytes_in}
use Rattle.text.specs.Reading.{operand_number}
use Rattle.text_shape.specs.declared.Constant.{Constant}

-- Does a byte begin a constant?
abbrev pub begins_constant : ℕ → Bool
begins_constant b = eqb b 0x10 || eqb b 0x13

-- A constant's width, by its first byte: "10 and four bytes"; "13 with one signed byte as its operand"
unfoldable pub width_of : ℕ → Width
width_of b = if eqb b 0x13 then one_byte else four_bytes

-- the bytes of its operand
abbrev pub constant_width : ℕ → ℕ
constant_width b = bytes_in (width_of b)

-- The constant whose first byte stands at a position
abbrev pub constant_at : List ℕ → ℕ → Constant
constant_at text i = record {
  value = operand_number (width_of (get_or text i 0)) text (i + 1);
  width = constant_width (get_or text i 0);
}
