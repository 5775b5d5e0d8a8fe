-- The texts of profiles A to K, and what reading gives for them (document 01, "Profiles to hold it to"); texts with
-- one-byte constants (document 02, W1).
use Rattle.std.specs.Prelude.{◌≡◌, ℕ, List, [], ◌∷◌, ◌++◌, map, negsuc, replicate}
use Rattle.base.specs.Answers.{Answer, gives, refused}
use Rattle.text.specs.Sizes.{sized}
use Rattle.text.specs.declared.Sizes.{Sizes}
use Rattle.text.specs.Syntax.{one_byte, Constant, ◌:=◌}
use Rattle.text.specs.Reading.{read_text}
use Rattle.text.specs.Calls.{read_call}

-- 2147483647 + 1 < 0
abbrev pub overflow : List ℕ
overflow = 0x23 ∷ 0x12 ∷ 0x10 ∷ 0xff ∷ 0xff ∷ 0xff ∷ 0x7f ∷ 0x10 ∷ 1 ∷ 0 ∷ 0 ∷ 0 ∷ 0x10 ∷ 0 ∷ 0 ∷ 0 ∷ 0 ∷ []

-- SKIP
unfoldable pub A_text : List ℕ
A_text = 0x00 ∷ []

-- x0 := x1 + 5
unfoldable pub B_text : List ℕ
B_text = 0x01 ∷ 0 ∷ 0x12 ∷ 0x11 ∷ 1 ∷ 0x10 ∷ 5 ∷ 0 ∷ 0 ∷ 0 ∷ []

-- WHILE x0 < 3 DO x0 := x0 + 1
unfoldable pub C_text : List ℕ
C_text =
    0x04 ∷ 0x23 ∷ 0x11 ∷ 0 ∷ 0x10 ∷ 3 ∷ 0 ∷ 0 ∷ 0
    ∷ 0x01 ∷ 0 ∷ 0x12 ∷ 0x11 ∷ 0 ∷ 0x10 ∷ 1 ∷ 0 ∷ 0 ∷ 0 ∷ []

-- IF true SKIP ELSE x0 := 1
unfoldable pub D_text : List ℕ
D_text = 0x03 ∷ 0x20 ∷ 1 ∷ 0x00 ∷ 0x01 ∷ 0 ∷ 0x10 ∷ 1 ∷ 0 ∷ 0 ∷ 0 ∷ []

-- IF false SKIP ELSE x0 := 1
unfoldable pub E_text : List ℕ
E_text = 0x03 ∷ 0x20 ∷ 0 ∷ 0x00 ∷ 0x01 ∷ 0 ∷ 0x10 ∷ 1 ∷ 0 ∷ 0 ∷ 0 ∷ []

-- IF false And (2147483647 + 1 < 0), both branches SKIP
unfoldable pub F_text : List ℕ
F_text = (0x03 ∷ 0x22 ∷ 0x20 ∷ 0 ∷ []) ++ (overflow ++ (0x00 ∷ 0x00 ∷ []))

-- F with And's sides exchanged
unfoldable pub G_text : List ℕ
G_text = (0x03 ∷ 0x22 ∷ []) ++ (overflow ++ (0x20 ∷ 0 ∷ 0x00 ∷ 0x00 ∷ []))

-- x0 := −2147483648 + 2147483647
unfoldable pub H_text : List ℕ
H_text = 0x01 ∷ 0 ∷ 0x12 ∷ 0x10 ∷ 0 ∷ 0 ∷ 0 ∷ 0x80 ∷ 0x10 ∷ 0xff ∷ 0xff ∷ 0xff ∷ 0x7f ∷ []

-- x0 := x1; x2 := x1
unfoldable pub I_text : List ℕ
I_text = 0x02 ∷ 0x01 ∷ 0 ∷ 0x11 ∷ 1 ∷ 0x01 ∷ 2 ∷ 0x11 ∷ 1 ∷ []

-- WHILE true SKIP
unfoldable pub J_text : List ℕ
J_text = 0x04 ∷ 0x20 ∷ 1 ∷ 0x00 ∷ []

-- x0 := (1 + 1) + 1
unfoldable pub K_text : List ℕ
K_text = 0x01 ∷ 0 ∷ 0x12 ∷ 0x12 ∷ 0x10 ∷ 1 ∷ 0 ∷ 0 ∷ 0 ∷ 0x10 ∷ 1 ∷ 0 ∷ 0 ∷ 0 ∷ 0x10 ∷ 1 ∷ 0 ∷ 0 ∷ 0 ∷ []

unfoldable pub texts : List (List ℕ)
texts = A_text ∷ B_text ∷ C_text ∷ D_text ∷ E_text ∷ F_text ∷ G_text ∷ H_text ∷ I_text ∷ J_text ∷ K_text ∷ []

-- "An accepted text's reading gives its record count, D and n"
abbrev pub read : ℕ → ℕ → ℕ → Answer Sizes
read r d n = gives (sized r d n)

-- B: "4 records, D 2"; K: "6 records, D 2", not the larger side + 1.
abbrev pub Readings : Type 0
Readings = map read_call texts ≡
    read 0 0 0 ∷ read 4 2 2 ∷ read 8 2 1 ∷ read 3 1 1 ∷ read 4 1 1 ∷ read 7 2 0 ∷ read 7 2 0 ∷ read 4 2 1
    ∷ read 4 1 3 ∷ read 1 0 0 ∷ read 6 2 1 ∷ []

-- The example of refusal 3: x64 := x0
abbrev pub x64_text : List ℕ
x64_text = 0x01 ∷ 0x40 ∷ 0x11 ∷ 0x00 ∷ []

-- The examples of refusals 1 to 6.
abbrev pub Refusals : Type 0
Refusals = map read_call (
    (0x01 ∷ 0x00 ∷ []) ∷ (0x7f ∷ []) ∷ x64_text ∷ replicate 65 0x02 ∷ (0x00 ∷ 0x00 ∷ []) ∷ replicate 4097 0x00 ∷ [])
    ≡ refused 1 2 ∷ refused 2 0 ∷ refused 3 1 ∷ refused 4 64 ∷ refused 5 1 ∷ refused 6 0 ∷ []

-- The place: "a byte offset for 1 to 5 (for 1 the text's length, for 3 the operand)", and 0 for 6.
pub record Places : Type 0 where
  -- 1: no text at all; an operand is missing; a constant's four bytes are cut in the middle
  pub empty : read_call [] ≡ refused 1 0
  pub no_operand : read_call (0x01 ∷ []) ≡ refused 1 1
  pub constant_cut : read_call (0x01 ∷ 0 ∷ 0x10 ∷ 5 ∷ 0 ∷ []) ≡ refused 1 5
  -- 2: where an expression is due, a condition stands; where a condition is due, an expression; where a command is
  -- due, an expression
  pub no_expression : read_call (0x01 ∷ 0 ∷ 0x20 ∷ 1 ∷ []) ≡ refused 2 2
  pub no_condition : read_call (0x04 ∷ 0x11 ∷ 0 ∷ 0x00 ∷ []) ≡ refused 2 1
  pub no_command : read_call (0x02 ∷ 0x00 ∷ 0x11 ∷ 0 ∷ []) ≡ refused 2 2
  -- 3: the variable 64 in an expression; Bc's byte 2
  pub variable_64 : read_call (0x01 ∷ 0 ∷ 0x11 ∷ 64 ∷ []) ≡ refused 3 3
  pub truth_2 : read_call (0x04 ∷ 0x20 ∷ 2 ∷ 0x00 ∷ []) ≡ refused 3 2
  -- 4: WHILE, 63 times Not and Bc, which is at nesting 65; an assignment, 63 times Plus, and a variable at nesting 65
  pub deep_condition : read_call (0x04 ∷ (replicate 63 0x21 ++ (0x20 ∷ 1 ∷ 0x00 ∷ []))) ≡ refused 4 64
  pub deep_expression : read_call (0x01 ∷ 0 ∷ (replicate 63 0x12 ++ (0x11 ∷ 0 ∷ []))) ≡ refused 4 65
  -- "64 is the most": WHILE, 62 times Not and Bc is read, with J's record count, D and n
  pub deepest : read_call (0x04 ∷ (replicate 62 0x21 ++ (0x20 ∷ 1 ∷ 0x00 ∷ []))) ≡ read 1 0 0
  -- 5: the first byte left over
  pub left_over : read_call (0x00 ∷ 0x00 ∷ 0x00 ∷ []) ≡ refused 5 1
  -- 6: 4,096 bytes are not too many
  pub longest : read_call (replicate 4096 0x00) ≡ refused 5 1

-- Two refusals due at once, of which the first in order is given: 6, then reading, which "goes left to right; at a
-- construct 1, 4, 2, then its operand 1, 3; at the end 5".
pub record FirstRefusal : Type 0 where
  -- 6, and 2 at 0: 4,097 bytes `7F`
  pub six_reading : read_call (replicate 4097 0x7f) ≡ refused 6 0
  -- 1, and 4: 64 bytes `02`; the text ends, and the command due is at nesting 65. The same of a condition and an
  -- expression
  pub one_four : read_call (replicate 64 0x02) ≡ refused 1 64
  pub one_four_condition : read_call (0x04 ∷ replicate 63 0x21) ≡ refused 1 64
  pub one_four_expression : read_call (0x01 ∷ 0 ∷ replicate 63 0x12) ≡ refused 1 65
  -- 4, and 2: 64 bytes `02` and `7F`
  pub four_two : read_call (replicate 64 0x02 ++ (0x7f ∷ [])) ≡ refused 4 64
  -- 2, and 1 for an operand: where a command is due, `11` begins none, and its operand is missing
  pub two_one : read_call (0x11 ∷ []) ≡ refused 2 0
  -- 3, and 1 for what comes after the operand: `01 40`
  pub three_one : read_call (0x01 ∷ 0x40 ∷ []) ≡ refused 3 1
  -- 3, and 2 further right; 2, and 3 further right
  pub three_two : read_call (0x02 ∷ 0x01 ∷ 0x40 ∷ 0x11 ∷ 0 ∷ 0x7f ∷ []) ≡ refused 3 2
  pub two_three : read_call (0x02 ∷ 0x7f ∷ 0x01 ∷ 0x40 ∷ 0x11 ∷ 0 ∷ []) ≡ refused 2 1
  -- 3, and 5: `01 40 11 00` and a byte left over
  pub three_five : read_call (x64_text ++ (0x00 ∷ [])) ≡ refused 3 1

-- C, 19 bytes, with one-byte constants: 13 bytes
abbrev pub C_short : List ℕ
C_short = 0x04 ∷ 0x23 ∷ 0x11 ∷ 0 ∷ 0x13 ∷ 3 ∷ 0x01 ∷ 0 ∷ 0x12 ∷ 0x11 ∷ 0 ∷ 0x13 ∷ 1 ∷ []

-- "Expression byte 13 with one signed byte as its operand."
pub record OneByteConstants : Type 0 where
  -- C's record count, D and n
  pub short_C : read_call C_short ≡ read 8 2 1
  -- x0 := −128, with its width
  pub least : read_text (0x01 ∷ 0 ∷ 0x13 ∷ 0x80 ∷ []) ≡ gives (0 := Constant one_byte (negsuc 127))
  -- 1, as for any operand: `13` with no byte
  pub no_byte : read_call (0x01 ∷ 0 ∷ 0x13 ∷ []) ≡ refused 1 3
  -- 2: where a command or a condition is due, `13` begins none
  pub no_command : read_call (0x13 ∷ []) ≡ refused 2 0
  pub no_condition : read_call (0x04 ∷ 0x13 ∷ 1 ∷ 0x00 ∷ []) ≡ refused 2 1
