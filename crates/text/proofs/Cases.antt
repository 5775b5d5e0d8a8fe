-- What reading gives for profiles A to K and for the examples of refusals, by computation (Cases: Readings, Refusals,
-- Places, FirstRefusal, OneByteConstants).
use mathlib.Core.Path.{refl}
use Rattle.base.specs.Acts.{then', give}
use Rattle.base.specs.Answers.{and_then}
use Rattle.word.specs.Numbers.{number_of, number_at, byte_number}
use Rattle.text.specs.Reading.{expression_byte, condition_byte, command_byte, decline, there, due, pass, operand}
use Rattle.text.specs.Reading.{number_due, number, expression_of, expression, condition_of, condition, command_of}
use Rattle.text.specs.Reading.{command, all_read, read_text}
use Rattle.text.specs.Sizes.{expression_records, condition_records, records, expression_depth, condition_depth}
use Rattle.text.specs.Sizes.{depth, expression_names, condition_names, names, how_many}
use Rattle.text.specs.Calls.{read_call}
use Rattle.text.specs.Cases.{A_text, B_text, C_text, D_text, E_text, F_text, G_text, H_text, I_text}
use Rattle.text.specs.Cases.{J_text, K_text, texts, Readings, Refusals, Places, FirstRefusal, OneByteConstants}

pub readings : Readings
unfolding texts A_text B_text C_text D_text E_text F_text G_text H_text I_text J_text K_text
    then' give and_then number_of number_at
    expression_byte condition_byte command_byte decline there due pass operand number_due number
    expression_of expression condition_of condition command_of command all_read read_text read_call
    expression_records condition_records records expression_depth condition_depth depth
    expression_names condition_names names how_many
readings = refl

pub refusals : Refusals
unfolding then' give and_then number_of number_at
    expression_byte condition_byte command_byte decline there due pass operand number_due number
    expression_of expression condition_of condition command_of command all_read read_text read_call
    expression_records condition_records records expression_depth condition_depth depth
    expression_names condition_names names how_many
refusals = refl

pub places : Places
unfolding then' give and_then number_of number_at
    expression_byte condition_byte command_byte decline there due pass operand number_due number
    expression_of expression condition_of condition command_of command all_read read_text read_call
    expression_records condition_records records expression_depth condition_depth depth
    expression_names condition_names names how_many
places = record {
  empty = refl;
  no_operand = refl;
  constant_cut = refl;
  no_expression = refl;
  no_condition = refl;
  no_command = refl;
  variable_64 = refl;
  truth_2 = refl;
  deep_condition = refl;
  deep_expression = refl;
  deepest = refl;
  left_over = refl;
  longest = refl;
}

pub first_refusal : FirstRefusal
unfolding then' give and_then
    expression_byte condition_byte command_byte decline there due pass operand number_due number
    expression_of expression condition_of condition command_of command all_read read_text read_call
first_refusal = record {
  six_reading = refl;
  one_four = refl;
  one_four_condition = refl;
  one_four_expression = refl;
  four_two = refl;
  two_one = refl;
  three_one = refl;
  three_two = refl;
  two_three = refl;
  three_five = refl;
}

pub one_byte_constants : OneByteConstants
unfolding then' give and_then byte_number
    expression_byte condition_byte command_byte decline there due pass operand number_due number
    expression_of expression condition_of condition command_of command all_read read_text read_call
    expression_records condition_records records expression_depth condition_depth depth
    expression_names condition_names names how_many
one_byte_constants = record { short_C = refl; least = refl; no_byte = refl; no_command = refl; no_condition = refl }
