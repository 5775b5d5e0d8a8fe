-- Quoted lines as bytes, and what is printed for B, C and G and for a refused text, by computation; for J, whose run is
-- spent at every budget, by computing all but the run (Cases: LinesAsBytes, PrintedB, PrintedC, PrintedG, PrintedJ,
-- PrintedRefusal).
use mathlib.Core.Path.{refl}
use Rattle.base.specs.Acts.{then', give}
use Rattle.base.specs.Answers.{and_then, settle}
use Rattle.word.specs.Numbers.{number_of, number_at}
use Rattle.word.specs.Sums.{clamped, holding}
use Rattle.text.specs.Reading.{expression_byte, condition_byte, command_byte, decline, there, due, pass, operand}
use Rattle.text.specs.Reading.{number_due, number, expression_of, expression, condition_of, condition, command_of}
use Rattle.text.specs.Reading.{command, all_read, read_text}
use Rattle.text.specs.Sizes.{expression_records, condition_records, records, expression_depth, condition_depth}
use Rattle.text.specs.Sizes.{depth, expression_names, condition_names, names, how_many}
use Rattle.text.specs.Cases.{B_text, C_text, G_text, J_text}
use Rattle.source.specs.Rules.{charge, tick, raise, lower, cell, assign, in_range, add, value, truth, loop, exec}
use Rattle.source.specs.Rules.{end_of, result_of}
use Rattle.source.specs.Calls.{source_tests, run_source}
use Rattle.source.specs.Cases.{zeros}
use Rattle.source.proofs.Cases.{forever}
use Rattle.record.specs.Records.{rename}
use Rattle.record.specs.Bytes.{operand as record_operand}
use Rattle.compile.specs.Compilation.{acomp, bcomp, ccomp}
use Rattle.compile.specs.Table.{member, once, mentions, addr_of, entries}
use Rattle.print.specs.Numbers.{decimal_by, signed}
use Rattle.print.specs.Printing.{first_line, name_text, operand_text, record_lines, end_text, run_line}
use Rattle.print.specs.Printing.{value_line, value_lines, run_lines, refusal_line, answer_lines}
use Rattle.print.specs.Cases.{LinesAsBytes, PrintedB, PrintedC, PrintedG, PrintedJ, PrintedRefusal}

pub lines_as_bytes : LinesAsBytes
lines_as_bytes = refl

pub printed_B : PrintedB
unfolding B_text zeros then' give and_then settle number_of number_at clamped holding
    expression_byte condition_byte command_byte decline there due pass operand number_due number
    expression_of expression condition_of condition command_of command all_read read_text
    expression_records condition_records records expression_depth condition_depth depth
    expression_names condition_names names how_many
    charge tick raise lower cell assign in_range add value truth loop exec end_of result_of source_tests run_source
    rename record_operand acomp bcomp ccomp member once mentions addr_of entries
    decimal_by signed first_line name_text operand_text record_lines end_text run_line
    value_line value_lines run_lines refusal_line answer_lines
printed_B = refl

pub printed_C : PrintedC
unfolding C_text zeros then' give and_then settle number_of number_at clamped holding
    expression_byte condition_byte command_byte decline there due pass operand number_due number
    expression_of expression condition_of condition command_of command all_read read_text
    expression_records condition_records records expression_depth condition_depth depth
    expression_names condition_names names how_many
    charge tick raise lower cell assign in_range add value truth loop exec end_of result_of source_tests run_source
    rename record_operand acomp bcomp ccomp member once mentions addr_of entries
    decimal_by signed first_line name_text operand_text record_lines end_text run_line
    value_line value_lines run_lines answer_lines
printed_C = refl

pub printed_G : PrintedG
unfolding G_text zeros then' give and_then settle number_of number_at clamped holding
    expression_byte condition_byte command_byte decline there due pass operand number_due number
    expression_of expression condition_of condition command_of command all_read read_text
    expression_records condition_records records expression_depth condition_depth depth
    expression_names condition_names names how_many
    charge tick raise lower cell assign in_range add value truth loop exec end_of result_of source_tests run_source
    rename record_operand acomp bcomp ccomp member once mentions addr_of entries
    decimal_by signed first_line name_text operand_text record_lines end_text run_line
    value_line value_lines run_lines answer_lines
printed_G = refl

pub printed_J : PrintedJ
unfolding J_text zeros then' give and_then
    expression_byte condition_byte command_byte decline there due pass operand number_due number
    expression_of expression condition_of condition command_of command all_read read_text
    expression_records condition_records records expression_depth condition_depth depth
    expression_names condition_names names how_many
    rename record_operand acomp bcomp ccomp member once mentions addr_of entries
    decimal_by signed first_line name_text operand_text record_lines end_text run_line
    value_line value_lines run_lines answer_lines
printed_J = rw (forever 1000000 zeros refl)

pub printed_refusal : PrintedRefusal
unfolding then' give number_of number_at
    expression_byte condition_byte command_byte decline there due pass operand number_due number
    expression_of expression condition_of condition command_of command all_read read_text
    decimal_by refusal_line answer_lines
printed_refusal = refl
