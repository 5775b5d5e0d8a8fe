-- The records of profile C, the addresses of profile I, the bytes of profile B, and where the calls decline, by
-- computation (Cases: Listing, ShortListing, AddressesOfI, BytesOfB, AssembleDeclines, CompileDeclines,
-- GoBackDeclines).
use mathlib.Core.Path.{refl}
use Rattle.base.specs.Acts.{then', give}
use Rattle.base.specs.Answers.{and_then, settle}
use Rattle.word.specs.Numbers.{number_of, number_at, bits_of, bytes_of, byte_number}
use Rattle.text.specs.Reading.{expression_byte, condition_byte, command_byte, decline, there, due, pass, operand}
use Rattle.text.specs.Reading.{number_due, number, expression_of, expression, condition_of, condition, command_of}
use Rattle.text.specs.Reading.{command, all_read, read_text}
use Rattle.text.specs.Sizes.{expression_records, condition_records, records, expression_depth, condition_depth}
use Rattle.text.specs.Sizes.{depth, expression_names, condition_names, names, how_many}
use Rattle.text.specs.Cases.{B_text, C_text, I_text}
use Rattle.record.specs.Records.{rename}
use Rattle.record.specs.Bytes.{first_byte, operand as record_operand, code_bytes, operation, name_of, option_map}
use Rattle.record.specs.Bytes.{is_zero, record_of, in_front, records_from}
use Rattle.compile.specs.Compilation.{acomp, bcomp, ccomp}
use Rattle.compile.specs.Table.{member, once, mentions, addr_of, entries, times, once_each, in_order, variable_at}
use Rattle.compile.specs.Calls.{assemble_tests, assemble, compile_tests, compile, go_back_tests, go_back}
use Rattle.compile.specs.Cases.{Listing, ShortListing, AddressesOfI, BytesOfB, AssembleDeclines}
use Rattle.compile.specs.Cases.{CompileDeclines, GoBackDeclines, Agreements}

pub listing : Listing
unfolding C_text then' give and_then number_of number_at
    expression_byte condition_byte command_byte decline there due pass operand number_due number
    expression_of expression condition_of condition command_of command all_read read_text
    ccomp acomp bcomp
listing = refl

pub short_listing : ShortListing
unfolding C_text then' give and_then number_of number_at byte_number
    expression_byte condition_byte command_byte decline there due pass operand number_due number
    expression_of expression condition_of condition command_of command all_read read_text
    ccomp acomp bcomp
short_listing = refl

pub addresses_of_I : AddressesOfI
unfolding I_text then' give and_then number_of number_at
    expression_byte condition_byte command_byte decline there due pass operand number_due number
    expression_of expression condition_of condition command_of command all_read read_text
    ccomp acomp bcomp rename mentions member once addr_of entries
addresses_of_I = (refl, refl)

pub bytes_of_B : BytesOfB
unfolding B_text then' give and_then settle number_of number_at bits_of bytes_of
    expression_byte condition_byte command_byte decline there due pass operand number_due number
    expression_of expression condition_of condition command_of command all_read read_text
    expression_records condition_records records expression_depth condition_depth depth
    expression_names condition_names names how_many
    rename first_byte record_operand code_bytes operation name_of option_map is_zero record_of in_front records_from
    ccomp acomp bcomp mentions member once addr_of entries times once_each variable_at
    assemble_tests assemble compile_tests compile go_back_tests go_back
bytes_of_B = record {
  assembled = refl;
  compiled = refl;
  back = refl;
  assembled_in_22 = refl;
  compiled_in_22 = refl;
  back_in_22 = refl;
}

pub agreements : Agreements
unfolding member once mentions in_order
agreements = record {
  of_I = refl;
  no_address = refl;
  not_forwards = refl;
  two_left_out = refl;
  too_few = refl;
  too_many = refl;
  not_reached = refl;
}

pub assemble_declines : AssembleDeclines
unfolding B_text then' give and_then settle number_of number_at
    expression_byte condition_byte command_byte decline there due pass operand number_due number
    expression_of expression condition_of condition command_of command all_read read_text
    expression_records condition_records records assemble_tests assemble
assemble_declines = record {
  seven = refl;
  six_reading = refl;
  reading_seven = refl;
}

pub compile_declines : CompileDeclines
unfolding B_text then' give and_then settle number_of number_at
    expression_byte condition_byte command_byte decline there due pass operand number_due number
    expression_of expression condition_of condition command_of command all_read read_text
    expression_records condition_records records compile_tests compile
compile_declines = record {
  eight = refl;
  eight_longer = refl;
  seven = refl;
  six_reading = refl;
  reading_eight = refl;
  eight_seven = refl;
}

pub go_back_declines : GoBackDeclines
unfolding and_then settle number_of number_at bits_of bytes_of
    rename first_byte record_operand code_bytes operation name_of option_map is_zero record_of in_front records_from
    times once_each variable_at go_back_tests go_back
go_back_declines = record {
  nine = refl;
  eight = refl;
  eight_longer = refl;
  twelve = refl;
  twelve_gap = refl;
  not_twelve = refl;
  ten = refl;
  ten_address_0 = refl;
  ten_address_3 = refl;
  ten_second = refl;
  seven = refl;
  nine_eight = refl;
  eight_twelve = refl;
  twelve_ten = refl;
  ten_seven = refl;
}
