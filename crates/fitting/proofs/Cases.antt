-- Profiles A to K hold of the definitions, the calls decline, B is previewed and pairs are run, by computation (Cases:
-- MemoryOfI, Profiles, LoadDeclines, ReadBackDeclines, PreviewsOfB, PreviewDeclines, PairedEnds, PairedOfB,
-- PairedDeclines).
use mathlib.Core.Path.{refl}
use Rattle.base.specs.Acts.{then', give}
use Rattle.base.specs.Answers.{and_then, settle, previewed}
use Rattle.base.specs.Rows.{call, answered}
use Rattle.word.specs.Numbers.{number_of, number_at, bits_of, bytes_of}
use Rattle.word.specs.Sums.{clamped, holding}
use Rattle.word.specs.Targets.{within, target}
use Rattle.text.specs.Reading.{expression_byte, condition_byte, command_byte, decline, there, due, pass, operand}
use Rattle.text.specs.Reading.{number_due, number, expression_of, expression, condition_of, condition, command_of}
use Rattle.text.specs.Reading.{command, all_read, read_text}
use Rattle.text.specs.Sizes.{expression_records, condition_records, records, expression_depth, condition_depth}
use Rattle.text.specs.Sizes.{depth, expression_names, condition_names, names, how_many}
use Rattle.text.specs.Cases.{A_text, B_text, C_text, D_text, E_text, F_text, G_text, H_text, I_text, J_text}
use Rattle.text.specs.Cases.{K_text}
use Rattle.source.specs.Rules.{charge, tick, raise, lower, cell, assign, in_range as source_in_range, add, value}
use Rattle.source.specs.Rules.{truth, loop, exec, end_of, result_of}
use Rattle.source.specs.Calls.{source_tests, run_source}
use Rattle.source.specs.Cases.{zeros}
use Rattle.record.specs.Records.{rename}
use Rattle.record.specs.Bytes.{first_byte, operand as record_operand, code_bytes, operation, name_of, option_map}
use Rattle.record.specs.Bytes.{is_zero, record_of, in_front, records_from}
use Rattle.machine.specs.Machine.{taken, pop, push, held, keep, in_range, next, land, jump, act, after, run_at, run}
use Rattle.machine.specs.Calls.{machine_tests, tell, state_tests, go_on_by, run_machine, ran_of}
use Rattle.compile.specs.Compilation.{acomp, bcomp, ccomp}
use Rattle.compile.specs.Table.{member, once, mentions, addr_of, entries, times, once_each, in_order}
use Rattle.compile.specs.Calls.{compile_tests, compile}
use Rattle.fitting.specs.Loading.{put, fill, got, read_back}
use Rattle.fitting.specs.Calls.{table_tests, pod_tests, load, read_back_call, preview_tests, preview_machine}
use Rattle.fitting.specs.Rows.{fit, four_calls}
use Rattle.fitting.specs.Paired.{paired_tests, run_paired}
use Rattle.fitting.specs.Cases.{cases, measured, by_rules, by_machine, Profiles, MemoryOfI, LoadDeclines}
use Rattle.fitting.specs.Cases.{ReadBackDeclines, PreviewsOfB, PreviewDeclines, PairedEnds, PairedOfB}
use Rattle.fitting.specs.Cases.{PairedDeclines}

pub memory_of_I : MemoryOfI
unfolding put fill
memory_of_I = refl

pub profiles : Profiles
unfolding cases measured by_rules by_machine zeros
    A_text B_text C_text D_text E_text F_text G_text H_text I_text J_text K_text
    then' give and_then settle number_of number_at bits_of bytes_of clamped holding within target
    expression_byte condition_byte command_byte decline there due pass operand number_due number
    expression_of expression condition_of condition command_of command all_read read_text
    expression_records condition_records records expression_depth condition_depth depth
    expression_names condition_names names how_many
    charge tick raise lower cell assign source_in_range add value truth loop exec end_of result_of
    source_tests run_source
    rename first_byte record_operand code_bytes operation name_of option_map is_zero record_of in_front records_from
    taken pop push held keep in_range next land jump act after run_at run
    machine_tests tell state_tests go_on_by run_machine ran_of
    acomp bcomp ccomp member once mentions addr_of entries times once_each compile_tests compile
    put fill got read_back table_tests pod_tests load read_back_call call answered fit four_calls
profiles = (refl, refl)

pub load_declines : LoadDeclines
unfolding and_then settle times once_each put fill table_tests pod_tests load
load_declines = record {
  eight_store = refl;
  eight_table = refl;
  twelve = refl;
  eleven = refl;
  eleven_longer = refl;
  eleven_D = refl;
  not_eleven = refl;
  eight_twelve = refl;
  eight_twelve_table = refl;
  twelve_eleven = refl;
}

pub read_back_declines : ReadBackDeclines
unfolding and_then settle times once_each got read_back table_tests pod_tests read_back_call
read_back_declines = record {
  eight_store = refl;
  eight_table = refl;
  twelve = refl;
  eleven = refl;
  eleven_longer = refl;
  eleven_D = refl;
  not_eleven = refl;
  eight_twelve = refl;
  eight_twelve_table = refl;
  twelve_eleven = refl;
}

pub previews_of_B : PreviewsOfB
unfolding and_then settle previewed then' give number_of number_at clamped holding within target
    operation name_of option_map is_zero record_of in_front records_from
    taken pop push held keep in_range next land jump act after run_at run
    machine_tests tell state_tests go_on_by run_machine ran_of
    times once_each put fill got read_back table_tests pod_tests read_back_call preview_tests preview_machine
previews_of_B = refl

pub preview_declines : PreviewDeclines
unfolding zeros and_then settle previewed then' give number_of number_at clamped holding within target
    operation name_of option_map is_zero record_of in_front records_from
    taken pop push held keep in_range next land jump act after run_at run
    machine_tests tell state_tests go_on_by run_machine ran_of
    times once_each got read_back table_tests pod_tests read_back_call preview_tests preview_machine
preview_declines = record {
  nine = refl;
  eight_store = refl;
  eight_table = refl;
  twelve = refl;
  ten = refl;
  ten_address_2 = refl;
  ten_second = refl;
  eleven = refl;
  eleven_longer = refl;
  eleven_D = refl;
  not_eleven = refl;
  nine_eight = refl;
  eight_twelve = refl;
  twelve_ten = refl;
  ten_eleven = refl;
}

pub paired_ends : PairedEnds
unfolding and_then settle then' give number_of number_at clamped holding within target
    operation name_of option_map is_zero record_of in_front records_from member once mentions in_order
    taken pop push held keep in_range next land jump act after run_at run
    machine_tests tell state_tests go_on_by run_machine ran_of
    times once_each put fill got read_back table_tests pod_tests load read_back_call
    call answered paired_tests run_paired
paired_ends = record {
  ends_done = refl;
  ends_spent = refl;
  ends_short = refl;
  ends_full = refl;
  ends_held = refl;
  ends_astray = refl;
}

pub paired_of_B : PairedOfB
unfolding and_then settle then' give number_of number_at clamped holding within target
    operation name_of option_map is_zero record_of in_front records_from member once mentions in_order
    taken pop push held keep in_range next land jump act after run_at run
    machine_tests tell state_tests go_on_by run_machine ran_of
    times once_each put fill got read_back table_tests pod_tests load read_back_call
    call answered paired_tests run_paired
paired_of_B = record { under_3 = refl; under_4 = refl }

pub paired_declines : PairedDeclines
unfolding and_then settle then' give number_of number_at clamped holding within target
    operation name_of option_map is_zero record_of in_front records_from member once mentions in_order
    taken pop push held keep in_range next land jump act after run_at run
    machine_tests tell state_tests go_on_by run_machine ran_of
    times once_each put fill got read_back table_tests pod_tests load read_back_call
    call answered paired_tests run_paired
paired_declines = record {
  nine = refl;
  eight_store = refl;
  eight_table = refl;
  twelve = refl;
  ten = refl;
  ten_address_2 = refl;
  ten_second = refl;
  fourteen = refl;
  fourteen_order = refl;
  not_fourteen = refl;
  eleven = refl;
  not_eleven = refl;
  nine_eight = refl;
  eight_twelve = refl;
  twelve_ten = refl;
  twelve_fourteen = refl;
  ten_fourteen = refl;
  fourteen_eleven = refl;
}
