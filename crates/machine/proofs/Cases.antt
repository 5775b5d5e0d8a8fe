-- Small codes come to their ends, in one run and in pieces, and the calls decline, by computation (Cases: EndsCome,
-- Holds, AssemblyDeclines, MachineDeclines, Pauses, StateDeclines).
use mathlib.Core.Path.{refl}
use Rattle.base.specs.Acts.{then'}
use Rattle.base.specs.Answers.{and_then, settle}
use Rattle.word.specs.Numbers.{number_of, number_at}
use Rattle.word.specs.Sums.{limited, stopping, clamped, holding}
use Rattle.word.specs.Targets.{within, target}
use Rattle.record.specs.Bytes.{operation, name_of, option_map, is_zero, record_of, in_front, records_from}
use Rattle.machine.specs.Machine.{taken, pop, push, held, keep, in_range, next, land, jump, act, after, run_at}
use Rattle.machine.specs.Machine.{run}
use Rattle.machine.specs.Calls.{assembly_tests, run_assembly, machine_tests, tell, state_tests, go_on_by}
use Rattle.machine.specs.Calls.{run_machine}
use Rattle.machine.specs.Calls.{ran_of}
use Rattle.machine.specs.Pieces.{after_piece, in_pieces}
use Rattle.machine.specs.Cases.{rows, EndsCome, Holds, AssemblyDeclines, MachineDeclines, Pauses}
use Rattle.machine.specs.Cases.{StateDeclines}

pub ends_come : EndsCome
unfolding rows then' clamped holding within target
    taken pop push held keep in_range next land jump act after run_at run
ends_come = (refl, refl)

pub holds : Holds
unfolding then' limited stopping clamped holding
    taken pop push in_range next act after run_at run
holds = record {
  greatest = refl;
  greatest_machine = refl;
  least = refl;
  least_machine = refl;
  stopped = refl;
  two_ticks = refl;
}

pub assembly_declines : AssemblyDeclines
unfolding and_then settle number_of number_at
    operation name_of option_map is_zero record_of in_front records_from run_at run assembly_tests run_assembly
assembly_declines = record {
  nine = refl;
  eight = refl;
  eight_longer = refl;
  ten = refl;
  ten_variable = refl;
  ten_second = refl;
  eleven = refl;
  not_eleven = refl;
  nine_eight = refl;
  eight_ten = refl;
  ten_eleven = refl;
}

pub machine_declines : MachineDeclines
unfolding and_then settle number_of number_at
    operation name_of option_map is_zero record_of in_front records_from run_at run
    machine_tests state_tests tell go_on_by run_machine ran_of
machine_declines = record {
  nine = refl;
  ten = refl;
  ten_address_0 = refl;
  ten_address_2 = refl;
  ten_second = refl;
  eleven = refl;
  eleven_longer = refl;
  eleven_D = refl;
  eleven_n = refl;
  not_eleven = refl;
  nine_ten = refl;
  ten_eleven = refl;
  ten_eleven_n = refl;
  eleven_alone = refl;
}

pub pauses : Pauses
unfolding then' and_then settle number_of number_at clamped holding within target
    operation name_of option_map is_zero record_of in_front records_from
    taken pop push held keep in_range next land jump act after run_at run
    machine_tests tell state_tests go_on_by run_machine after_piece in_pieces
pauses = record {
  first = refl;
  second = refl;
  third = refl;
  as_list = refl;
  with_zeros = refl;
  stops_early = refl;
  nothing_done = refl;
  at_end = refl;
  at_end_still = refl;
  mark_kept = refl;
  made_up = refl;
  longest = refl;
}

pub state_declines : StateDeclines
unfolding and_then settle number_of number_at
    operation name_of option_map is_zero record_of in_front records_from run_at run
    machine_tests tell state_tests go_on_by
state_declines = record {
  fifteen_position = refl;
  fifteen_size = refl;
  fifteen_mark = refl;
  fifteen_count = refl;
  fifteen_wrapped = refl;
  not_fifteen = refl;
  not_fifteen_count = refl;
  nine_ten = refl;
  ten_eleven = refl;
  nine_fifteen = refl;
  ten_fifteen = refl;
  eleven_fifteen = refl;
}
