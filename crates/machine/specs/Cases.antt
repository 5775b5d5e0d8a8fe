-- Small codes that come to each end, on both memories (document 01, "Executors"). They name no variable and no address,
-- so the same rows serve assembly and machine code. Then sums past a limit (document 02, W8), where the calls decline
-- (document 01, "When a call declines"), and runs in pieces (W7).
use Rattle.std.specs.Prelude.{◌≡◌, ℕ, ◌+◌, ◌-◌, List, [], ◌∷◌, ◌++◌, map, ℤ, pos, negsuc, replicate}
use Rattle.base.specs.Answers.{Answer, gives, refused}
use Rattle.base.specs.Ends.{short, full, out_of_range, astray, End, done, spent, fault, Result, result, Ran, ran}
use Rattle.word.specs.Sums.{SumRule, stopping}
use Rattle.record.specs.Records.{Record, AssemblyCode, MachineCode, LOADI, ADD, JMP, JMPLESS, JMPGE}
use Rattle.record.specs.Cases.{five}
use Rattle.record.specs.declared.Variable.{Variable}
use Rattle.record.specs.declared.Address.{Address}
use Rattle.machine.specs.Machine.{Machine, at, fresh, run}
use Rattle.machine.specs.Memories.{Assembly, assembly, machine_cells}
use Rattle.machine.specs.Calls.{sums, run_assembly, fresh_state, Told, finished, paused, go_on, run_machine}
use Rattle.machine.specs.Calls.{without_state}
use Rattle.machine.specs.Pieces.{in_pieces}
use Rattle.machine.specs.declared.State.{State}

-- What is lent: to assembly a stack of some cells, each 8, and a store of some cells, each 7
abbrev pub lent : ℕ → ℕ → Assembly
lent stack store = record { stack = replicate stack (pos 8); store = replicate store (pos 7) }

-- to machine code a memory of some cells, each 8
abbrev pub memory : ℕ → List ℤ
memory k = replicate k (pos 8)

-- ---- Ends

-- A code, D and a budget; the end, the count and the mark
pub record Row (Name : Type 0) : Type 0 where
  pub code : List (Record Name)
  pub depth : ℕ
  pub budget : ℕ
  pub end : End
  pub count : ℕ
  pub mark : ℕ

abbrev pub row : {Name : Type 0} → List (Record Name) → ℕ → ℕ → End → ℕ → ℕ → Row Name
row P D b e k mark = record { code = P; depth = D; budget = b; end = e; count = k; mark = mark }

-- "Position equal to the number of records is done, before the budget is looked at; then spent; then short; full; ..
-- astray"; a sum past a limit ends no run (document 02, W8); a comparing jump that isn't taken may have any operand
unfoldable pub rows : (Name : Type 0) → List (Row Name)
rows Name =
    row [] 0 0 done 0 0
    ∷ row (LOADI (pos 1) ∷ []) 1 0 spent 0 0
    ∷ row (LOADI (pos 1) ∷ []) 1 1 done 1 1
    ∷ row (ADD ∷ []) 2 9 (fault short) 1 0
    ∷ row (LOADI (pos 1) ∷ ADD ∷ []) 2 9 (fault short) 2 1
    ∷ row (LOADI (pos 1) ∷ JMPGE (pos 9) ∷ []) 2 9 (fault short) 2 1
    ∷ row (LOADI (pos 1) ∷ LOADI (pos 2) ∷ []) 1 9 (fault full) 2 1
    ∷ row (LOADI (pos 2147483647) ∷ LOADI (pos 1) ∷ ADD ∷ []) 2 9 done 3 2
    ∷ row (JMP (pos 0) ∷ []) 0 9 done 1 0
    ∷ row (JMP (pos 1) ∷ []) 0 9 (fault astray) 1 0
    ∷ row (JMP (negsuc 1) ∷ []) 0 9 (fault astray) 1 0
    ∷ row (LOADI (pos 1) ∷ LOADI (pos 2) ∷ JMPLESS (pos 9) ∷ []) 2 9 (fault astray) 3 2
    ∷ row (LOADI (pos 2) ∷ LOADI (pos 2) ∷ JMPLESS (pos 9) ∷ []) 2 9 done 3 2
    ∷ row (LOADI (pos 2) ∷ LOADI (pos 2) ∷ JMPGE (pos 9) ∷ []) 2 9 (fault astray) 3 2
    ∷ row (LOADI (pos 1) ∷ LOADI (pos 2) ∷ JMPGE (pos 9) ∷ []) 2 9 done 3 2
    ∷ []

-- a row as a run has it
abbrev pub ended_by : {M Name : Type 0} → Row Name → Result M → Row Name
ended_by k r = row k.code k.depth k.budget r.end (k.budget - r.left) r.mark

abbrev pub by_assembly : Row Variable → Row Variable
by_assembly k = ended_by k (run sums k.depth assembly k.code k.budget 0
    (fresh (record { stack = replicate k.depth (pos 0); store = replicate 64 (pos 0) })))

abbrev pub by_machine : Row Address → Row Address
by_machine k = ended_by k (run sums k.depth (machine_cells k.depth) k.code k.budget 0
    (fresh (replicate (k.depth + 1) (pos 0))))

-- Every row holds on both memories.
abbrev pub EndsCome : Type 0
EndsCome = (map by_assembly (rows Variable) ≡ rows Variable) × (map by_machine (rows Address) ≡ rows Address)

-- ---- Sums past a limit (document 02, W8)

-- LOADI 2147483647, LOADI 1, ADD, and LOADI −2147483648, LOADI −1, ADD, of either kind
abbrev pub past_greatest : {Name : Type 0} → List (Record Name)
past_greatest = LOADI (pos 2147483647) ∷ LOADI (pos 1) ∷ ADD ∷ []

abbrev pub past_least : {Name : Type 0} → List (Record Name)
past_least = LOADI (negsuc 2147483647) ∷ LOADI (negsuc 0) ∷ ADD ∷ []

-- a run of assembly on two stack cells and of machine code with D 2 and no variable, cells 8; what it leaves
abbrev pub small_assembly : SumRule → AssemblyCode → ℕ → Result (Machine Assembly)
small_assembly sum P budget = run sum 2 assembly P budget 0 (fresh (lent 2 64))

abbrev pub small_machine : SumRule → MachineCode → ℕ → Result (Machine (List ℤ))
small_machine sum P budget = run sum 2 (machine_cells 2) P budget 0 (fresh (memory 3))

-- The sum takes the limit's value, and the record is counted; by the stopping rule it ended the run, and was counted.
pub record Holds : Type 0 where
  pub greatest : small_assembly sums past_greatest 9
      ≡ result done 6 2 (at 3 1 (record { stack = pos 2147483647 ∷ pos 1 ∷ []; store = replicate 64 (pos 7) }))
  pub greatest_machine : small_machine sums past_greatest 9
      ≡ result done 6 2 (at 3 1 (pos 1 ∷ pos 2147483647 ∷ pos 8 ∷ []))
  pub least : small_assembly sums past_least 9
      ≡ result done 6 2 (at 3 1 (record { stack = negsuc 2147483647 ∷ negsuc 0 ∷ []; store = replicate 64 (pos 7) }))
  pub least_machine : small_machine sums past_least 9
      ≡ result done 6 2 (at 3 1 (negsuc 0 ∷ negsuc 2147483647 ∷ pos 8 ∷ []))
  pub stopped : small_machine stopping past_greatest 9
      ≡ result (fault out_of_range) 6 2 (at 2 2 (pos 1 ∷ pos 2147483647 ∷ pos 8 ∷ []))
  -- "The tick is charged as before": under 2 ticks the sum is not made
  pub two_ticks : small_machine sums past_greatest 2
      ≡ result spent 0 2 (at 2 2 (pos 1 ∷ pos 2147483647 ∷ pos 8 ∷ []))

-- ---- Where run_assembly declines: 9, 8, 10, 11

-- code with nothing to run is done at 0
abbrev pub done_at_0 : Answer Ran
done_at_0 = gives (ran done 0 0)

-- Number and place, and the stack and the store as they were. Where two refusals are due, the first in order is given.
pub record AssemblyDeclines : Type 0 where
  -- 9: 4 bytes
  pub nine : run_assembly (replicate 4 0x40) (lent 1 64) 9 ≡ (refused 9 0, lent 1 64)
  -- 8: a store of 63 cells, and of 65
  pub eight : run_assembly (five 0x40 0) (lent 1 63) 9 ≡ (refused 8 0, lent 1 63)
  pub eight_longer : run_assembly (five 0x40 0) (lent 1 65) 9 ≡ (refused 8 0, lent 1 65)
  -- 10: `42 01 00 00 00`; the variable 64; after LOADI 0, at index 1
  pub ten : run_assembly (five 0x42 1) (lent 1 64) 9 ≡ (refused 10 0, lent 1 64)
  pub ten_variable : run_assembly (five 0x41 64) (lent 1 64) 9 ≡ (refused 10 0, lent 1 64)
  pub ten_second : run_assembly (five 0x40 0 ++ (five 0x42 1 ++ five 0x41 64)) (lent 1 64) 9
      ≡ (refused 10 1, lent 1 64)
  -- 11: a stack of 65 cells; one of 64 is not too long
  pub eleven : run_assembly [] (lent 65 64) 9 ≡ (refused 11 0, lent 65 64)
  pub not_eleven : run_assembly [] (lent 64 64) 9 ≡ (done_at_0, lent 64 64)
  -- 9, and 8: 4 bytes, and a store of 63 cells
  pub nine_eight : run_assembly (replicate 4 0x40) (lent 1 63) 9 ≡ (refused 9 0, lent 1 63)
  -- 8, and 10: a store of 63 cells, and `42 01 00 00 00`
  pub eight_ten : run_assembly (five 0x42 1) (lent 1 63) 9 ≡ (refused 8 0, lent 1 63)
  -- 10, and 11: `42 01 00 00 00`, and a stack of 65 cells
  pub ten_eleven : run_assembly (five 0x42 1) (lent 65 64) 9 ≡ (refused 10 0, lent 65 64)

-- ---- Where run_machine declines: 9, 10, 11

-- Number and place, and the memory as it was. After the memory stand D, n and the budget. Where two refusals are due,
-- the first in order is given.
pub record MachineDeclines : Type 0 where
  -- 9: 4 bytes
  pub nine : run_machine (replicate 4 0x50) (memory 4) 2 1 9 ≡ (refused 9 0, memory 4)
  -- 10: `52 01 00 00 00`; the addresses 0 and n + 1; after MLOADI 0, at index 1
  pub ten : run_machine (five 0x52 1) (memory 4) 2 1 9 ≡ (refused 10 0, memory 4)
  pub ten_address_0 : run_machine (five 0x51 0) (memory 4) 2 1 9 ≡ (refused 10 0, memory 4)
  pub ten_address_2 : run_machine (five 0x51 2) (memory 4) 2 1 9 ≡ (refused 10 0, memory 4)
  pub ten_second : run_machine (five 0x50 0 ++ (five 0x52 1 ++ five 0x51 0)) (memory 4) 2 1 9
      ≡ (refused 10 1, memory 4)
  -- 11: D 2, n 1, 3 cells, and 5 cells; D 65; n 65; D 64 and n 64 are not above 64
  pub eleven : run_machine (five 0x50 0) (memory 3) 2 1 9 ≡ (refused 11 0, memory 3)
  pub eleven_longer : run_machine (five 0x50 0) (memory 5) 2 1 9 ≡ (refused 11 0, memory 5)
  pub eleven_D : run_machine (five 0x50 0) (memory 67) 65 1 9 ≡ (refused 11 0, memory 67)
  pub eleven_n : run_machine (five 0x50 0) (memory 68) 2 65 9 ≡ (refused 11 0, memory 68)
  pub not_eleven : without_state (run_machine [] (memory 129) 64 64 9) ≡ (done_at_0, memory 129)
  -- 9, and 10: `52 01 00 00 00` and a byte more
  pub nine_ten : run_machine (five 0x52 1 ++ (0x50 ∷ [])) (memory 4) 2 1 9 ≡ (refused 9 0, memory 4)
  -- 10, and 11: `52 01 00 00 00`, and 3 cells; the address 66, and n 65, by which the address 65 is not too high
  pub ten_eleven : run_machine (five 0x52 1) (memory 3) 2 1 9 ≡ (refused 10 0, memory 3)
  pub ten_eleven_n : run_machine (five 0x51 66) (memory 68) 2 65 9 ≡ (refused 10 0, memory 68)
  pub eleven_alone : run_machine (five 0x51 65) (memory 68) 2 65 9 ≡ (refused 11 0, memory 68)

-- ---- In pieces (document 02, W7)

abbrev pub state : ℕ → ℕ → ℕ → ℕ → State
state position size count mark = record { position = position; size = size; count = count; mark = mark }

-- MLOADI 5, MLOADI 7, MADD, with two stack cells and no variable
abbrev pub five_and_seven : List ℕ
five_and_seven = five 0x50 5 ++ (five 0x50 7 ++ five 0x52 0)

-- its memory at first; with 5 on the stack; with 5 and 7; with their sum, above which the 7 that was taken off stays
abbrev pub at_first : List ℤ
at_first = pos 8 ∷ pos 8 ∷ pos 8 ∷ []

abbrev pub with_five : List ℤ
with_five = pos 8 ∷ pos 5 ∷ pos 8 ∷ []

abbrev pub with_both : List ℤ
with_both = pos 7 ∷ pos 5 ∷ pos 8 ∷ []

abbrev pub with_sum : List ℤ
with_sum = pos 7 ∷ pos 12 ∷ pos 8 ∷ []

-- MJMP −1: a jump to itself
abbrev pub forever : List ℕ
forever = 0x54 ∷ replicate 4 0xff

-- What a call gives and leaves
abbrev pub Gives : Answer Told × List ℤ → Told → List ℤ → Type 0
Gives call told left = call ≡ (gives told, left)

abbrev pub done_at : ℕ → ℕ → Told
done_at count mark = finished (ran done count mark)

pub record Pauses : Type 0 where
  -- a run with budget 1, gone on with 1, gone on with 9
  pub first : Gives (run_machine five_and_seven at_first 2 0 1) (paused (state 1 1 1 1)) with_five
  pub second : Gives (go_on five_and_seven with_five 2 0 (state 1 1 1 1) 1) (paused (state 2 2 2 2)) with_both
  pub third : Gives (go_on five_and_seven with_both 2 0 (state 2 2 2 2) 9) (done_at 3 2) with_sum
  -- the three as a list of budgets; with budgets of 0 in it; one that stops early, as the first piece is done
  pub as_list : Gives (in_pieces five_and_seven at_first 2 0 fresh_state 1 (1 ∷ 9 ∷ [])) (done_at 3 2) with_sum
  pub with_zeros : Gives (in_pieces five_and_seven at_first 2 0 fresh_state 0 (1 ∷ 0 ∷ 1 ∷ 0 ∷ []))
      (paused (state 2 2 2 2)) with_both
  pub stops_early : Gives (in_pieces five_and_seven at_first 2 0 fresh_state 3 (1 ∷ [])) (done_at 3 2) with_sum
  -- a budget of 0 hands out the state that it was given
  pub nothing_done : Gives (go_on five_and_seven with_five 2 0 (state 1 1 1 1) 0) (paused (state 1 1 1 1)) with_five
  -- a position that equals the end is done at once, with its count, with and without budget
  pub at_end : Gives (go_on five_and_seven with_sum 2 0 (state 3 1 7 2) 0) (done_at 7 2) with_sum
  pub at_end_still : Gives (go_on five_and_seven with_sum 2 0 (state 3 1 7 2) 5) (done_at 7 2) with_sum
  -- the mark goes on: one value on the stack after the pause, three before it
  pub mark_kept : Gives (go_on (five 0x50 5) (memory 4) 3 0 (state 0 0 9 3) 4)
      (done_at 10 3) (pos 8 ∷ pos 8 ∷ pos 5 ∷ pos 8 ∷ [])
  -- a state that is made up: two values that nobody pushed are the cells as they are
  pub made_up : Gives (go_on (five 0x52 0) (memory 3) 2 0 (state 0 2 0 2) 1) (done_at 1 2) (pos 8 ∷ pos 16 ∷ pos 8 ∷ [])
  -- the highest count
  pub longest : Gives (go_on forever (memory 1) 0 0 (state 0 0 4294967294 0) 1)
      (paused (state 0 0 4294967295 0)) (memory 1)

-- ---- Where go_on declines: 9, 10, 11, 15

-- on a jump to itself, with D 2 and no variable
abbrev pub from_state : State → ℕ → Answer Told × List ℤ
from_state s budget = go_on forever (memory 3) 2 0 s budget

-- Number and place, and the memory as it was. Before the budget stands the state. Where two refusals are due, the first
-- in order is given.
pub record StateDeclines : Type 0 where
  -- 15: a position past the end; a stack size above the mark; a mark above D; a count that with the budget passes
  -- 4294967295
  pub fifteen_position : from_state (state 2 0 0 0) 9 ≡ (refused 15 0, memory 3)
  pub fifteen_size : from_state (state 0 2 0 1) 9 ≡ (refused 15 0, memory 3)
  pub fifteen_mark : from_state (state 0 0 0 3) 9 ≡ (refused 15 0, memory 3)
  pub fifteen_count : from_state (state 0 0 4294967294 0) 2 ≡ (refused 15 0, memory 3)
  -- in 32 bits that count and this budget would come to 1
  pub fifteen_wrapped : from_state (state 0 0 4294967295 0) 2 ≡ (refused 15 0, memory 3)
  -- at its limits a state is not refused
  pub not_fifteen : from_state (state 1 2 4294967295 2) 0 ≡ (gives (done_at 4294967295 2), memory 3)
  pub not_fifteen_count : from_state (state 0 2 4294967295 2) 0 ≡ (gives (paused (state 0 2 4294967295 2)), memory 3)
  -- 9, and 10: `52 01 00 00 00` and a byte more; 10, and 11: `52 01 00 00 00`, and 4 cells; the state passes
  pub nine_ten : go_on (five 0x52 1 ++ (0x50 ∷ [])) (memory 3) 2 0 (state 0 1 1 1) 9 ≡ (refused 9 0, memory 3)
  pub ten_eleven : go_on (five 0x52 1) (memory 4) 2 0 (state 0 1 1 1) 9 ≡ (refused 10 0, memory 4)
  -- 9, and 15; 10, and 15; 11, and 15: the state is unfit in each way
  pub nine_fifteen : go_on (replicate 4 0x50) (memory 3) 2 0 (state 9 9 4294967295 8) 9 ≡ (refused 9 0, memory 3)
  pub ten_fifteen : go_on (five 0x52 1) (memory 3) 2 0 (state 9 9 4294967295 8) 9 ≡ (refused 10 0, memory 3)
  pub eleven_fifteen : go_on (five 0x52 0) (memory 4) 2 0 (state 9 9 4294967295 8) 9 ≡ (refused 11 0, memory 4)
