-- The calls `run_assembly` and `run_machine` (document 01, "Executors"), which "run from a fresh machine", and `go_on`
-- (document 02, W7), which runs on from the state of a paused run. `run_machine` is `go_on` from a fresh machine, and
-- stands after it.
use Rattle.std.specs.Prelude.{◌≡◌, ◌⊎◌, ◌↔◌, ℕ, ◌+◌, ◌-◌, ◌≤◌, ◌<◌, Bool, true, ◌&&◌, List, eqb, leb, ℤ, length}
use Rattle.base.specs.Answers.{Answer, gives, unless◌refuse◌at◌else◌, and_then, settle}
use Rattle.base.specs.Ends.{End, fault, Result, Ran, ran, report}
use Rattle.word.specs.Sums.{SumRule, holding}
use Rattle.record.specs.Records.{AssemblyCode, MachineCode}
use Rattle.record.specs.Bytes.{assembly_kind, machine_kind, whole_records, records_of}
use Rattle.machine.specs.Machine.{Machine, at as machine_at, fresh, run}
use Rattle.machine.specs.Memories.{Assembly, assembly, machine_cells}
use Rattle.machine.specs.declared.State.{State}

-- The rule for sums of all calls that run records (document 02, W8)
abbrev pub sums : SumRule
sums = holding

-- ---- run_assembly

-- Refusals: 9, 8 ("store not 64 cells"), 10, 11 ("assembly: stack above 64")
unfoldable pub assembly_tests : List ℕ → Assembly → Answer AssemblyCode
assembly_tests code m =
    unless whole_records code refuse 9 at 0 else
    unless eqb (length m.store) 64 refuse 8 at 0 else
    and_then (records_of assembly_kind code) (λ P.
    unless leb (length m.stack) 64 refuse 11 at 0 else
    gives P)

-- D is the stack's length
abbrev pub assembly_run : AssemblyCode → Assembly → ℕ → Result (Machine Assembly)
assembly_run P m budget = run sums (length m.stack) assembly P budget 0 (fresh m)

-- The end, the count and the mark; the stack and the store as they are left
unfoldable pub run_assembly : List ℕ → Assembly → ℕ → Answer Ran × Assembly
run_assembly code m budget =
    settle (assembly_tests code m)
    (λ P. report budget (assembly_run P m budget)) (λ P. (assembly_run P m budget).leaves.memory) m

-- ---- The tests of both calls on machine code

-- 11: "D or n above 64, or slice length wrong": "machine memory has D + 1 + n cells"
abbrev pub memory_fits : ℕ → ℕ → List ℤ → Bool
memory_fits D n memory = leb D 64 && (leb n 64 && eqb (length memory) (D + 1 + n))

-- Refusals: 9, 10, 11
unfoldable pub machine_tests : List ℕ → List ℤ → ℕ → ℕ → Answer MachineCode
machine_tests code memory D n =
    unless whole_records code refuse 9 at 0 else
    and_then (records_of (machine_kind n) code) (λ P.
    unless memory_fits D n memory refuse 11 at 0 else
    gives P)

-- ---- A run of machine code from a state, and what a call tells of it

-- A state (the code's own struct, machine/src/lib.rt) is a position, a stack size, a count and a mark.
-- "A fresh machine has position 0, stack empty, count 0"; its stack has held nothing
abbrev pub fresh_state : State
fresh_state = record { position = 0; size = 0; count = 0; mark = 0 }

-- The run from a state, by a rule for sums. "Each budget counts from the pause"
abbrev pub run_from : SumRule → MachineCode → List ℤ → ℕ → State → ℕ → Result (Machine (List ℤ))
run_from sum P memory D s budget =
    run sum D (machine_cells D) P budget s.mark (machine_at s.position s.size memory)

-- from a fresh machine, by the calls' rule
abbrev pub machine_run : MachineCode → List ℤ → ℕ → ℕ → Result (Machine (List ℤ))
machine_run P memory D budget = run_from sums P memory D fresh_state budget

-- What a call tells of a run: the end, the count and the mark, or the state of a spent one
pub data Told : Type 0 where
  finished : Ran → Told
  paused : State → Told

-- "A spent machine run hands out its position, stack size, count and depth mark"
unfoldable pub tell : End → ℕ → ℕ → Machine (List ℤ) → Told
tell End.done k mark s = finished (ran End.done k mark)
tell End.spent k mark s = paused (record { position = s.position; size = s.size; count = k; mark = mark })
tell (fault e) k mark s = finished (ran (fault e) k mark)

-- The count goes on from the state's
abbrev pub piece_told : State → ℕ → Result (Machine (List ℤ)) → Told
piece_told s budget r = tell r.end (s.count + (budget - r.left)) r.mark r.leaves

-- ---- 15: a state that cannot go on

-- "A position past the end, a stack size above the depth mark, a depth mark above D, or a count that with the budget
-- passes 4294967295"
abbrev pub Unfit : State → ℕ → ℕ → ℕ → Type 0
Unfit s last D budget =
    (last < s.position) ⊎ (s.mark < s.size) ⊎ (D < s.mark) ⊎ (4294967295 < s.count + budget)

-- The test. Its last part asks that the count is at most what the budget leaves of 4294967295, so that the count 0 of a
-- fresh machine passes under every budget, those past 32 bits too
abbrev pub state_fits : State → ℕ → ℕ → ℕ → Bool
state_fits s last D budget =
    leb s.position last && (leb s.size s.mark
    && (leb s.mark D && leb s.count (4294967295 - budget)))

-- Claimed: under every budget of 32 bits a state passes the test exactly when it is not unfit in one of the four ways.
abbrev pub FitsOrUnfit : Type 0
FitsOrUnfit = (s : State) (last D budget : ℕ) → budget ≤ 4294967295
    → (state_fits s last D budget ≡ true) ↔ (Unfit s last D budget → ⊥)

-- ---- go_on

-- Refusals: 9, 10, 11; and "15, after 11"
unfoldable pub state_tests : List ℕ → List ℤ → ℕ → ℕ → State → ℕ → Answer MachineCode
state_tests code memory D n s budget =
    and_then (machine_tests code memory D n) (λ P.
    unless state_fits s (length P) D budget refuse 15 at 0 else
    gives P)

-- "A later call takes them with the same code, memory, D and n": what the run tells, and the memory as it is left. By
-- a rule for sums (document 02, W9, speaks of runs by several)
unfoldable pub go_on_by : SumRule → List ℕ → List ℤ → ℕ → ℕ → State → ℕ → Answer Told × List ℤ
go_on_by sum code memory D n s budget =
    settle (state_tests code memory D n s budget)
    (λ P. piece_told s budget (run_from sum P memory D s budget))
    (λ P. (run_from sum P memory D s budget).leaves.memory) memory

-- The call
abbrev pub go_on : List ℕ → List ℤ → ℕ → ℕ → State → ℕ → Answer Told × List ℤ
go_on code memory D n s budget = go_on_by sums code memory D n s budget

-- ---- run_machine

-- `go_on` from a fresh machine, whose state passes 15's test under every budget: so 9, 10 and 11 are its refusals
unfoldable pub run_machine : List ℕ → List ℤ → ℕ → ℕ → ℕ → Answer Told × List ℤ
run_machine code memory D n budget = go_on code memory D n fresh_state budget

-- ---- The answer without the state: a run's end, count and mark alone

unfoldable pub ran_of : Told → Ran
ran_of (finished r) = r
ran_of (paused s) = ran End.spent s.count s.mark

abbrev pub answer_without_state : Answer Told → Answer Ran
answer_without_state x = and_then x (λ p. gives (ran_of p))

-- of a call, beside the memory as it is left
abbrev pub without_state : Answer Told × List ℤ → Answer Ran × List ℤ
without_state x = (answer_without_state x.0, x.1)
