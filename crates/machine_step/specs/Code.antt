-- What the code's machines, steps and runs say. The memory that is lent beside them is a parameter.
use Rattle.std.specs.Prelude.{ℕ, ◌+◌, ◌-◌, max, Ok, Err}
use Rattle.std.specs.Prelude as Std
use Rattle.std.proofs.Math.Option.{Option, none, some}
use Rattle.base.specs.Acts.{Outcome, ok, ended}
use Rattle.base.specs.Ends as Ends
use Rattle.base.specs.Ends.{Fault, fault, Result, result}
use Rattle.base.specs.Code.{end_of}
use Rattle.base.specs.declared.End.{End}
use Rattle.std.specs.Prelude.{Some, None}
use Rattle.word.specs.Targets.{Target}
use Rattle.record.specs.Records.{Record}
use Rattle.machine.specs.Machine as Rules
use Rattle.machine.specs.Machine.{Memory, at, act}
use Rattle.machine.specs.declared.State.{State}
use Rattle.machine.specs.Calls.{sums}
use Rattle.machine_step.specs.declared.Machine.{Machine}
use Rattle.machine_step.specs.declared.Halted.{Halted}

-- ---- Machines and steps by value

-- What a step comes to: the next machine, or how the run halted
abbrev pub Step : Type 0
Step = Std.Result Machine Halted

-- "A fresh machine has position 0, stack empty, count 0", and its stack has held nothing
abbrev pub fresh_machine : Machine
fresh_machine = record { position = 0; size = 0; count = 0; mark = 0 }

-- The machine of a state (document 02, W7)
abbrev pub resumed_machine : State → Machine
resumed_machine s = record { position = s.position; size = s.size; count = s.count; mark = s.mark }

-- The record counted and the run ended: "count the record and change nothing else"
abbrev pub stopped : Machine → End → Step
stopped s e = Err (record {
  machine = record { position = s.position; size = s.size; count = s.count + 1; mark = s.mark };
  end = e;
})

-- The record counted and the machine moved
abbrev pub moved : Machine → ℕ → ℕ → ℕ → Step
moved s position size mark = Ok (record { position = position; size = size; count = s.count + 1; mark = mark })

-- The record counted and a jump taken, with `size` values left
abbrev pub landed : Machine → ℕ → Target → Step
landed s size (Some position) = moved s position size s.mark
landed s size None = stopped s End.Astray

-- ---- What they say

-- The machine, with its memory
abbrev pub machine_of : {M : Type 0} → Machine → M → Rules.Machine M
machine_of s m = at s.position s.size m

-- A step: the count, the mark, the end that it brings, if any, and the machine that it leaves
pub record Stepped (M : Type 0) : Type 0 where
  pub count : ℕ
  pub mark : ℕ
  pub end : Option Ends.End
  pub leaves : Rules.Machine M

abbrev pub step_of : {M : Type 0} → Step → M → Stepped M
step_of (Ok s) m = record { count = s.count; mark = s.mark; end = none; leaves = machine_of s m }
step_of (Err h) m =
    let s = h.machine in
    record { count = s.count; mark = s.mark; end = some (end_of h.end); leaves = machine_of s m }

-- What a record's outcome makes of a machine: the record is counted, and the mark is raised to the values on the stack;
-- after a fault all but the count is as it was
unfoldable pub counted : {M : Type 0} → Machine → M → Outcome (Rules.Machine M) Fault (Unit {0}) → Stepped M
counted s m (ok a s') = record { count = s.count + 1; mark = max s.mark s'.size; end = none; leaves = s' }
counted s m (ended e) =
    record { count = s.count + 1; mark = s.mark; end = some (fault e); leaves = machine_of s m }

-- What a record does to a machine, counted
abbrev pub does : {M Name : Type 0} → ℕ → Memory M Name → ℕ → Machine → M → Record Name → Stepped M
does D o last s m r = counted s m (act (sums 0) D o last r (machine_of s m))

-- A run: the ticks left are the budget less the count
abbrev pub halted_result : {M : Type 0} → ℕ → Halted → M → Result (Rules.Machine M)
halted_result budget r m =
    result (end_of r.end) (budget - r.machine.count) r.machine.mark (machine_of r.machine m)
