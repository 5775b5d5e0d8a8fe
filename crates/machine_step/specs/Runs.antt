-- What a run gives, and what it needs, over memory in either layout.
use Rattle.std.specs.Prelude.{◌≡◌, ℕ, ◌-◌, ◌≤◌, List, ℤ, length}
use Rattle.base.specs.Answers.{gives}
use Rattle.base.specs.Ends.{Result}
use Rattle.record.specs.Records.{Record}
use Rattle.record.specs.Bytes.{records_from}
use Rattle.machine.specs.Machine as Rules
use Rattle.machine.specs.Machine.{run}
use Rattle.machine.specs.Calls.{sums}
use Rattle.machine_cells.specs.Lents.{Lent}
use Rattle.machine_step.specs.Code.{machine_of}
use Rattle.machine_step.specs.declared.Machine.{Machine}

-- A run is the run of the code's records, with the ticks that the count leaves of its limit
abbrev pub Runs : {M Name : Type 0} → Lent M Name → ℕ → Machine → List ℕ → List ℤ → List ℤ → ℕ
    → Result (Rules.Machine M) → Type 0
Runs {Name = Name} x last s code store stack limit result = (P : List (Record Name))
    → records_from (x.kind (length stack)) code 0 last ≡ gives P
    → result ≡ run sums x.depth x.form P (limit - s.count) s.mark (machine_of s (x.memory store stack))

-- It needs a machine that may stand at its code's end, with its values within its mark, that within D, and its count
-- within the limit
pub record Starts (s : Machine) (D last limit : ℕ) : Type 0 where
  pub few : last ≤ 4096
  pub placed : s.position ≤ last
  pub held : s.size ≤ s.mark
  pub marked : s.mark ≤ D
  pub used : s.count ≤ limit
