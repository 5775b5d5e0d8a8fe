-- What records and steps give, and what they need, over memory in either layout.
use Rattle.std.specs.Prelude.{◌≡◌, ℕ, ◌+◌, ◌*◌, ◌≤◌, ◌<◌, ◌^◌, Bool, List, ℤ, length, if◌then◌else◌}
use Rattle.std.proofs.Math.Option.{some}
use Rattle.base.specs.Answers.{gives}
use Rattle.record.specs.Records.{Record, JMPLESS, JMPGE}
use Rattle.record.specs.Bytes.{record_at, records_from}
use Rattle.machine.specs.Memories.{Assembly}
use Rattle.machine_cells.specs.Lents.{Lent}
use Rattle.machine_step.specs.Code.{Step, Stepped, step_of, does}
use Rattle.machine_step.specs.declared.Machine.{Machine}

-- Assembly's memory, from its store and its stack
abbrev pub assembly_of : List ℤ → List ℤ → Assembly
assembly_of store stack = record { stack = stack; store = store }

-- What every step needs: a machine within its code, with its values within its mark and that within D, room for the
-- count, a slice with D slots
pub record Ready (s : Machine) (D last : ℕ) (stack : List ℤ) : Type 0 where
  pub long : D ≤ length stack
  pub few : last ≤ 4096
  pub placed : s.position < last
  pub held : s.size ≤ s.mark
  pub marked : s.mark ≤ D
  pub room : s.count + 1 < 2 ^ 32

-- JMPLESS under the flag true, JMPGE under false
abbrev pub comparing : {Name : Type 0} → Bool → ℤ → Record Name
comparing flag i = if flag then JMPLESS i else JMPGE i

module _ {M Name : Type 0} (x : Lent M Name) (last : ℕ) where
  -- A record, done and counted
  abbrev pub on_lent : Machine → List ℤ → List ℤ → Record Name → Stepped M
  on_lent s store stack r = does x.depth x.form last s (x.memory store stack) r

  -- Of a record that touches only the stack, whatever the store holds
  abbrev pub OnStack : Machine → List ℤ → List ℤ → Step → Record Name → Type 0
  OnStack s stack stack' step r = (store : List ℤ) → step_of step (x.memory store stack') ≡ on_lent s store stack r

  -- A step is the record at the machine's position, done
  abbrev pub Steps : Machine → List ℕ → List ℤ → List ℤ → Stepped M → Type 0
  Steps s code store stack stepped = (r : Record Name) → record_at (x.kind (length stack)) code s.position ≡ some r
      → stepped ≡ on_lent s store stack r

  -- It needs code that passed the test, and slices that are as long as it needs
  pub record Passed (code : List ℕ) (store stack : List ℤ) : Type 0 where
    pub records : List (Record Name)
    pub given : records_from (x.kind (length stack)) code 0 last ≡ gives records
    pub whole : 5 * last ≤ length code
    pub fits : x.Fits (length store) (length stack)
