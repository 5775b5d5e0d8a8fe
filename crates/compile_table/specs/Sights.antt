-- The addresses in machine code, by its bytes (document 02, W6).
use Rattle.std.specs.Prelude.{◌≡◌, ◌||◌, List, ℕ, ◌+◌, ◌*◌, ◌≤◌, eqb, length, get_or, if◌then◌else◌}
use Rattle.std.specs.Prelude.{Option, Some, None}
use Rattle.base.specs.Answers.{gives}
use Rattle.record.specs.Records.{MachineCode, address}
use Rattle.record.specs.Bytes.{machine_kind, records_from}
use Rattle.record.specs.declared.Address.{Address}

-- The address that a tested record at an index names, the lowest byte of its operand, since it is at most 64; none
-- where the record is neither MLOAD nor MSTORE
unfoldable pub address_at : List ℕ → ℕ → Option Address
address_at code i =
    if eqb (get_or code (5 * i) 0) 0x51 || eqb (get_or code (5 * i) 0) 0x53
    then Some (address (get_or code (5 * i + 1) 0)) else None

-- Code whose `count` records passed the test, with the n of a table
pub record Passed (code : List ℕ) (count n : ℕ) : Type 0 where
  pub records : MachineCode
  pub given : records_from (machine_kind n) code 0 count ≡ gives records
  pub bytes : 5 * count ≤ length code
  pub few : n ≤ 64
