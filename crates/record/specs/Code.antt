-- What the code's operations say, and the name in a record by its bytes.
use Rattle.std.specs.Prelude.{ℕ, ◌+◌, ◌*◌, Bool, true, false, List, get_or, Option, Some, None, if◌then◌else◌}
use Rattle.record.specs.Bytes as Bytes
use Rattle.record.specs.Bytes.{loadi, load, add, store, jmp, jmpless, jmpge, unknown, operation}
use Rattle.record.specs.declared.Operation.{Operation}
use Rattle.record.specs.declared.Operation.TheVariants.{Loadi, Load, Add, Store, Jmp, Jmpless, Jmpge}

abbrev pub operation_of : Option Operation → Bytes.Operation
operation_of (Some Loadi) = loadi
operation_of (Some Load) = load
operation_of (Some Add) = add
operation_of (Some Store) = store
operation_of (Some Jmp) = jmp
operation_of (Some Jmpless) = jmpless
operation_of (Some Jmpge) = jmpge
operation_of None = unknown

-- "LOAD and STORE name a variable in assembly, an address in machine code"
abbrev pub has_name : Bytes.Operation → Bool
has_name loadi = false
has_name load = true
has_name add = false
has_name store = true
has_name jmp = false
has_name jmpless = false
has_name jmpge = false
has_name unknown = false

-- The name in the record at an index of code whose LOADI is `first`: names below 256 are the operand's lowest byte
unfoldable pub named_at : ℕ → List ℕ → ℕ → Option ℕ
named_at first code i =
    if has_name (operation first (get_or code (5 * i) 0)) then Some (get_or code (5 * i + 1) 0) else None
