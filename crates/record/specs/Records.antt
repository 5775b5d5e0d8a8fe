-- Records of both kinds (document 01, "Records"; document 001, instr and m-instr).
use Rattle.std.specs.Prelude.{ℕ, List, ℤ}
use Rattle.std.proofs.Math.Option.{Option, none, some}
use Rattle.record.specs.declared.Variable.{Variable}
use Rattle.record.specs.declared.Address.{Address}

-- A record, over what its LOAD and STORE name
pub data Record (Name : Type 0) : Type 0 where
  LOADI : ℤ → Record Name
  LOAD : Name → Record Name
  ADD : Record Name
  STORE : Name → Record Name
  JMP JMPLESS JMPGE : ℤ → Record Name

-- "LOAD and STORE name a variable in assembly, an address in machine code", and "neither may be given for the other":
-- a variable number and an address are two types
abbrev pub AssemblyCode : Type 0
AssemblyCode = List (Record Variable)

abbrev pub MachineCode : Type 0
MachineCode = List (Record Address)

abbrev pub variable : ℕ → Variable
variable v = record { 0 = v }

abbrev pub address : ℕ → Address
address a = record { 0 = a }

-- What a record names
abbrev pub named : {Name : Type 0} → Record Name → Option Name
named (LOADI z) = none
named (LOAD x) = some x
named ADD = none
named (STORE x) = some x
named (JMP i) = none
named (JMPLESS i) = none
named (JMPGE i) = none

-- The same record, naming f x where it named x
unfoldable pub rename : {X Y : Type 0} → (X → Y) → Record X → Record Y
rename f (LOADI z) = LOADI z
rename f (LOAD x) = LOAD (f x)
rename f ADD = ADD
rename f (STORE x) = STORE (f x)
rename f (JMP i) = JMP i
rename f (JMPLESS i) = JMPLESS i
rename f (JMPGE i) = JMPGE i
