-- What is claimed of records as bytes, for both kinds at once. The proof of the same spelling stands in proofs/.
use Rattle.std.specs.Prelude.{◌≡◌, true, ℕ, ◌*◌, ◌<◌, List, [], ◌∷◌, length}
use Rattle.std.specs.Int.{w32}
use Rattle.std.proofs.Common.{SFits}
use Rattle.base.specs.Answers.{gives}
use Rattle.record.specs.Records.{Record, LOADI, LOAD, ADD, STORE, JMP, JMPLESS, JMPGE}
use Rattle.record.specs.Bytes.{Kind, assembly_kind, machine_kind, code_bytes, records_of}

-- A name of the kind: its number is one of the kind's names, and below 2147483648
abbrev pub NameFits : {Name : Type 0} → Kind Name → Name → Type 0
NameFits k x = (k.is_name (k.number x) ≡ true) × (k.number x < 2147483648)

-- A record that can be written: a 32-bit number, a name of the kind
abbrev pub RecordFits : {Name : Type 0} → Kind Name → Record Name → Type 0
RecordFits k (LOADI z) = SFits w32 z
RecordFits k (LOAD x) = NameFits k x
RecordFits k ADD = Unit {0}
RecordFits k (STORE x) = NameFits k x
RecordFits k (JMP i) = SFits w32 i
RecordFits k (JMPLESS i) = SFits w32 i
RecordFits k (JMPGE i) = SFits w32 i

abbrev pub CodeFits : {Name : Type 0} → Kind Name → List (Record Name) → Type 0
CodeFits k [] = Unit {0}
CodeFits k (r ∷ P) = RecordFits k r × CodeFits k P

-- What was written is read: the records of the bytes of records are these records.
abbrev pub ReadsWritten : {Name : Type 0} → Kind Name → Type 0
ReadsWritten k = (P : _) → CodeFits k P → records_of k (code_bytes k P) ≡ gives P

-- For assembly and for machine code.
pub record Written : Type 0 where
  pub in_assembly : ReadsWritten assembly_kind
  pub in_machine : (n : ℕ) → ReadsWritten (machine_kind n)

-- Five bytes to a record.
abbrev pub FiveBytes : Type 1
FiveBytes = (Name : Type 0) (k : Kind Name) (P : List (Record Name)) → length (code_bytes k P) ≡ 5 * length P
