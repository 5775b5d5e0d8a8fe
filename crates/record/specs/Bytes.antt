-- The bytes of records of both kinds, and the test of code (document 01, "Records" and refusals 9 and 10).
use Rattle.std.specs.Prelude.{ℕ, zero, suc, ◌+◌, ◌*◌, ◌/◌, ◌%◌, Bool, false, ◌&&◌, List, [], ◌∷◌, ◌++◌, eqb}
use Rattle.std.specs.Prelude.{leb, ℤ, pos, negsuc, length, drop, get_or, if◌then◌else◌}
use Rattle.std.proofs.Math.Option.{Option, none, some}
use Rattle.base.specs.Answers.{Answer, gives, refused, and_then}
use Rattle.word.specs.Numbers.{number_at, bytes_of}
use Rattle.record.specs.Records.{Record, LOADI, LOAD, ADD, STORE, JMP, JMPLESS, JMPGE, variable, address}
use Rattle.record.specs.declared.Variable.{Variable}
use Rattle.record.specs.declared.Address.{Address}

-- ---- The two kinds

-- A kind of record: the byte of its LOADI, the numbers that are names, and how a name is written as a number
pub record Kind (Name : Type 0) : Type 0 where
  pub first : ℕ
  pub is_name : ℕ → Bool
  pub name : ℕ → Name
  pub number : Name → ℕ

-- "Assembly: 40 LOADI, ..": variables count from 0 to 63
abbrev pub assembly_kind : Kind Variable
assembly_kind = record { first = 0x40; is_name = λ u. leb u 63; name = variable; number = λ v. v.0 }

-- "Machine: 50 to 56 alike": addresses count from 1 to n
abbrev pub machine_kind : ℕ → Kind Address
machine_kind n = record { first = 0x50; is_name = λ u. leb 1 u && leb u n; name = address; number = λ a. a.0 }

-- ---- Records as bytes

module _ {Name : Type 0} (k : Kind Name) where
  -- "40 LOADI, 41 LOAD, 42 ADD (unused), 43 STORE, 44 JMP, 45 JMPLESS, 46 JMPGE"
  unfoldable pub first_byte : Record Name → ℕ
  first_byte (LOADI z) = k.first
  first_byte (LOAD x) = k.first + 1
  first_byte ADD = k.first + 2
  first_byte (STORE x) = k.first + 3
  first_byte (JMP i) = k.first + 4
  first_byte (JMPLESS i) = k.first + 5
  first_byte (JMPGE i) = k.first + 6

  unfoldable pub operand : Record Name → ℤ
  operand (LOADI z) = z
  operand (LOAD x) = pos (k.number x)
  operand ADD = pos 0
  operand (STORE x) = pos (k.number x)
  operand (JMP i) = i
  operand (JMPLESS i) = i
  operand (JMPGE i) = i

  -- "A record is one byte and a signed four-byte operand, lowest byte first, zero where unused"
  abbrev pub record_bytes : Record Name → List ℕ
  record_bytes r = first_byte r ∷ bytes_of (operand r)

  unfoldable pub code_bytes : List (Record Name) → List ℕ
  code_bytes [] = []
  code_bytes (r ∷ P) = record_bytes r ++ code_bytes P

-- "Bytes after the last record keep their values"
abbrev pub over : List ℕ → List ℕ → List ℕ
over new old = new ++ drop (length new) old

-- ---- Bytes as records

pub data Operation : Type 0 where
  loadi load add store jmp jmpless jmpge unknown : Operation

-- What a byte stands for in code whose LOADI is `first`
unfoldable pub operation : ℕ → ℕ → Operation
operation first b =
    if eqb b first then loadi else
    if eqb b (first + 1) then load else
    if eqb b (first + 2) then add else
    if eqb b (first + 3) then store else
    if eqb b (first + 4) then jmp else
    if eqb b (first + 5) then jmpless else
    if eqb b (first + 6) then jmpge else unknown

-- The name that an operand is, if it is one
unfoldable pub name_of : {Name : Type 0} → Kind Name → ℤ → Option Name
name_of k (pos u) = if k.is_name u then some (k.name u) else none
name_of k (negsuc u) = none

unfoldable pub option_map : {A B : Type 0} → (A → B) → Option A → Option B
option_map f none = none
option_map f (some a) = some (f a)

unfoldable pub is_zero : ℤ → Bool
is_zero (pos u) = eqb u 0
is_zero (negsuc u) = false

-- The record of an operation with its operand. None where 10 is due: "record unknown, unused operand not 0,
-- variable outside 0 to 63 or address outside 1 to n". The operands of LOADI and of jumps are not looked at
unfoldable pub record_of : {Name : Type 0} → Kind Name → Operation → ℤ → Option (Record Name)
record_of k loadi z = some (LOADI z)
record_of k load z = option_map LOAD (name_of k z)
record_of k add z = if is_zero z then some ADD else none
record_of k store z = option_map STORE (name_of k z)
record_of k jmp z = some (JMP z)
record_of k jmpless z = some (JMPLESS z)
record_of k jmpge z = some (JMPGE z)
record_of k unknown z = none

-- The record at an index of code
abbrev pub record_at : {Name : Type 0} → Kind Name → List ℕ → ℕ → Option (Record Name)
record_at k code i = record_of k (operation k.first (get_or code (5 * i) 0)) (number_at code (5 * i + 1))

-- ---- The test of code

-- 9: "code not whole records, or above 4,096 records"
abbrev pub record_count : List ℕ → ℕ
record_count code = length code / 5

abbrev pub whole_records : List ℕ → Bool
whole_records code = eqb (length code % 5) 0 && leb (record_count code) 4096

-- A record in front of the records after it; 10 at its index, if it is none
unfoldable pub in_front : {Name : Type 0} → ℕ → Option (Record Name) → Answer (List (Record Name))
    → Answer (List (Record Name))
in_front i none rest = refused 10 i
in_front i (some r) rest = and_then rest (λ P. gives (r ∷ P))

-- The records from index i on, `count` of them; or 10 at "the first such record's index"
unfoldable pub records_from : {Name : Type 0} → Kind Name → List ℕ → ℕ → ℕ → Answer (List (Record Name))
records_from k code i zero = gives []
records_from k code i (suc count) = in_front i (record_at k code i) (records_from k code (suc i) count)

-- The records of code of whole records
abbrev pub records_of : {Name : Type 0} → Kind Name → List ℕ → Answer (List (Record Name))
records_of k code = records_from k code 0 (record_count code)
