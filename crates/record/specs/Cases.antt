-- One record of each operation as its five bytes, in both kinds, and the tests of code at their limits (document 01,
-- "Records" and refusals 9 and 10). negsuc k is −1 − k.
use Rattle.std.specs.Prelude.{◌≡◌, true, false, ℕ, List, [], ◌∷◌, ◌++◌, map, pos, negsuc, replicate}
use Rattle.base.specs.Answers.{gives, refused}
use Rattle.record.specs.Records.{Record, LOADI, LOAD, ADD, STORE, JMP, JMPLESS, JMPGE, variable, address}
use Rattle.record.specs.Bytes.{Kind, assembly_kind, machine_kind, record_bytes, records_of, whole_records}
use Rattle.record.specs.declared.Variable.{Variable}
use Rattle.record.specs.declared.Address.{Address}

-- ---- Records and their bytes

-- A record and its bytes
pub record Row (Name : Type 0) : Type 0 where
  pub meaning : Record Name
  pub bytes : List ℕ

abbrev pub row : {Name : Type 0} → Record Name → List ℕ → Row Name
row r bytes = record { meaning = r; bytes = bytes }

-- "Assembly: 40 LOADI, 41 LOAD, 42 ADD (unused), 43 STORE, 44 JMP, 45 JMPLESS, 46 JMPGE"; the operand "lowest byte
-- first, zero where unused"
unfoldable pub assembly_rows : List (Row Variable)
assembly_rows =
    -- LOADI −2
    row (LOADI (negsuc 1)) (0x40 ∷ 0xfe ∷ 0xff ∷ 0xff ∷ 0xff ∷ [])
    -- LOADI 67305985
    ∷ row (LOADI (pos 67305985)) (0x40 ∷ 1 ∷ 2 ∷ 3 ∷ 4 ∷ [])
    -- LOAD 3
    ∷ row (LOAD (variable 3)) (0x41 ∷ 3 ∷ 0 ∷ 0 ∷ 0 ∷ [])
    -- ADD
    ∷ row ADD (0x42 ∷ 0 ∷ 0 ∷ 0 ∷ 0 ∷ [])
    -- STORE 63
    ∷ row (STORE (variable 63)) (0x43 ∷ 63 ∷ 0 ∷ 0 ∷ 0 ∷ [])
    -- JMP −8
    ∷ row (JMP (negsuc 7)) (0x44 ∷ 0xf8 ∷ 0xff ∷ 0xff ∷ 0xff ∷ [])
    -- JMPLESS 300
    ∷ row (JMPLESS (pos 300)) (0x45 ∷ 0x2c ∷ 1 ∷ 0 ∷ 0 ∷ [])
    -- JMPGE 5
    ∷ row (JMPGE (pos 5)) (0x46 ∷ 5 ∷ 0 ∷ 0 ∷ 0 ∷ [])
    ∷ []

-- "Machine: 50 to 56 alike"; here n is 64
unfoldable pub machine_rows : List (Row Address)
machine_rows =
    -- MLOADI −2147483648
    row (LOADI (negsuc 2147483647)) (0x50 ∷ 0 ∷ 0 ∷ 0 ∷ 0x80 ∷ [])
    -- MLOADI 2147483647
    ∷ row (LOADI (pos 2147483647)) (0x50 ∷ 0xff ∷ 0xff ∷ 0xff ∷ 0x7f ∷ [])
    -- MLOAD 1
    ∷ row (LOAD (address 1)) (0x51 ∷ 1 ∷ 0 ∷ 0 ∷ 0 ∷ [])
    -- MADD
    ∷ row ADD (0x52 ∷ 0 ∷ 0 ∷ 0 ∷ 0 ∷ [])
    -- MSTORE 64
    ∷ row (STORE (address 64)) (0x53 ∷ 64 ∷ 0 ∷ 0 ∷ 0 ∷ [])
    -- MJMP −8
    ∷ row (JMP (negsuc 7)) (0x54 ∷ 0xf8 ∷ 0xff ∷ 0xff ∷ 0xff ∷ [])
    -- MJMPLESS −1
    ∷ row (JMPLESS (negsuc 0)) (0x55 ∷ 0xff ∷ 0xff ∷ 0xff ∷ 0xff ∷ [])
    -- MJMPGE 0
    ∷ row (JMPGE (pos 0)) (0x56 ∷ 0 ∷ 0 ∷ 0 ∷ 0 ∷ [])
    ∷ []

-- The bytes of each row's record are its bytes, and its bytes are read as that record alone
pub record Holds {Name : Type 0} (k : Kind Name) (rows : List (Row Name)) : Type 0 where
  pub written : map (λ r. record_bytes k r.meaning) rows ≡ map (λ r. r.bytes) rows
  pub read : map (λ r. records_of k r.bytes) rows ≡ map (λ r. gives (r.meaning ∷ [])) rows

-- Every row holds, in both kinds.
abbrev pub RecordsAsBytes : Type 0
RecordsAsBytes = Holds assembly_kind assembly_rows × Holds (machine_kind 64) machine_rows

-- ---- Refusals 9 and 10

-- 9: "code not whole records, or above 4,096 records".
pub record CodeLengths : Type 0 where
  -- no bytes are no records
  pub none : whole_records [] ≡ true
  -- 4 bytes are not a whole record, and 5 are
  pub four_bytes : whole_records (replicate 4 0x40) ≡ false
  pub one_record : whole_records (replicate 5 0x40) ≡ true
  -- 4,096 records are the most
  pub most : whole_records (replicate 20480 0x40) ≡ true
  pub one_more : whole_records (replicate 20485 0x40) ≡ false

-- five bytes, of which the last three are 0: a first byte, and an operand below 256
abbrev pub five : ℕ → ℕ → List ℕ
five first operand = first ∷ operand ∷ 0 ∷ 0 ∷ 0 ∷ []

-- 10: "record unknown, unused operand not 0, variable outside 0 to 63 or address outside 1 to n", at "the first such
-- record's index".
pub record NotRecords : Type 0 where
  -- unknown: a byte below 40, one above 46, and one of the other kind
  pub below_first : records_of assembly_kind (five 0x3f 0) ≡ refused 10 0
  pub above_last : records_of assembly_kind (five 0x47 0) ≡ refused 10 0
  pub machine_byte : records_of assembly_kind (five 0x52 0) ≡ refused 10 0
  pub assembly_byte : records_of (machine_kind 64) (five 0x42 0) ≡ refused 10 0
  -- `42 01 00 00 00` and `52 01 00 00 00`: the unused operand is 1
  pub add_1 : records_of assembly_kind (five 0x42 1) ≡ refused 10 0
  pub m_add_1 : records_of (machine_kind 64) (five 0x52 1) ≡ refused 10 0
  -- LOAD 64, STORE 64, STORE −1
  pub load_64 : records_of assembly_kind (five 0x41 64) ≡ refused 10 0
  pub store_64 : records_of assembly_kind (five 0x43 64) ≡ refused 10 0
  pub store_below : records_of assembly_kind (0x43 ∷ 0xff ∷ 0xff ∷ 0xff ∷ 0xff ∷ []) ≡ refused 10 0
  -- MLOAD 0 and MSTORE 0; where n is 2, MLOAD 3 and MSTORE 3
  pub m_load_0 : records_of (machine_kind 2) (five 0x51 0) ≡ refused 10 0
  pub m_store_0 : records_of (machine_kind 2) (five 0x53 0) ≡ refused 10 0
  pub m_load_3 : records_of (machine_kind 2) (five 0x51 3) ≡ refused 10 0
  pub m_store_3 : records_of (machine_kind 2) (five 0x53 3) ≡ refused 10 0
  -- LOADI 0, then two that are no records: the first of these two has index 1
  pub first_index : records_of assembly_kind (five 0x40 0 ++ (five 0x42 1 ++ five 0x47 0)) ≡ refused 10 1
