-- The records of profile C, the addresses of profile I and the bytes of profile B (document 01, "Profiles to hold it
-- to"), machine records that agree with n or don't (document 02, W6), and where the three calls decline ("When a call
-- declines").
use Rattle.std.specs.Prelude.{◌≡◌, true, false, ℕ, List, [], ◌∷◌, ◌++◌, pos, negsuc, take, replicate}
use Rattle.base.specs.Answers.{Answer, gives, refused, and_then}
use Rattle.text.specs.Reading.{read_text}
use Rattle.text.specs.Sizes.{sized}
use Rattle.text.specs.Cases.{B_text, C_text, C_short, I_text, x64_text}
use Rattle.record.specs.Records.{AssemblyCode, MachineCode, LOADI, LOAD, ADD, STORE, JMP, JMPGE, variable, address}
use Rattle.record.specs.Cases.{five}
use Rattle.compile.specs.Compilation.{ccomp}
use Rattle.compile.specs.Table.{table, to_m_prog, agrees}
use Rattle.compile.specs.Calls.{Compiled, assemble, compile, go_back}

-- the assembly, the machine code and the table of a text
abbrev pub assembly_of : List ℕ → Answer AssemblyCode
assembly_of text = and_then (read_text text) (λ c. gives (ccomp c))

abbrev pub machine_of : List ℕ → Answer MachineCode
machine_of text = and_then (read_text text) (λ c. gives (to_m_prog (ccomp c)))

abbrev pub table_of : List ℕ → Answer (List ℕ)
table_of text = and_then (read_text text) (λ c. gives (table (ccomp c)))

-- "8 records, JMPGE 5, JMP −8": a jump counts from the record after it.
abbrev pub Listing : Type 0
Listing = assembly_of C_text ≡ gives (
    LOAD (variable 0) ∷ LOADI (pos 3) ∷ JMPGE (pos 5)
    ∷ LOAD (variable 0) ∷ LOADI (pos 1) ∷ ADD ∷ STORE (variable 0) ∷ JMP (negsuc 7) ∷ [])

-- "Both compile to the same LOADI" (document 02, W1): C with one-byte constants has C's records.
abbrev pub ShortListing : Type 0
ShortListing = assembly_of C_short ≡ assembly_of C_text

-- "x0 := x1; x2 := x1: addresses x2 1, x1 2, x0 3": by last mention.
abbrev pub AddressesOfI : Type 0
AddressesOfI = (machine_of I_text ≡ gives (
    LOAD (address 2) ∷ STORE (address 3) ∷ LOAD (address 2) ∷ STORE (address 1) ∷ []))
    × (and_then (table_of I_text) (λ t. gives (take 4 t)) ≡ gives (3 ∷ 2 ∷ 1 ∷ 0 ∷ []))

-- 14 (document 02, W6), of machine records and n.
pub record Agreements : Type 0 where
  -- profile I's: from the last record backwards 1, 2, 3, and 2 again
  pub of_I : agrees (LOAD (address 2) ∷ STORE (address 3) ∷ LOAD (address 2) ∷ STORE (address 1) ∷ []) 3 ≡ true
  -- no address, and n 0
  pub no_address : agrees (ADD ∷ JMP (pos 0) ∷ []) 0 ≡ true
  -- 2 before 1: in order from the first record on, but not from the last one backwards
  pub not_forwards : agrees (LOAD (address 1) ∷ STORE (address 2) ∷ []) 2 ≡ false
  -- 3 at its first sight after 1, and as many seen as n
  pub two_left_out : agrees (LOAD (address 3) ∷ STORE (address 1) ∷ []) 2 ≡ false
  -- 1 alone, and n 2; 1 and 2, and n 1
  pub too_few : agrees (STORE (address 1) ∷ []) 2 ≡ false
  pub too_many : agrees (LOAD (address 2) ∷ STORE (address 1) ∷ []) 1 ≡ false
  -- a record that is never reached counts too: JMP 1 over LOAD 2
  pub not_reached : agrees (JMP (pos 1) ∷ LOAD (address 2) ∷ STORE (address 1) ∷ []) 2 ≡ true

-- ---- The bytes of B, whole

-- LOAD 1, LOADI 5, ADD, STORE 0
abbrev pub B_assembly : List ℕ
B_assembly =
    0x41 ∷ 1 ∷ 0 ∷ 0 ∷ 0
    ∷ 0x40 ∷ 5 ∷ 0 ∷ 0 ∷ 0
    ∷ 0x42 ∷ 0 ∷ 0 ∷ 0 ∷ 0
    ∷ 0x43 ∷ 0 ∷ 0 ∷ 0 ∷ 0 ∷ []

-- MLOAD 2, MLOADI 5, MADD, MSTORE 1
abbrev pub B_machine : List ℕ
B_machine =
    0x51 ∷ 2 ∷ 0 ∷ 0 ∷ 0
    ∷ 0x50 ∷ 5 ∷ 0 ∷ 0 ∷ 0
    ∷ 0x52 ∷ 0 ∷ 0 ∷ 0 ∷ 0
    ∷ 0x53 ∷ 1 ∷ 0 ∷ 0 ∷ 0 ∷ []

-- x0 has address 1 and x1 address 2; "0 if unnamed"
abbrev pub B_table : List ℕ
B_table = 1 ∷ 2 ∷ replicate 62 0

-- what is lent: an output of some bytes, each EE; with it a table of some bytes, each DD
abbrev pub output : ℕ → List ℕ
output k = replicate k 0xee

abbrev pub code_and_table : List ℕ → List ℕ → Compiled
code_and_table code t = record { code = code; table = t }

abbrev pub lent : ℕ → ℕ → Compiled
lent code t = code_and_table (output code) (replicate t 0xdd)

-- 4 records, D 2 and n 2, and the bytes.
pub record BytesOfB : Type 0 where
  pub assembled : assemble B_text (output 20) ≡ (gives (sized 4 2 2), B_assembly)
  pub compiled : compile B_text (lent 20 64) ≡ (gives (sized 4 2 2), code_and_table B_machine B_table)
  -- going back gives the record count, and the assembly
  pub back : go_back B_machine B_table (output 20) ≡ (gives 4, B_assembly)
  -- "bytes after the last record keep their values": outputs of 22 bytes
  pub assembled_in_22 : assemble B_text (output 22) ≡ (gives (sized 4 2 2), B_assembly ++ output 2)
  pub compiled_in_22 : compile B_text (lent 22 64)
      ≡ (gives (sized 4 2 2), code_and_table (B_machine ++ output 2) B_table)
  pub back_in_22 : go_back B_machine B_table (output 22) ≡ (gives 4, B_assembly ++ output 2)

-- ---- Where the calls decline: number and place, and what is lent as it was. Where two refusals are due, the first in
-- order is given

-- assemble: 6, reading, 7.
pub record AssembleDeclines : Type 0 where
  -- 7: B with 19 bytes
  pub seven : assemble B_text (output 19) ≡ (refused 7 0, output 19)
  -- 6, and reading's 2: 4,097 bytes `7F`
  pub six_reading : assemble (replicate 4097 0x7f) (output 20) ≡ (refused 6 0, output 20)
  -- reading's 3, and 7: `01 40 11 00`, and no output
  pub reading_seven : assemble x64_text [] ≡ (refused 3 1, [])

-- compile: 6, reading, 8, 7.
pub record CompileDeclines : Type 0 where
  -- 8: a table of 63 bytes, and of 65
  pub eight : compile B_text (lent 20 63) ≡ (refused 8 0, lent 20 63)
  pub eight_longer : compile B_text (lent 20 65) ≡ (refused 8 0, lent 20 65)
  -- 7: B with 19 bytes
  pub seven : compile B_text (lent 19 64) ≡ (refused 7 0, lent 19 64)
  -- 6, and reading's 2: 4,097 bytes `7F`
  pub six_reading : compile (replicate 4097 0x7f) (lent 20 64) ≡ (refused 6 0, lent 20 64)
  -- reading's 3, and 8: `01 40 11 00`, and a table of 63 bytes
  pub reading_eight : compile x64_text (lent 20 63) ≡ (refused 3 1, lent 20 63)
  -- 8, and 7: B with a table of 63 bytes and with 19 bytes
  pub eight_seven : compile B_text (lent 19 63) ≡ (refused 8 0, lent 19 63)

-- two entries 1, and some of 0
abbrev pub two_ones : ℕ → List ℕ
two_ones k = 1 ∷ 1 ∷ replicate k 0

-- go_back: 9, 8, 12, 10, 7. n is the table's, and B's is 2.
pub record GoBackDeclines : Type 0 where
  -- 9: 4 bytes of code
  pub nine : go_back (replicate 4 0x50) B_table (output 20) ≡ (refused 9 0, output 20)
  -- 8: a table of 63 bytes, and of 65
  pub eight : go_back B_machine (1 ∷ 2 ∷ replicate 61 0) (output 20) ≡ (refused 8 0, output 20)
  pub eight_longer : go_back B_machine (1 ∷ 2 ∷ replicate 63 0) (output 20) ≡ (refused 8 0, output 20)
  -- 12: two entries 1; an entry 3 where n is 2; a table of zeros has n 0, and is not refused
  pub twelve : go_back B_machine (two_ones 62) (output 20) ≡ (refused 12 0, output 20)
  pub twelve_gap : go_back B_machine (1 ∷ 3 ∷ replicate 62 0) (output 20) ≡ (refused 12 0, output 20)
  pub not_twelve : go_back (five 0x50 0) (replicate 64 0) (output 5) ≡ (gives 1, five 0x40 0)
  -- 10: `52 01 00 00 00`; the addresses 0 and n + 1; after MLOADI 0, at index 1
  pub ten : go_back (five 0x52 1) B_table (output 20) ≡ (refused 10 0, output 20)
  pub ten_address_0 : go_back (five 0x51 0) B_table (output 20) ≡ (refused 10 0, output 20)
  pub ten_address_3 : go_back (five 0x51 3) B_table (output 20) ≡ (refused 10 0, output 20)
  pub ten_second : go_back (five 0x50 0 ++ (five 0x52 1 ++ five 0x51 0)) B_table (output 20)
      ≡ (refused 10 1, output 20)
  -- 7: B's machine code with 19 bytes
  pub seven : go_back B_machine B_table (output 19) ≡ (refused 7 0, output 19)
  -- 9, and 8: 4 bytes of code, and a table of 63 bytes
  pub nine_eight : go_back (replicate 4 0x50) (1 ∷ 2 ∷ replicate 61 0) (output 20) ≡ (refused 9 0, output 20)
  -- 8, and 12: a table of 63 bytes with two entries 1
  pub eight_twelve : go_back B_machine (two_ones 61) (output 20) ≡ (refused 8 0, output 20)
  -- 12, and 10: two entries 1, and `52 01 00 00 00`
  pub twelve_ten : go_back (five 0x52 1) (two_ones 62) (output 20) ≡ (refused 12 0, output 20)
  -- 10, and 7: `52 01 00 00 00`, and 4 bytes
  pub ten_seven : go_back (five 0x52 1) B_table (output 4) ≡ (refused 10 0, output 4)
