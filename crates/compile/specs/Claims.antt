-- What is claimed of compiled code. The proof of the same spelling stands in proofs/. Compilation gives as many records
-- as reading says and names as many variables; machine code with its table goes back to the same assembly, for the
-- definitions and for the calls; the two agree, and what it means that a table and code do; a constant's width changes
-- no record.
use Rattle.std.specs.Prelude.{◌≡◌, ◌↔◌, ℕ, ◌*◌, ◌≤◌, true, List, length, take}
use Rattle.base.specs.Answers.{gives}
use Rattle.text.specs.Syntax.{Command}
use Rattle.text.specs.Reading.{read_text}
use Rattle.text.specs.Encoding.{Bytes, Valid}
use Rattle.text.specs.Sizes.{records, cells}
use Rattle.text.specs.Respelling.{Respelled}
use Rattle.record.specs.Records.{MachineCode}
use Rattle.record.specs.Bytes.{assembly_kind, machine_kind}
use Rattle.record.specs.Claims.{CodeFits}
use Rattle.compile.specs.Compilation.{ccomp}
use Rattle.compile.specs.Table.{vars, to_m_prog, table, named_in, is_table, agrees, to_assembly}
use Rattle.compile.specs.Calls.{Compiled, compile, assemble, go_back}

-- ---- Sizes

-- The record count that reading gives is the number of records.
abbrev pub RecordCount : Type 0
RecordCount = (c : Command) → length (ccomp c) ≡ records c

-- The n that reading gives is the number of variables that the records name, and the n of the table.
pub record VariablesNamed (c : Command) : Type 0 where
  pub in_records : length (vars (ccomp c)) ≡ cells c
  pub in_table : named_in (table (ccomp c)) ≡ cells c

abbrev pub NamedVariables : Type 0
NamedVariables = (c : Command) → Valid c → VariablesNamed c

-- ---- The table and the code of a command pass the tests of the calls that read them

-- The table of a command has 64 entries, and they are 1 to n, once each.
pub record TableHolds (c : Command) : Type 0 where
  pub long : length (table (ccomp c)) ≡ 64
  pub passes : is_table (table (ccomp c)) ≡ true

abbrev pub Tables : Type 0
Tables = (c : Command) → Valid c → TableHolds c

-- The assembly and the machine code of a command of at most 4,096 records can be written as bytes: their numbers are
-- 32-bit, their variables 0 to 63, their addresses 1 to n.
pub record CodeHolds (c : Command) : Type 0 where
  pub in_assembly : CodeFits assembly_kind (ccomp c)
  pub in_machine : CodeFits (machine_kind (cells c)) (to_m_prog (ccomp c))

abbrev pub Codes : Type 0
Codes = (c : Command) → Valid c → records c ≤ 4096 → CodeHolds c

-- "A pairing by our compiler always passes" (document 02, W6): seen from the last record backwards, the addresses in
-- the machine code of a command are at their first sight 1, 2 and on to its n.
abbrev pub Pairs : Type 0
Pairs = (c : Command) → Valid c → agrees (to_m_prog (ccomp c)) (cells c) ≡ true

-- ---- Going back

-- "Machine code with its table goes back to the same assembly."
abbrev pub Back : Type 0
Back = (c : Command) → Valid c → to_assembly (table (ccomp c)) (to_m_prog (ccomp c)) ≡ ccomp c

-- The same of the calls: what go_back leaves in an output, given the records and the table that compile wrote, is what
-- assemble leaves in it; and go_back gives the record count.
abbrev pub GoesBack : Type 0
GoesBack = (text : List ℕ) → Bytes text → (c : Command) → read_text text ≡ gives c
    → (lent : Compiled) → length lent.table ≡ 64 → 5 * records c ≤ length lent.code
    → (out : List ℕ) → 5 * records c ≤ length out
    → let left = (compile text lent).1 in
    go_back (take (5 * records c) left.code) left.table out ≡ (gives (records c), (assemble text out).1)

-- What it means that a table and machine code agree (document 02, W6): the published translation makes both of one
-- assembly, the one that they go back to. (So it is of every table with that n. Which variable has which address, only
-- a table says.)
pub record OneAssembly (t : List ℕ) (P : MachineCode) : Type 0 where
  pub same_code : to_m_prog (to_assembly t P) ≡ P
  pub same_table : table (to_assembly t P) ≡ t

abbrev pub AgreeingPairs : Type 0
AgreeingPairs = (t : List ℕ) → length t ≡ 64 → is_table t ≡ true → (P : MachineCode)
    → (agrees P (named_in t) ≡ true) ↔ OneAssembly t P

-- ---- Two spellings of constants

-- "Both compile to the same LOADI" (document 02, W1): commands that differ in constants' widths alone have the same
-- records, and so the same machine code and table, which are made of the records.
abbrev pub SameRecords : Type 0
SameRecords = (c d : Command) → Respelled c d → ccomp c ≡ ccomp d
