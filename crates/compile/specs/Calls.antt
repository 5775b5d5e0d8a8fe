-- The calls `assemble`, `compile` and `go_back` (document 01, "Records" and "When a call declines").
use Rattle.std.specs.Prelude.{ℕ, ◌*◌, List, eqb, leb, length}
use Rattle.base.specs.Answers.{Answer, gives, unless◌refuse◌at◌else◌, and_then, settle}
use Rattle.text.specs.Syntax.{Command}
use Rattle.text.specs.Reading.{read_text}
use Rattle.text.specs.Sizes.{records, cells, sizes}
use Rattle.text.specs.declared.Sizes.{Sizes}
use Rattle.record.specs.Records.{MachineCode}
use Rattle.record.specs.Bytes.{assembly_kind, machine_kind, code_bytes, over, whole_records, records_of}
use Rattle.compile.specs.Compilation.{ccomp}
use Rattle.compile.specs.Table.{to_m_prog, table, named_in, is_table, to_assembly}

-- ---- assemble: "gives the three and the assembly, and takes no table"

-- Refusals: 6, reading, 7 ("output shorter than 5 × records")
unfoldable pub assemble_tests : List ℕ → List ℕ → Answer Command
assemble_tests text out =
    and_then (read_text text) (λ c.
    unless leb (5 * records c) (length out) refuse 7 at 0 else
    gives c)

-- Record count, D and n; the output as it is left
unfoldable pub assemble : List ℕ → List ℕ → Answer Sizes × List ℕ
assemble text out = settle (assemble_tests text out) sizes (λ c. over (code_bytes assembly_kind (ccomp c)) out) out

-- ---- compile: "gives these three, the machine code and the table"

-- Refusals: 6, reading, 8 ("table not 64 bytes"), 7
unfoldable pub compile_tests : List ℕ → List ℕ → List ℕ → Answer Command
compile_tests text out t =
    and_then (read_text text) (λ c.
    unless eqb (length t) 64 refuse 8 at 0 else
    unless leb (5 * records c) (length out) refuse 7 at 0 else
    gives c)

-- The machine code of a command, as bytes
abbrev pub machine_bytes : Command → List ℕ
machine_bytes c = code_bytes (machine_kind (cells c)) (to_m_prog (ccomp c))

-- The lent output and the lent table
pub record Compiled : Type 0 where
  pub code : List ℕ
  pub table : List ℕ

-- Record count, D and n; the output and the table as they are left
unfoldable pub compile : List ℕ → Compiled → Answer Sizes × Compiled
compile text lent =
    settle (compile_tests text lent.code lent.table) sizes
    (λ c. record { code = over (machine_bytes c) lent.code; table = table (ccomp c) }) lent

-- ---- go_back

-- Refusals: 9, 8, 12, 10, 7. n is the table's
unfoldable pub go_back_tests : List ℕ → List ℕ → List ℕ → Answer MachineCode
go_back_tests code t out =
    unless whole_records code refuse 9 at 0 else
    unless eqb (length t) 64 refuse 8 at 0 else
    unless is_table t refuse 12 at 0 else
    and_then (records_of (machine_kind (named_in t)) code) (λ P.
    unless leb (5 * length P) (length out) refuse 7 at 0 else
    gives P)

-- The record count; the output as it is left
unfoldable pub go_back : List ℕ → List ℕ → List ℕ → Answer ℕ × List ℕ
go_back code t out =
    settle (go_back_tests code t out) length (λ P. over (code_bytes assembly_kind (to_assembly t P)) out) out
