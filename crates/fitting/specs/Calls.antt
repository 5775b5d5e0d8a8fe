-- The calls `load` and `read_back` (document 01, "Executors"), and the preview of a loaded machine (document 02, W3).
use Rattle.std.specs.Prelude.{ℕ, ◌&&◌, List, eqb, ℤ, length}
use Rattle.base.specs.Answers.{Answer, gives, unless◌refuse◌at◌else◌, and_then, settle, previewed}
use Rattle.base.specs.Ends.{Ran}
use Rattle.source.specs.Rules.{Store}
use Rattle.record.specs.Records.{MachineCode}
use Rattle.record.specs.Bytes.{whole_records}
use Rattle.machine.specs.Calls.{memory_fits, machine_tests, run_machine, without_state}
use Rattle.compile.specs.Table.{named_in, is_table}
use Rattle.fitting.specs.Loading.{loaded, read_back}

-- A table and a store: 8 ("store not 64 cells, or table not 64 bytes"), 12. "A call with a table takes n from it"
unfoldable pub table_tests : List ℕ → Store → Answer ℕ
table_tests t store =
    unless eqb (length t) 64 && eqb (length store) 64 refuse 8 at 0 else
    unless is_table t refuse 12 at 0 else
    gives (named_in t)

-- ---- load, read_back

-- Refusals of both: 8, 12, 11
unfoldable pub pod_tests : List ℕ → Store → ℕ → List ℤ → Answer ℕ
pod_tests t store D memory =
    and_then (table_tests t store) (λ n.
    unless memory_fits D n memory refuse 11 at 0 else
    gives n)

-- n; the memory as it is left, "whatever the memory held"
unfoldable pub load : List ℕ → Store → ℕ → List ℤ → Answer ℕ × List ℤ
load t store D memory = settle (pod_tests t store D memory) (λ n. n) (λ n. loaded t D n store) memory

-- n; the store as it is left
unfoldable pub read_back_call : List ℕ → List ℤ → ℕ → Store → Answer ℕ × Store
read_back_call t memory D store = settle (pod_tests t store D memory) (λ n. n) (λ n. read_back t D store memory) store

-- ---- preview_machine

-- Refusals: 9; those of the table and the store, 8, 12; those of `run_machine` with the table's n, 10, 11
unfoldable pub preview_tests : List ℕ → List ℤ → ℕ → List ℕ → Store → Answer MachineCode
preview_tests code memory D t store =
    unless whole_records code refuse 9 at 0 else
    and_then (table_tests t store) (λ n.
    machine_tests code memory D n)

-- "Reads back over a copy of that store": `run_machine` on a copy of the memory, and then `read_back`
unfoldable pub preview_machine : List ℕ → List ℤ → ℕ → List ℕ → Store → ℕ → Answer Ran × Store
preview_machine code memory D t store budget =
    let run = without_state (run_machine code memory D (named_in t) budget) in
    let back = read_back_call t run.1 D store in
    previewed (preview_tests code memory D t store) (run.0, back.1)
