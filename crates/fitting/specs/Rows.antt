-- Calls in a row (document 01, "Executors"), with every lent buffer as it is left: demand 3's four calls, the preview
-- of what was compiled and loaded (document 02, W3), and two rows of two calls. A call that declines ends the row; what
-- the calls before it wrote stays.
use Rattle.std.specs.Prelude.{ℕ, ◌*◌, List, ℤ, take}
use Rattle.base.specs.Acts.{◌>>=◌, ◌>>◌, give}
use Rattle.base.specs.Answers.{Answer, gives, and_then}
use Rattle.base.specs.Ends.{Ran}
use Rattle.base.specs.Rows.{Row, call, answered}
use Rattle.text.specs.declared.Sizes.{Sizes}
use Rattle.source.specs.Rules.{Store}
use Rattle.machine.specs.Memories.{Assembly}
use Rattle.machine.specs.Calls.{run_assembly, run_machine, without_state}
use Rattle.compile.specs.Calls.{Compiled, assemble, compile, go_back}
use Rattle.fitting.specs.Calls.{load, read_back_call, preview_machine}

-- ---- The four calls

pub record Lent : Type 0 where
  pub code : List ℕ
  pub table : List ℕ
  pub memory : List ℤ
  pub store : Store

abbrev pub buffers : List ℕ → List ℕ → List ℤ → Store → Lent
buffers code t memory store = record { code = code; table = t; memory = memory; store = store }

-- "compiling"
abbrev pub compiling : List ℕ → Row Lent Sizes
compiling text l =
    let r = compile text (record { code = l.code; table = l.table }) in
    call r.0 (buffers r.1.code r.1.table l.memory l.store)

-- "loading, whatever the memory held"
abbrev pub loading : Sizes → Row Lent ℕ
loading z l =
    let r = load l.table l.store z.depth l.memory in
    call r.0 (buffers l.code l.table r.1 l.store)

-- "running, from a fresh machine, the records written"; a spent run's state is not kept
abbrev pub running : Sizes → ℕ → Row Lent Ran
running z budget l =
    let r = without_state (run_machine (take (5 * z.records) l.code) l.memory z.depth z.cells budget) in
    call r.0 (buffers l.code l.table r.1 l.store)

-- "reading back into the starting store"
abbrev pub reading_back : Sizes → Row Lent ℕ
reading_back z l =
    let r = read_back_call l.table l.memory z.depth l.store in
    call r.0 (buffers l.code l.table l.memory r.1)

-- the last three
abbrev pub load_run_read : Sizes → ℕ → Row Lent Ran
load_run_read z budget = do loading z; ran ← running z budget; reading_back z; give ran

-- "Each gets what those before it returned or left, D and n from compiling among it"
unfoldable pub fit : List ℕ → Lent → ℕ → Answer Ran × Lent
fit text l budget = answered ((do z ← compiling text; load_run_read z budget) l)

-- What demand 3 speaks of: the run's end, count and mark and the store read back; or the first refusal
unfoldable pub four_calls : List ℕ → Compiled → List ℤ → Store → ℕ → Answer (Ran × Store)
four_calls text l memory store budget =
    let r = fit text (buffers l.code l.table memory store) budget in
    and_then r.0 (λ ran. gives (ran, r.1.store))

-- ---- Compiling, loading, and a preview in place of the run

-- "for the loaded machine", with "the table and the store that was loaded"; nothing that is lent changes
abbrev pub previewing : Sizes → ℕ → Row Lent (Ran × Store)
previewing z budget l =
    let code = take (5 * z.records) l.code in
    let r = preview_machine code l.memory z.depth l.table l.store budget in
    call (and_then r.0 (λ ran. gives (ran, r.1))) l

unfoldable pub load_and_preview : List ℕ → Lent → ℕ → Answer (Ran × Store) × Lent
load_and_preview text l budget = answered ((do z ← compiling text; loading z; previewing z budget) l)

-- ---- Assembling, and running the records written

pub record AssemblyLent : Type 0 where
  pub code : List ℕ
  pub memory : Assembly

abbrev pub assembly_buffers : List ℕ → Assembly → AssemblyLent
assembly_buffers code m = record { code = code; memory = m }

abbrev pub assembling : List ℕ → Row AssemblyLent Sizes
assembling text l = let r = assemble text l.code in call r.0 (assembly_buffers r.1 l.memory)

abbrev pub running_assembly : Sizes → ℕ → Row AssemblyLent Ran
running_assembly z budget l =
    let r = run_assembly (take (5 * z.records) l.code) l.memory budget in
    call r.0 (assembly_buffers l.code r.1)

unfoldable pub assemble_and_run : List ℕ → AssemblyLent → ℕ → Answer Ran × AssemblyLent
assemble_and_run text l budget = answered ((do z ← assembling text; running_assembly z budget) l)

-- ---- Compiling, and going back from the records and the table written

pub record BackLent : Type 0 where
  pub code : List ℕ
  pub table : List ℕ
  pub out : List ℕ

abbrev pub back_buffers : List ℕ → List ℕ → List ℕ → BackLent
back_buffers code t out = record { code = code; table = t; out = out }

abbrev pub compiling_first : List ℕ → Row BackLent Sizes
compiling_first text l =
    let r = compile text (record { code = l.code; table = l.table }) in
    call r.0 (back_buffers r.1.code r.1.table l.out)

abbrev pub going_back : Sizes → Row BackLent ℕ
going_back z l =
    let r = go_back (take (5 * z.records) l.code) l.table l.out in
    call r.0 (back_buffers l.code l.table r.1)

unfoldable pub compile_and_go_back : List ℕ → BackLent → Answer ℕ × BackLent
compile_and_go_back text l = answered ((do z ← compiling_first text; going_back z) l)
