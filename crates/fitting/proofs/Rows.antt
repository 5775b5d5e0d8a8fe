-- The last three of the four calls in a row, of what passes their tests: none declines (`three_calls`). So it is of all
-- four, of a command within the limits and buffers of the right lengths: what they give and leave is the run of the
-- machine code on the loaded memory, read back. A preview in place of the last two gives the same, and leaves the
-- memory as it was loaded.
use mathlib.Core.Path.{◌≡◌, refl, sym, ◌∙◌, ap}
use Prim.Native.Nat.{ℕ, ◌+◌, ◌*◌, ◌≤◌}
use native.Mathlib.Omega.{arith}
use mathlib.Core.Bool.{true}
use mathlib.Core.List.{List}
use lib.IntN.{ℤ}
use lib.ListN.{length, take}
use borrow.Author.Tests.{eq-eqb, le-leb}
use Rattle.base.specs.Acts.{give}
use Rattle.base.specs.Answers.{Answer, gives, and_then, settle}
use Rattle.base.specs.Rows.{call, answered}
use Rattle.base.specs.Ends.{Result, Ran, report}
use Rattle.base.proofs.Rows.{goes_on}
use Rattle.text.specs.Syntax.{Command}
use Rattle.text.specs.Reading.{read_text}
use Rattle.text.specs.Encoding.{Valid, Within}
use Rattle.text.specs.Sizes.{records, depth, cells, sized}
use Rattle.text.proofs.Limits.{short, shallow, few}
use Rattle.source.specs.Rules.{Store}
use Rattle.record.specs.Records.{MachineCode}
use Rattle.record.specs.Bytes.{machine_kind, over}
use Rattle.record.proofs.Written.{whole_written, written}
use Rattle.machine.specs.Machine.{Machine}
use Rattle.machine.specs.Calls.{memory_fits, machine_tests, machine_run, run_machine, without_state}
use Rattle.machine.proofs.Calls.{machine_passed, machine_runs, keeps_length}
use Rattle.compile.specs.Compilation.{ccomp}
use Rattle.compile.specs.Table.{to_m_prog, table}
use Rattle.compile.specs.Calls.{machine_bytes, Compiled}
use Rattle.compile.proofs.Tables.{tables, named_variables}
use Rattle.compile.proofs.Codes.{codes}
use Rattle.compile.proofs.Calls.{compiled, machine_count, machine_length, taken_over}
use Rattle.fitting.specs.Loading.{loaded, read_back}
use Rattle.fitting.specs.Calls.{table_tests, pod_tests, load, read_back_call, preview_machine}
use Rattle.fitting.specs.Rows.{Lent, buffers, load_run_read, fit, four_calls, load_and_preview}
use Rattle.fitting.specs.Demand3.{Ready}
use Rattle.fitting.proofs.Loading.{length_loaded}
use Rattle.fitting.proofs.Calls.{previews}

-- ---- Loading, running and reading back, of a table, a store and code that pass their tests: none declines.

module _ (code t : List ℕ) (memory : List ℤ) (store : Store) (k D n budget : ℕ) {P : MachineCode}
    (names : table_tests t store ≡ gives n)
    (records_are : machine_tests (take (5 * k) code) (loaded t D n store) D n ≡ gives P)
    (long : length memory ≡ D + 1 + n) where
  abbrev pub ran_of : Result (Machine (List ℤ))
  ran_of = machine_run P (loaded t D n store) D budget

  pod_passes : (m : List ℤ) → length m ≡ D + 1 + n → pod_tests t store D m ≡ gives n
  unfolding pod_tests and_then
  pod_passes m h =
      let f = machine_passed (take (5 * k) code) (loaded t D n store) D n records_are refl in
      rw names (simp (le-leb D 64 f.deep, le-leb n 64 f.small, eq-eqb (length m) (D + 1 + n) h))

  loads : load t store D memory ≡ (gives n, loaded t D n store)
  unfolding load settle
  loads = simp (pod_passes memory long)

  -- a run keeps the memory's length
  left_length : length ran_of.leaves.memory ≡ D + 1 + n
  left_length = keeps_length P (loaded t D n store) D budget ∙ length_loaded t D n store

  reads : read_back_call t ran_of.leaves.memory D store ≡ (gives n, read_back t D store ran_of.leaves.memory)
  unfolding read_back_call settle
  reads = simp (pod_passes ran_of.leaves.memory left_length)

  abbrev left_of : Lent
  left_of = buffers code t ran_of.leaves.memory (read_back t D store ran_of.leaves.memory)

  pub three_calls :
      (gives (report budget ran_of), left_of)
      ≡ answered (load_run_read (sized k D n) budget (buffers code t memory store))
  unfolding give answered
  three_calls =
      goes_on (λ m. buffers code t m store) _ (sym loads) refl
      (goes_on (λ m. buffers code t m store) _
      (machine_runs (take (5 * k) code) (loaded t D n store) D n budget records_are) refl
      (goes_on (buffers code t ran_of.leaves.memory) _ (sym reads) refl refl))

-- ---- The four calls

-- The table of a command passes, with any store of 64 cells.
pub table_passes : (c : Command) → Valid c → (store : Store) → length store ≡ 64
    → table_tests (table (ccomp c)) store ≡ gives (cells c)
unfolding table_tests
table_passes c h store long = rw (tables c h).passes (simp (
  eq-eqb (length (table (ccomp c))) 64 (tables c h).long,
  eq-eqb (length store) 64 long,
  (named_variables c h).in_table,
))

module _ (text : List ℕ) (c : Command) (read : read_text text ≡ gives c) (w : Within c)
    (lent : Compiled) (memory : List ℤ) (store : Store) (ready : Ready c lent memory store) (budget : ℕ) where
  abbrev P : MachineCode
  P = to_m_prog (ccomp c)

  abbrev t : List ℕ
  t = table (ccomp c)

  abbrev D : ℕ
  D = depth c

  abbrev n : ℕ
  n = cells c

  few_records : records c ≤ 4096
  few_records = omega (arith, short c, w.short)

  table_tested : table_tests t store ≡ gives n
  table_tested = table_passes c w.valid store ready.store_cells

  abbrev ready_memory : List ℤ
  ready_memory = loaded t D n store

  fits : memory_fits D n ready_memory ≡ true
  fits = simp (
    le-leb D 64 (omega (arith, shallow c w.nested)),
    le-leb n 64 (few c),
    eq-eqb (length ready_memory) (D + 1 + n) (length_loaded t D n store),
  )

  tested : machine_tests (machine_bytes c) ready_memory D n ≡ gives P
  unfolding machine_tests and_then
  tested = simp (
    whole_written (machine_kind n) P (omega (arith, machine_count c, few_records)),
    written.in_machine n P (codes c w.valid few_records).in_machine,
    fits,
  )

  -- what was written, in the output as it is left
  abbrev out : List ℕ
  out = over (machine_bytes c) lent.code

  is_written : take (5 * records c) out ≡ machine_bytes c
  is_written = taken_over (machine_bytes c) lent.code (5 * records c) (machine_length c)

  tested_written : machine_tests (take (5 * records c) out) ready_memory D n ≡ gives P
  tested_written = ap (λ code. machine_tests code ready_memory D n) is_written ∙ tested

  abbrev ran : Result (Machine (List ℤ))
  ran = machine_run P ready_memory D budget

  pub same_length : length ran.leaves.memory ≡ D + 1 + n
  same_length = left_length out t memory store (records c) D n budget table_tested tested_written ready.memory_cells

  -- ---- in a row
  abbrev with_memory : List ℤ → Lent
  with_memory m = buffers out t m store

  abbrev left : Lent
  left = buffers out t ran.leaves.memory (read_back t D store ran.leaves.memory)

  pub whole_row : fit text (buffers lent.code lent.table memory store) budget ≡ (gives (report budget ran), left)
  unfolding fit
  whole_row =
      sym
      (goes_on (λ l. buffers l.code l.table memory store) _
      (sym (compiled text lent read ready.table_bytes ready.output)) refl
      (three_calls out t memory store (records c) D n budget table_tested tested_written ready.memory_cells))

  pub in_a_row : four_calls text lent memory store budget
      ≡ gives (report budget ran, read_back t D store ran.leaves.memory)
  unfolding four_calls and_then
  in_a_row = ap (λ (r : Answer Ran × Lent). and_then r.0 (λ ran. gives (ran, r.1.store))) whole_row

  -- ---- with a preview
  preview_written :
      (gives (report budget ran), read_back t D store ran.leaves.memory)
      ≡ preview_machine (take (5 * records c) out) ready_memory D t store budget
  preview_written =
      let own = (named_variables c w.valid).in_table in
      previews (take (5 * records c) out) ready_memory D t store
      (record {
        names = table_tested ∙ ap gives (sym own);
        records = ap (machine_tests (take (5 * records c) out) ready_memory D) own ∙ tested_written;
      })
      budget
      (machine_runs (take (5 * records c) out) ready_memory D n budget tested_written
      ∙ ap (λ k. without_state (run_machine (take (5 * records c) out) ready_memory D k budget)) (sym own))

  pub preview_row : load_and_preview text (buffers lent.code lent.table memory store) budget
      ≡ (gives (report budget ran, read_back t D store ran.leaves.memory), with_memory ready_memory)
  unfolding load_and_preview and_then call answered
  preview_row =
      sym
      (goes_on (λ l. buffers l.code l.table memory store) _
      (sym (compiled text lent read ready.table_bytes ready.output)) refl
      (goes_on with_memory _
      (sym (loads out t memory store (records c) D n budget table_tested tested_written ready.memory_cells)) refl
      (ap (λ (r : Answer Ran × Store). answered
      (call (and_then r.0 (λ ran. gives (ran, r.1))) (with_memory ready_memory))) preview_written)))
