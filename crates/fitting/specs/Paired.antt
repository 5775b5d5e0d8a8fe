-- The call `run_paired` (document 02, W6): code and a table tested against each other, and then loading, running and
-- reading back in one call. What is claimed of it stands below; the proof of the same spelling stands in proofs/.
use Rattle.std.specs.Prelude.{◌≡◌, ◌↔◌, ℕ, ◌+◌, ◌*◌, List, leb, ℤ, pos, length, take, replicate}
use Rattle.base.specs.Acts.{◌>>=◌}
use Rattle.base.specs.Answers.{Answer, gives, refused, unless◌refuse◌at◌else◌, and_then}
use Rattle.base.specs.Ends.{Ran}
use Rattle.base.specs.Rows.{Row, call, answered}
use Rattle.text.specs.Encoding.{Bytes}
use Rattle.text.specs.Sizes.{sized}
use Rattle.text.specs.declared.Sizes.{Sizes}
use Rattle.source.specs.Rules.{Store}
use Rattle.source.specs.Calls.{run_source}
use Rattle.record.specs.Records.{MachineCode}
use Rattle.record.specs.Bytes.{machine_kind, whole_records, records_of}
use Rattle.compile.specs.Table.{named_in, agrees}
use Rattle.compile.specs.Calls.{Compiled, compile}
use Rattle.compile.specs.Claims.{OneAssembly}
use Rattle.fitting.specs.Calls.{table_tests}
use Rattle.fitting.specs.Rows.{Lent, buffers, load_run_read}

-- ---- The call

-- Whole records with the n of their table: 10; 14, "after 12 and 10 and before 11, when they disagree"; 11, where D is
-- above 64. The record count, D and n
abbrev pub pair_tests : List ℕ → ℕ → ℕ → Answer Sizes
pair_tests code n D =
    and_then (records_of (machine_kind n) code) (λ P.
    unless agrees P n refuse 14 at 0 else
    unless leb D 64 refuse 11 at 0 else
    gives (sized (length P) D n))

-- Refusals: 9; those of a table and a store, 8, 12; those of the pair, 10, 14, 11
unfoldable pub paired_tests : List ℕ → List ℕ → Store → ℕ → Answer Sizes
paired_tests code t store D =
    unless whole_records code refuse 9 at 0 else
    and_then (table_tests t store) (λ n.
    pair_tests code n D)

-- as a call of a row
abbrev pub testing : ℕ → Row Lent Sizes
testing D l = call (paired_tests l.code l.table l.store D) l

-- "Loads, runs and reads back", whatever the run's end, on a memory of its own, D + 1 + n cells. The end, the count and
-- the mark; the store as it is left
unfoldable pub run_paired : List ℕ → List ℕ → Store → ℕ → ℕ → Answer Ran × Store
run_paired code t store D budget =
    let own = replicate (D + 1 + named_in t) (pos 0) in
    let r = answered ((do z ← testing D; load_run_read z budget) (buffers code t own store)) in
    (r.0, r.1.store)

-- ---- What is claimed of it

-- What the memory holds makes no difference: once the tests are passed, it gives and leaves what `load`, `run_machine`
-- and `read_back` in a row give and leave on any memory of D + 1 + n cells; and none of the three declines.
pub record OnAnyMemory (code t : List ℕ) (store : Store) (D : ℕ) (z : Sizes) (budget : ℕ) (memory : List ℤ)
    : Type 0 where
  pub tell : Ran
  pub leave : Lent
  pub in_a_row : answered (load_run_read z budget (buffers code t memory store)) ≡ (gives tell, leave)
  pub in_one_call : run_paired code t store D budget ≡ (gives tell, leave.store)

abbrev pub AnyMemory : Type 0
AnyMemory = (code t : List ℕ) (store : Store) (D : ℕ) (z : Sizes) → paired_tests code t store D ≡ gives z
    → (budget : ℕ) (memory : List ℤ) → length memory ≡ D + 1 + z.cells
    → OnAnyMemory code t store D z budget memory

-- It declines exactly where its tests do, with their number and place, and then leaves the store as it was.
abbrev pub PairedRefusals : Type 0
PairedRefusals = (code t : List ℕ) (store s : Store) (D budget number place : ℕ)
    → (run_paired code t store D budget ≡ (refused number place, s))
    ↔ ((paired_tests code t store D ≡ refused number place) × (s ≡ store))

-- What passes the tests is what the published translation makes of one assembly, the one that code and table go back
-- to.
abbrev pub PassingPairs : Type 0
PassingPairs = (code t : List ℕ) (store : Store) (D : ℕ) (z : Sizes) → paired_tests code t store D ≡ gives z
    → (P : MachineCode) × (records_of (machine_kind z.cells) code ≡ gives P) × OneAssembly t P

-- Code, a table and D "by our compiler": what `compile` wrote of a text, and the D that it gave
pub record ByCompiler (text code t : List ℕ) (D : ℕ) : Type 0 where
  pub bytes : Bytes text
  pub lent : Compiled
  pub written : Compiled
  pub sizes : Sizes
  pub compiles : compile text lent ≡ (gives sizes, written)
  pub code_is : code ≡ take (5 * sizes.records) written.code
  pub table_is : t ≡ written.table
  pub depth_is : D ≡ sizes.depth

-- "A pairing by our compiler always passes": with any store of 64 cells the tests give what `compile` gave.
abbrev pub PairingsPass : Type 0
PairingsPass = (text code t : List ℕ) (D : ℕ) (pair : ByCompiler text code t D) (store : Store) → length store ≡ 64
    → paired_tests code t store D ≡ gives pair.sizes

-- Demand 3 in one call: on what `compile` wrote of a text it gives what the source run of that text gives, and leaves
-- the same 64 cells, from every store, under every budget. (With a store of another length both decline with 8.)
abbrev pub PairedFitted : Type 0
PairedFitted = (text code t : List ℕ) (D : ℕ) → ByCompiler text code t D → (store : Store) (budget : ℕ)
    → run_paired code t store D budget ≡ run_source text store budget
