-- What the tests of a table and a store say; and the preview of a loaded machine: what its tests say, one after the
-- other, and what it comes to where they are passed.
use mathlib.Core.Path.{◌≡◌, refl, sym, ◌∙◌, ap}
use Prim.Native.Nat.{ℕ, ◌+◌, ◌≤◌}
use native.Mathlib.Omega.{arith}
use mathlib.Core.Bool.{true, ◌&&◌}
use mathlib.Core.List.{List}
use lib.Dec.{eqb}
use lib.IntN.{ℤ}
use lib.ListN.{length}
use borrow.Author.Tests.{eq-eqb, eqb-true, le-leb}
use Rattle.base.specs.Answers.{Answer, gives, and_then}
use Rattle.base.specs.Ends.{Ran}
use Rattle.base.proofs.Answers.{gives_one}
use Rattle.base.proofs.Settled.{unless_passed, needed, both, settled, preview_made}
use Rattle.source.specs.Rules.{Store}
use Rattle.record.specs.Records.{MachineCode}
use Rattle.record.specs.Bytes.{whole_records}
use Rattle.machine.specs.Calls.{machine_tests, machine_run, run_machine, without_state}
use Rattle.machine.proofs.Calls.{machine_passed, machine_runs, keeps_length}
use Rattle.compile.specs.Table.{named_in, is_table}
use Rattle.fitting.specs.Loading.{read_back}
use Rattle.fitting.specs.Calls.{table_tests, pod_tests, read_back_call, preview_tests, preview_machine}

-- ---- A table and a store

-- A table of 64 bytes that passes and names n variables, and 64 cells
pub record Tabled (t : List ℕ) (store : Store) (n : ℕ) : Type 0 where
  pub bytes : length t ≡ 64
  pub cells : length store ≡ 64
  pub passes : is_table t ≡ true
  pub count : n ≡ named_in t

-- Where their tests give n
pub tabled : (t : List ℕ) (store : Store) {n : ℕ} → table_tests t store ≡ gives n → Tabled t store n
unfolding table_tests
tabled t store e =
    let sized = unless_passed (eqb (length t) 64 && eqb (length store) 64) 8 0 _ e in
    let table = unless_passed (is_table t) 12 0 _ sized.1 in
    let sizes = both (eqb (length t) 64) (eqb (length store) 64) sized.0 in
    record {
      bytes = eqb-true (length t) 64 sizes.0;
      cells = eqb-true (length store) 64 sizes.1;
      passes = table.0;
      count = sym (gives_one _ _ table.1);
    }

-- It is the table's, and at most 64.
pub names_own : (t : List ℕ) (store : Store) {n : ℕ} → table_tests t store ≡ gives n → n ≡ named_in t
names_own t store e = (tabled t store e).count

pub names_few : (t : List ℕ) (store : Store) {n : ℕ} → table_tests t store ≡ gives n → n ≤ 64
names_few t store e = let x = tabled t store e in omega (arith, x.bytes, x.count)

-- ---- The preview of a loaded machine

module _ (code : List ℕ) (memory : List ℤ) (D : ℕ) (t : List ℕ) (store : Store) where
  abbrev n : ℕ
  n = named_in t

  -- ---- The tests

  pub record PreviewPassed (P : MachineCode) : Type 0 where
    pub names : table_tests t store ≡ gives n
    pub records : machine_tests code memory D n ≡ gives P

  pub preview_passed : {P : MachineCode} → preview_tests code memory D t store ≡ gives P → PreviewPassed P
  unfolding preview_tests
  preview_passed e =
      let w = unless_passed (whole_records code) 9 0 _ e in
      let x = needed (table_tests t store) _ w.1 in
      let own = names_own t store x.given in
      record {
        names = x.given ∙ ap gives own;
        records = ap (machine_tests code memory D) (sym own) ∙ x.then_gives;
      }

  module _ {P : MachineCode} (p : PreviewPassed P) where
    -- passed, the other way
    is_whole : whole_records code ≡ true
    unfolding machine_tests
    is_whole = (unless_passed (whole_records code) 9 0 _ p.records).0

    pub passes_preview : preview_tests code memory D t store ≡ gives P
    unfolding preview_tests and_then
    passes_preview = rw (is_whole, p.names) p.records

    -- any memory as long is one to read back from
    pub pod_passed : (m : List ℤ) → length m ≡ length memory → pod_tests t store D m ≡ gives n
    unfolding pod_tests and_then
    pod_passed m same =
        let f = machine_passed code memory D n p.records refl in
        rw p.names (simp (
          le-leb D 64 f.deep,
          le-leb n 64 f.small,
          eq-eqb (length m) (D + 1 + n) (same ∙ f.cells_are),
        ))

    -- ---- The run on a copy of the memory, and reading back over a copy of the store

    module _ (budget : ℕ) {a : Answer Ran} {m : List ℤ}
        (ran : (a, m) ≡ without_state (run_machine code memory D n budget)) where
      pub reads_back : (gives n, read_back t D store m) ≡ read_back_call t m D store
      unfolding read_back_call
      reads_back =
          let left : m ≡ (machine_run P memory D budget).leaves.memory =
          ap (λ x. x.1) (ran ∙ sym (machine_runs code memory D n budget p.records)) in
          settled (pod_tests t store D m) _ _ store
          (pod_passed m (ap length left ∙ keeps_length P memory D budget)) refl

      pub previews : (a, read_back t D store m) ≡ preview_machine code memory D t store budget
      unfolding preview_machine
      previews =
          (λ i. (a, (reads_back i).1))
          ∙ (λ i. ((ran i).0, (read_back_call t (ran i).1 D store).1))
          ∙ preview_made (preview_tests code memory D t store) _ passes_preview
