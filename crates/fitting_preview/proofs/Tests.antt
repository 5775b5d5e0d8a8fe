-- The preview's tests: the answer to which each of the code's tests leads, and what holds where it is a number of
-- records.
use mathlib.Core.Path.{◌≡◌, refl, ap, ◌∙◌}
use Prim.Native.Nat.{ℕ, ◌≤◌}
use native.Mathlib.Omega.{arith}
use mathlib.Core.Bool.{true, false}
use mathlib.Core.List.{List}
use lib.IntN.{ℤ}
use lib.ListN.{length}
use Rattle.base.specs.Answers.{Answer, gives, refused, and_then}
use Rattle.base.proofs.Answers.{gives_one}
use Rattle.base.proofs.Settled.{needed}
use Rattle.source.specs.Rules.{Store}
use Rattle.record.specs.Records.{MachineCode}
use Rattle.record.specs.Bytes.{whole_records}
use Rattle.machine.specs.Calls.{machine_tests}
use Rattle.machine.proofs.Calls.{number_given, machine_passed}
use Rattle.compile.specs.Table.{named_in}
use Rattle.fitting.specs.Calls.{table_tests, preview_tests}
use Rattle.fitting.proofs.Calls.{tabled, PreviewPassed, preview_passed, pod_passed}
use Rattle.fitting_load.specs.Fits.{Fits}
use Rattle.fitting_load.proofs.Tests.{passed, fits}

module _ (code : List ℕ) (memory : List ℤ) (D : ℕ) (t : List ℕ) (store : Store) where
  -- the number of records that the tests give
  abbrev pub tests : Answer ℕ
  tests = number_given (preview_tests code memory D t store)

  pub not_whole : whole_records code ≡ false → refused 9 0 ≡ tests
  unfolding preview_tests and_then
  not_whole h = rw h

  module _ (whole : whole_records code ≡ true) where
    pub no_names : {number place : ℕ} → table_tests t store ≡ refused number place → refused number place ≡ tests
    unfolding preview_tests and_then
    no_names e = rw (whole, e)

    pub with_names : {n : ℕ} {x : Answer ℕ} → table_tests t store ≡ gives n
        → x ≡ number_given (machine_tests code memory D n) → x ≡ tests
    unfolding preview_tests and_then
    with_names e f = f ∙ rw (whole, e)

  -- Where they give `last`
  pub record Tested (last : ℕ) : Type 0 where
    pub records : MachineCode
    pub passes : PreviewPassed code memory D t store records
    pub all : length records ≡ last

  pub tested : {last : ℕ} → tests ≡ gives last → Tested last
  tested e =
      let x = needed (preview_tests code memory D t store) _ e in
      record {
        records = x.value;
        passes = preview_passed code memory D t store x.given;
        all = gives_one _ _ x.then_gives;
      }

  -- the machine's tests gave it too, of a copy of the memory; and there is room to read back from any memory as long
  pub in_copy : {last : ℕ} {copy : List ℤ} → Tested last → copy ≡ memory
      → number_given (machine_tests code copy D (named_in t)) ≡ gives last
  unfolding and_then
  in_copy x same =
      ap (λ m. number_given (machine_tests code m D (named_in t))) same
      ∙ ap number_given x.passes.records
      ∙ ap gives x.all

  pub room : {last : ℕ} {cells : List ℤ} → Tested last → length cells ≡ length memory → Fits t store D cells
  room x same = fits (passed t store D memory (pod_passed code memory D t store x.passes memory refl)) same

  -- the store has its 64 cells, and the memory no more than 129
  pub store_cells : {last : ℕ} → Tested last → length store ≡ 64
  store_cells x = (tabled t store x.passes.names).cells

  pub memory_cells : {last : ℕ} → Tested last → length memory ≤ 129
  memory_cells x =
      let f = machine_passed code memory D (named_in t) x.passes.records refl in
      omega (arith, f.deep, f.small, f.cells_are)
