-- Loading, running and reading back of what passed the tests: what the parts of it ask.
use mathlib.Core.Path.{◌≡◌, refl, sym, ap, ◌∙◌}
use Prim.Native.Nat.{ℕ, zero, suc, ◌+◌, ◌≤◌}
use native.Mathlib.Omega.{arith}
use mathlib.Core.List.{List, ◌∷◌}
use lib.IntN.{ℤ, pos}
use lib.ListN.{length, take, replicate, length-replicate}
use Rattle.base.specs.Answers.{Answer, gives, and_then}
use Rattle.base.specs.Ends.{Ran}
use Rattle.text.specs.declared.Sizes.{Sizes}
use Rattle.source.specs.Rules.{Store}
use Rattle.machine.specs.Calls.{machine_tests, run_machine, without_state}
use Rattle.machine.proofs.Calls.{number_given}
use Rattle.compile.specs.Table.{named_in}
use Rattle.fitting.specs.Loading.{fill, loaded, read_back}
use Rattle.fitting.specs.Paired.{paired_tests, run_paired}
use Rattle.fitting.proofs.Calls.{tabled, names_few}
use Rattle.fitting.proofs.Paired.{PairFound, pair_found, finds_records, pair_runs_by}
use Rattle.fitting_load.specs.Fits.{Fits}
use Rattle.fitting_load.proofs.Tests as Load

-- The first k of m zeros
pub zeros_taken : (k m : ℕ) → k ≤ m → take k (replicate m (pos 0)) ≡ replicate k (pos 0)
zeros_taken zero m l = refl
zeros_taken (suc k) zero l = absurd (omega arith)
zeros_taken (suc k) (suc m) l = ap (λ (xs : List ℤ). pos 0 ∷ xs) (zeros_taken k m (omega arith))

pub zeros_long : (k m : ℕ) → k ≤ m → k ≡ length (take k (replicate m (pos 0)))
zeros_long k m l = sym (ap length (zeros_taken k m l) ∙ length-replicate k (pos 0))

-- ---- What the tests gave

module _ (code t : List ℕ) (store : Store) (D : ℕ) {z : Sizes} (tested : paired_tests code t store D ≡ gives z) where
  -- its D is the one that is given,
  pub own_depth : z.depth ≡ D
  own_depth = ap (λ (z : Sizes). z.depth) (pair_found code t store D tested).sizes_are

  pub passes_own : paired_tests code t store z.depth ≡ gives z
  passes_own = ap (paired_tests code t store) own_depth ∙ tested

  -- and 129 cells are enough.
  pub room : z.depth + 1 + z.cells ≤ 129
  room =
      let f = pair_found code t store D tested in
      omega (arith, f.deep, own_depth, ap (λ (z : Sizes). z.cells) f.sizes_are, names_few t store f.names)

-- ---- On a memory of zeros

module _ (code t : List ℕ) (store : Store) (z : Sizes) (tested : paired_tests code t store z.depth ≡ gives z) where
  abbrev D : ℕ
  D = z.depth

  found : PairFound code t store D z
  found = pair_found code t store D tested

  -- the table's n, and the records' number
  own_cells : z.cells ≡ named_in t
  own_cells = ap (λ (z : Sizes). z.cells) found.sizes_are

  own_records : z.records ≡ length found.records
  own_records = ap (λ (z : Sizes). z.records) found.sizes_are

  module _ {memory : List ℤ} (zeros : memory ≡ replicate (D + 1 + z.cells) (pos 0)) where
    long : length memory ≡ D + 1 + named_in t
    long = ap length zeros ∙ length-replicate (D + 1 + z.cells) (pos 0) ∙ ap (λ k. D + 1 + k) own_cells

    passed : Load.Passed t store D memory (named_in t)
    passed = record { tables = tabled t store found.names; deep = found.deep; room = long }

    -- loading and reading back have room, in any memory as long
    pub fits : {cells : List ℤ} → length cells ≡ length memory → Fits t store D cells
    fits e = Load.fits passed e

    module _ {filled : List ℤ} (e : filled ≡ fill t D store memory) where
      is_loaded : filled ≡ loaded t D (named_in t) store
      is_loaded =
          let size : length memory ≡ D + 1 + z.cells = ap length zeros ∙ length-replicate (D + 1 + z.cells) (pos 0) in
          Load.loads passed (zeros ∙ ap (λ k. replicate k (pos 0)) (sym size)) e

      -- the tests of the loaded memory give the number of records
      pub runs_tested : number_given (machine_tests code filled D (named_in t)) ≡ gives z.records
      unfolding and_then
      runs_tested =
          ap (λ m. number_given (machine_tests code m D (named_in t))) is_loaded
          ∙ ap number_given (finds_records code t store D found)
          ∙ ap gives (sym own_records)

      -- and what is read back from its run is the call's
      pub read_back_is : (budget : ℕ) {a : Answer Ran} {m : List ℤ} {left : Store}
          → (a, m) ≡ without_state (run_machine code filled D (named_in t) budget) → left ≡ read_back t D store m
          → (a, left) ≡ run_paired code t store D budget
      read_back_is budget {a} f g =
          ap (λ left. (a, left)) g
          ∙ pair_runs_by code t store D budget found
          (f ∙ ap (λ m. without_state (run_machine code m D (named_in t) budget)) is_loaded)
