-- Going back: once the output holds a copy of the code, renaming by the inverse of the table is the way back, since the
-- inverse holds the variable of each address.
use mathlib.Core.Path.{◌≡◌, sym, ap, ◌∙◌}
use mathlib.Core.List.{List}
use Prim.Native.Nat.{ℕ, ◌≤◌, ◌<◌}
use native.Mathlib.Omega.{arith}
use lib.Dec.{leb}
use lib.ListN.{length, get_or}
use mir.Syntax.{w8}
use mir.Val.{Fits}
use borrow.Author.Tests.{leb-true}
use Rattle.base.specs.Answers.{gives}
use Rattle.base.proofs.Settled.{both, settled}
use Rattle.record.specs.Records.{variable}
use Rattle.record.specs.Bytes.{machine_kind, over, record_count}
use Rattle.record.specs.Claims.{NameFits}
use Rattle.record_test.specs.Code.{kind_of, assembly_numbers, machine_numbers}
use Rattle.record.specs.declared.Address.{Address}
use Rattle.record_test.proofs.Testing.{assembly_same, machine_same}
use Rattle.compile.specs.Calls.{go_back}
use Rattle.compile.specs.Table.{variable_at}
use Rattle.compile_translation.specs.Standing.{Stands, Holds, Renamed, Renames}
use Rattle.compile_translation.proofs.Numbers.{plainly, renamed}
use Rattle.compile_back.specs.Steps.{inverse}
use Rattle.compile_back.proofs.Finding.{length_inverse, inverse_at}
use Rattle.compile_back.proofs.Tests.{Passed, copied}

-- The tests have passed, the inverse is made and the code is copied
pub record Copied (code t out : List ℕ) (n : ℕ) (names now : List ℕ) : Type 0 where
  pub tests : Passed code t out n
  pub bytes : (i : ℕ) → get_or code i 0 < 256
  pub names_are : names ≡ inverse t 0 65
  pub copy_is : now ≡ over code out

pub made : {code t out : List ℕ} {n : ℕ} {names now : List ℕ} → Passed code t out n
    → ((i : ℕ) → Fits w8 (get_or code i 0)) → names ≡ inverse t 0 65 → now ≡ over code out
    → Copied code t out n names now
made p f e c = record { tests = p; bytes = λ i. (f i).fits; names_are = e; copy_is = c }

module _ {code t out : List ℕ} {n : ℕ} {names now : List ℕ} (c : Copied code t out n names now) where
  long : length names ≡ 65
  long = ap length c.names_are ∙ length_inverse t 0 65

  -- The inverse serves for the addresses,
  pub back_renames : Renames (machine_numbers n) assembly_numbers names
  back_renames =
      record { inside = omega (arith, long, c.tests.few); few = omega (arith, long); byte = omega arith }

  -- and holds the variable of each.
  name : (a : Address) → NameFits (machine_kind n) a → get_or names a.0 0 ≡ variable_at t 0 a.0
  name a f =
      let most : a.0 ≤ n = leb-true a.0 n (both (leb 1 a.0) (leb a.0 n) f.0).1 in
      ap (λ (l : List ℕ). get_or l a.0 0) c.names_are ∙ inverse_at t 65 a.0 (omega (arith, c.tests.few))

  stands : Stands (machine_kind n) c.tests.records out (record_count code) now
  stands = rw c.copy_is (copied c.tests c.bytes)

  pub back_holds : Holds (kind_of (machine_numbers n)) (record_count code) now
  back_holds = (_, (out, plainly (machine_same n) stands))

  -- The call gives the record count and leaves the assembly.
  pub gone_back : {left : List ℕ} → Renamed (machine_numbers n) assembly_numbers names (record_count code) now left
      → (gives (record_count code), left) ≡ go_back code t out
  unfolding go_back
  gone_back {left} e =
      ap (λ (m : ℕ). (gives m, left)) (sym c.tests.size)
      ∙ settled _ _ _ _ c.tests.given
      (renamed (machine_same n) assembly_same names (λ a. variable (variable_at t 0 a.0)) name stands e)
