-- Translating: once the table is made, renaming by its entries is the published translation, since the entry of each
-- variable that a record names is its address.
use mathlib.Core.Path.{◌≡◌, ap, ◌∙◌}
use mathlib.Core.List.{List}
use Prim.Native.Nat.{ℕ, ◌<◌}
use native.Mathlib.Omega.{arith}
use lib.ListN.{length, get_or}
use borrow.Author.Tests.{leb-true}
use Rattle.record.specs.Records.{AssemblyCode, address}
use Rattle.record.specs.Bytes.{assembly_kind}
use Rattle.record.specs.Claims.{NameFits}
use Rattle.record_test.specs.Code.{kind_of, assembly_numbers, machine_numbers}
use Rattle.record.specs.declared.Variable.{Variable}
use Rattle.record_test.proofs.Testing.{assembly_same, machine_same}
use Rattle.compile.specs.Table.{vars, addr_of}
use Rattle.compile.proofs.Entries.{length_entries, table_at}
use Rattle.compile_translation.specs.Standing.{Stands, Holds, Renamed}
use Rattle.compile_translation.specs.Translated.{Numbered, Translated}
use Rattle.compile_translation.proofs.Numbers.{plainly, renamed}

module _ {P : AssemblyCode} {n : ℕ} {t : List ℕ} (x : Numbered P n t) where
  long : length t ≡ 64
  long = ap length x.table_is ∙ length_entries (vars P) 0 64

  -- An entry is the address.
  entry : (v : Variable) → NameFits assembly_kind v → get_or t v.0 0 ≡ addr_of (vars P) v.0
  entry v f =
      let small : v.0 < 64 = omega (arith, leb-true v.0 63 f.0) in
      ap (λ (l : List ℕ). get_or l v.0 0) x.table_is ∙ table_at P v.0 small

  module _ {lent : List ℕ} {count : ℕ} {code : List ℕ} (s : Stands assembly_kind P lent count code) where
    pub still_holds : Holds (kind_of assembly_numbers) count code
    still_holds = (_, (lent, plainly assembly_same s))

    pub translated : {now : List ℕ} → Renamed assembly_numbers (machine_numbers n) t count code now
        → Translated P lent n t now
    translated e = record {
      cells = x.cells;
      table_is = x.table_is;
      stand = renamed assembly_same (machine_same n) t (λ v. address (addr_of (vars P) v.0)) entry s e;
    }
