-- Compiling is assembling and then translating: what assembling leaves is what translating asks, and what translating
-- leaves is what compiling promises.
use mathlib.Core.Path.{◌≡◌, refl, ap, ◌∙◌}
use mathlib.Core.List.{List}
use Prim.Native.Nat.{ℕ, ◌≤◌}
use Rattle.text.specs.Syntax.{Command}
use Rattle.text.specs.Encoding.{Valid}
use Rattle.text.specs.Sizes.{records, cells}
use Rattle.record.specs.Bytes.{assembly_kind, machine_kind, code_bytes, over}
use Rattle.compile.specs.Calls.{machine_bytes}
use Rattle.compile.specs.Compilation.{ccomp}
use Rattle.compile.specs.Table.{to_m_prog, table}
use Rattle.compile.proofs.Codes.{codes}
use Rattle.compile.proofs.Sizes.{record_count}
use Rattle.compile.proofs.Tables.{named_variables}
use Rattle.compile_translation.specs.Standing.{Stands}
use Rattle.compile_translation.specs.Translated.{Translated}

module _ (c : Command) (valid : Valid c) where
  -- The assembly of a command, over what was lent
  pub assembled : records c ≤ 4096 → (lent : List ℕ)
      → Stands assembly_kind (ccomp c) lent (records c) (over (code_bytes assembly_kind (ccomp c)) lent)
  assembled few lent = record { stand = refl; fit = (codes c valid few).in_assembly; all = record_count c }

  -- n, the table and the machine code of a command
  pub compiled : {lent : List ℕ} {n : ℕ} {t code : List ℕ} → Translated (ccomp c) lent n t code
      → (n ≡ cells c) × (t ≡ table (ccomp c)) × (code ≡ over (machine_bytes c) lent)
  compiled {lent} x =
      let n_is = x.cells ∙ (named_variables c valid).in_records in (
        n_is,
        x.table_is,
        x.stand ∙ ap (λ (m : ℕ). over (code_bytes (machine_kind m) (to_m_prog (ccomp c))) lent) n_is,
      )
