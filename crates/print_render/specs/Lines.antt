-- The lines of a text that was accepted and run, from what its calls gave and left.
use Rattle.std.specs.Prelude.{ℕ, List, ◌++◌, ℤ}
use Rattle.base.specs.Ends.{End}
use Rattle.text.specs.declared.Sizes.{Sizes}
use Rattle.record.specs.Records.{AssemblyCode, MachineCode}
use Rattle.print.specs.Printing.{first_line, record_lines, run_line, value_lines}
use Rattle.print_records.specs.Lines.{Codes}

abbrev pub lines : Sizes → AssemblyCode → MachineCode → End → ℕ → List ℕ → List ℤ → List ℕ
lines z P Q e count t s = first_line z ++ (record_lines 0 P Q ++ (run_line e count ++ value_lines t s 0 64))

-- Both codes are records, `count` of them
pub record SomeCodes (assembly machine : List ℕ) (count : ℕ) : Type 0 where
  pub n : ℕ
  pub P : AssemblyCode
  pub Q : MachineCode
  pub codes : Codes assembly machine count n P Q
