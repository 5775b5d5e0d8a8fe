-- The table and n are those of the records from i on, for whichever records stand in the code.
use Rattle.std.proofs.Common.{ℕ, List}
use Rattle.record.specs.Records.{AssemblyCode}
use Rattle.record.specs.Bytes.{assembly_kind}
use Rattle.compile_translation.specs.Standing.{Stands}
use Rattle.compile_translation.proofs.Numbering.{Stage}
use Rattle.compile_translation.proofs.number_variables.Given as goal

abbrev pub invariant-loop-i : goal.invariant-loop-i
invariant-loop-i l =
    (P : AssemblyCode) (lent : List ℕ) → Stands assembly_kind P lent l.count l.code → Stage P l.table l.n l.i
