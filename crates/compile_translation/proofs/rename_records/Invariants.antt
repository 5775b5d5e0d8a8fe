-- The records below i are renamed, for whichever records stand there.
use Rattle.std.proofs.Common.{ℕ, List}
use Rattle.record.specs.Records.{Record}
use Rattle.record_test.specs.Code.{kind_of}
use Rattle.compile_translation.specs.Standing.{Stands}
use Rattle.compile_translation.proofs.Rows.{Rows}
use Rattle.compile_translation.proofs.rename_records.Given as goal

abbrev pub invariant-loop-i : goal.invariant-loop-i
invariant-loop-i l =
    (P : List (Record ℕ)) (lent : List ℕ) → Stands (kind_of l.from) P lent l.count l.initial.code
    → Rows l.from l.to l.names P lent l.code l.i
