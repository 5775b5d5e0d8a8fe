-- The tests of a call on machine code, over the call's own test for refusal 11.
use Rattle.std.specs.Prelude.{ℕ, Bool, List}
use Rattle.base.specs.Answers.{Answer, gives, unless◌refuse◌at◌else◌, and_then}
use Rattle.record.specs.Records.{MachineCode}
use Rattle.record.specs.Bytes.{machine_kind, whole_records, records_of}

-- Refusals: 9, 10, and 11 unless it `fits`
abbrev pub code_tests : List ℕ → ℕ → Bool → Answer MachineCode
code_tests code n fits =
    unless whole_records code refuse 9 at 0 else
    and_then (records_of (machine_kind n) code) (λ P.
    unless fits refuse 11 at 0 else
    gives P)
