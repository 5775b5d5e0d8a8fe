-- The call `inspect` (document 02, W5).
use Rattle.std.specs.Prelude.{◌≡◌, ◌↔◌, ℕ, ◌&&◌, List, leb, length}
use Rattle.base.specs.Answers.{Answer, gives, refused, unless◌refuse◌at◌else◌, and_then}
use Rattle.record.specs.Records.{MachineCode}
use Rattle.record.specs.Bytes.{machine_kind, whole_records, records_of}
use Rattle.inspection.specs.Heights.{Passing}

-- Refusals before heights are looked for: 9, 10, 11 ("D or n above 64": no memory is lent)
unfoldable pub inspect_tests : List ℕ → ℕ → ℕ → Answer MachineCode
inspect_tests code D n =
    unless whole_records code refuse 9 at 0 else
    and_then (records_of (machine_kind n) code) (λ P.
    unless leb D 64 && leb n 64 refuse 11 at 0 else
    gives P)

-- What is answered of records that passed these tests. "It passes exactly when heights can be given": it gives the
-- number of records. "It refuses with 13 .., place 0, when no such heights exist"
pub record Judged (D : ℕ) (P : MachineCode) (answer : Answer ℕ) : Type 0 where
  pub passes : (answer ≡ gives (length P)) ↔ Passing D P
  pub refuses : (answer ≡ refused 13 0) ↔ (Passing D P → ⊥)

abbrev pub After : ℕ → Answer MachineCode → Answer ℕ → Type 0
After D (gives P) answer = Judged D P answer
After D (refused number place) answer = answer ≡ refused number place

-- What the call answers
abbrev pub Inspected : List ℕ → ℕ → ℕ → Answer ℕ → Type 0
Inspected code D n answer = After D (inspect_tests code D n) answer
