-- What was written is read: record by record the records of the bytes of P are P's (Reading), so all of them are P.
use mathlib.Core.Path.{◌≡◌, sym, ap₂, ◌∙◌}
use mathlib.Core.Bool.{true, ◌&&◌}
use mathlib.Core.List.{List, [], ◌++◌, append-nil}
use Prim.Native.Nat.{ℕ, ◌%◌, ◌≤◌}
use native.Mathlib.Nat.{zero-add}
use native.Mathlib.Omega.{arith}
use lib.ListN.{length}
use borrow.Author.Tests.{eq-eqb, le-leb}
use Rattle.base.specs.Answers.{gives}
use Rattle.record.specs.Records.{Record}
use Rattle.record.specs.Bytes.{Kind, assembly_kind, machine_kind, code_bytes, record_count, whole_records}
use Rattle.record.specs.Bytes.{records_from}
use Rattle.record.specs.Claims.{CodeFits, ReadsWritten, Written}
use Rattle.record.proofs.Bytes.{five_bytes}
use Rattle.record.proofs.Reading.{Lawful, assembly_lawful, machine_lawful, code_read}
use Rattle.record.proofs.Tested.{records_given}

module _ {Name : Type 0} (k : Kind Name) (P : List (Record Name)) where
  -- The count of written records is their number.
  pub count_written : record_count (code_bytes k P) ≡ length P
  count_written = omega (arith, five_bytes Name k P)

  -- Written code is whole records, and few enough if its records are.
  pub whole_written : length P ≤ 4096 → whole_records (code_bytes k P) ≡ true
  whole_written h =
      ap₂ ◌&&◌
      (eq-eqb (length (code_bytes k P) % 5) 0 (omega (arith, five_bytes Name k P)))
      (le-leb (record_count (code_bytes k P)) 4096 (omega (arith, count_written)))

module _ {Name : Type 0} (k : Kind Name) (l : Lawful k) where
  -- The records of the bytes of P are P, whatever stands after them,
  pub records_of_written : (P : List (Record Name)) (rest : List ℕ) → CodeFits k P
      → records_from k (code_bytes k P ++ rest) 0 (length P) ≡ gives P
  records_of_written P rest f =
      records_given k (code_bytes k P ++ rest) 0 P (λ j h. rw zero-add (code_read k l P rest j f h))

  -- and so where nothing does.
  reads_written : ReadsWritten k
  reads_written P f =
      ap₂ (λ (code : List ℕ) (n : ℕ). records_from k code 0 n) (sym (append-nil (code_bytes k P))) (count_written k P)
      ∙ records_of_written P [] f

-- What was written is read, in assembly and in machine code.
pub written : Written
written =
    record {
      in_assembly = reads_written assembly_kind assembly_lawful;
      in_machine = λ n. reads_written (machine_kind n) (machine_lawful n);
    }
