-- The record lines are the lines of all positions, in a row.
use mathlib.Core.Path.{◌≡◌, refl, ap, ◌∙◌}
use mathlib.Core.List.{List, [], ◌∷◌, ◌++◌, append_assoc}
use mathlib.Core.Option.{some}
use Prim.Native.Nat.{ℕ, suc, ◌+◌, ◌<◌}
use native.Mathlib.Nat.{add-zero, add-suc, suc-add}
use native.Mathlib.Omega.{arith}
use lib.ListN.{length, get_elem?}
use Rattle.record.specs.declared.Variable.{Variable}
use Rattle.record.specs.declared.Address.{Address}
use Rattle.record.specs.Records.{Record, LOADI, LOAD, ADD, STORE, JMP, JMPLESS, JMPGE, AssemblyCode, MachineCode}
use Rattle.record.specs.Bytes.{assembly_kind, machine_kind, record_at, operand}
use Rattle.record.proofs.Tested.{records_at, records_length}
use Rattle.print.specs.Ascii.{ascii, newline}
use Rattle.print.specs.Numbers.{decimal}
use Rattle.print_ascii.proofs.Rows.{rows}
use Rattle.print.specs.Printing.{operand_text, record_text, record_lines}
use Rattle.print_records.specs.Lines.{line_at, Codes}
use Rattle.print_records.proofs.Texts.{Numbered, text_is}

-- Each kind's names have their numbers.
assembly_numbered : Numbered assembly_kind
assembly_numbered = record { numbered = λ u. refl }

machine_numbered : (n : ℕ) → Numbered (machine_kind n)
machine_numbered n = record { numbered = λ u. refl }

-- "Bytes don't depend on the kind's n"
any_n : (n : ℕ) (r : Record Address) → record_text (machine_kind n) r ≡ record_text (machine_kind 0) r
unfolding operand_text operand
any_n n (LOADI z) = refl
any_n n (LOAD x) = refl
any_n n ADD = refl
any_n n (STORE x) = refl
any_n n (JMP i) = refl
any_n n (JMPLESS i) = refl
any_n n (JMPGE i) = refl

module _ (assembly machine : List ℕ) (n : ℕ) where
  -- The line of a position is that of the two records there.
  line_is : (i : ℕ) (a : Record Variable) (m : Record Address) (rest : List ℕ)
      → record_at assembly_kind assembly i ≡ some a → record_at (machine_kind n) machine i ≡ some m
      → decimal i
      ++ (ascii " " ++ (record_text assembly_kind a
      ++ (ascii " | M" ++ (record_text (machine_kind 0) m ++ (newline ++ rest)))))
      ≡ line_at assembly machine i ++ rest
  unfolding line_at
  line_is i a m rest e f =
      rw (
        text_is assembly_kind assembly_numbered assembly i a e,
        text_is (machine_kind n) (machine_numbered n) machine i m f ∙ any_n n m,
      )
      (simp append_assoc)

  records_rows : (i : ℕ) (P : AssemblyCode) (Q : MachineCode) → length P ≡ length Q
      → ((j : ℕ) → j < length P → record_at assembly_kind assembly (i + j) ≡ get_elem? P j)
      → ((j : ℕ) → j < length P → record_at (machine_kind n) machine (i + j) ≡ get_elem? Q j)
      → record_lines i P Q ≡ rows (line_at assembly machine) i (length P)
  unfolding record_lines rows
  records_rows i [] Q e f g = refl
  records_rows i (a ∷ P) [] e f g = absurd (omega arith)
  records_rows i (a ∷ P) (m ∷ Q) e f g =
      line_is
      i
      a
      m
      (record_lines (suc i) P Q)
      (rw add-zero at (f 0 (omega arith)))
      (rw add-zero at (g 0 (omega arith)))
      ∙ ap
      (λ (l : List ℕ). line_at assembly machine i ++ l)
      (records_rows
      (suc i)
      P
      Q
      (omega arith)
      (λ j h. rw (suc-add, ← add-suc) (f (suc j) (omega arith)))
      (λ j h. rw (suc-add, ← add-suc) (g (suc j) (omega arith))))

  -- The record lines are the lines of the two codes' positions.
  pub codes_rows : {count : ℕ} {P : AssemblyCode} {Q : MachineCode} → Codes assembly machine count n P Q
      → record_lines 0 P Q ≡ rows (line_at assembly machine) 0 count
  codes_rows {count} {P} {Q} c =
      let many : length P ≡ count = records_length assembly_kind assembly 0 count c.of_assembly in
      let as_many : length Q ≡ count = records_length (machine_kind n) machine 0 count c.of_machine in
      records_rows
      0
      P
      Q
      (omega arith)
      (λ j h. records_at assembly_kind assembly 0 count c.of_assembly j (omega arith))
      (λ j h. records_at (machine_kind n) machine 0 count c.of_machine j (omega arith))
      ∙ ap (rows (line_at assembly machine) 0) many
