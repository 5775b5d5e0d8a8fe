-- How long each line can be, and that 200,000 bytes are enough for all of them where there are at most 4,096 records.
use mathlib.Core.List.{List, [], ◌∷◌, ◌++◌}
use Prim.Native.Nat.{ℕ, zero, suc, ◌+◌, ◌*◌, ◌<◌, ◌≤◌}
use native.Mathlib.Omega.{arith}
use lib.IntN.{ℤ}
use lib.ListN.{length, length-append}
use Rattle.base.specs.Ends.{End, done, spent, fault}
use Rattle.text.specs.declared.Sizes.{Sizes}
use Rattle.record.specs.Records.{Record, LOADI, LOAD, ADD, STORE, JMP, JMPLESS, JMPGE, AssemblyCode, MachineCode}
use Rattle.record.specs.Bytes.{Kind, operand, assembly_kind, machine_kind}
use Rattle.print_ascii.proofs.Decimals.{decimal_length, decimal_below_100, decimal_below_10000, signed_length}
use Rattle.print_ascii.proofs.Rows.{rows_length}
use Rattle.print.specs.Printing.{first_line, name_text, operand_text, record_text, record_lines}
use Rattle.print.specs.Printing.{end_text, run_line, value_line, value_lines, refusal_line}
use Rattle.print_lines.proofs.Values.{value_at, value_rows}

-- ---- The first line and the record lines

pub first_line_length : (z : Sizes) → length (first_line z) ≤ 53
unfolding first_line
first_line_length z =
    simp length-append
    (omega (arith, decimal_length z.records, decimal_length z.depth, decimal_length z.cells))

-- The longest is JMPLESS with a minus and 10 digits.
pub record_text_length : {Name : Type 0} (k : Kind Name) (r : Record Name) → length (record_text k r) ≤ 19
unfolding name_text operand_text
record_text_length k (LOADI z) = omega (arith, signed_length (operand k (LOADI z)))
record_text_length k (LOAD x) = omega (arith, signed_length (operand k (LOAD x)))
record_text_length k ADD = omega arith
record_text_length k (STORE x) = omega (arith, signed_length (operand k (STORE x)))
record_text_length k (JMP i) = omega (arith, signed_length (operand k (JMP i)))
record_text_length k (JMPLESS i) = omega (arith, signed_length (operand k (JMPLESS i)))
record_text_length k (JMPGE i) = omega (arith, signed_length (operand k (JMPGE i)))

-- At most 48 bytes for each of the first 10,000 records
pub record_lines_length : (i : ℕ) (P : AssemblyCode) (Q : MachineCode) → i + length P ≤ 10000
    → length (record_lines i P Q) ≤ 48 * length P
unfolding record_lines
record_lines_length i [] Q h = omega arith
record_lines_length i (a ∷ P) [] h = omega arith
record_lines_length i (a ∷ P) (m ∷ Q) h =
    simp length-append
    (omega (
      arith,
      decimal_below_10000 i (omega arith),
      simp length-append at (record_text_length assembly_kind a),
      simp length-append at (record_text_length (machine_kind 0) m),
      record_lines_length (suc i) P Q (omega arith),
    ))

-- ---- The run's line and the value lines

pub end_length : (e : End) → length (end_text e) ≤ 5
unfolding end_text
end_length done = omega arith
end_length spent = omega arith
end_length (fault e) = omega arith

pub run_line_length : (e : End) (count : ℕ) → length (run_line e count) ≤ 21
unfolding run_line
run_line_length e count = simp length-append (omega (arith, end_length e, decimal_length count))

pub value_line_length : (v a : ℕ) (z : ℤ) → v < 100 → length (value_line v a z) ≤ 15
unfolding value_line
value_line_length v zero z h = omega arith
value_line_length v (suc a) z h = simp length-append (omega (arith, decimal_below_100 v h, signed_length z))

-- At most 15 bytes for each of the first 100 variables
pub value_lines_length : (t : List ℕ) (s : List ℤ) (v count : ℕ) → v + count ≤ 100
    → length (value_lines t s v count) ≤ 15 * count
value_lines_length t s v count h =
    rw value_rows (rows_length (value_at t s) 15 100 (λ j k. value_line_length j _ _ k) v count h)

-- ---- The whole

pub refusal_line_length : (number place : ℕ) → length (refusal_line number place) ≤ 33
unfolding refusal_line
refusal_line_length number place = simp length-append (omega (arith, decimal_length number, decimal_length place))

-- 200,000 bytes are enough.
pub enough : (z : Sizes) (P : AssemblyCode) (Q : MachineCode) (e : End) (count : ℕ) (t : List ℕ) (s : List ℤ)
    → length P ≤ 4096
    → length (first_line z ++ (record_lines 0 P Q ++ (run_line e count ++ value_lines t s 0 64))) ≤ 200000
enough z P Q e count t s h =
    simp length-append
    (omega (
      arith,
      first_line_length z,
      record_lines_length 0 P Q (omega arith),
      run_line_length e count,
      value_lines_length t s 0 64 (omega arith),
    ))
