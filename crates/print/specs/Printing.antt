-- What the printing program prints for a text (document 01, "Profiles to hold it to").
use Rattle.std.specs.Prelude.{ℕ, zero, suc, List, [], ◌∷◌, ◌++◌, ℤ, pos, get_or}
use Rattle.base.specs.Answers.{Answer, gives, refused}
use Rattle.base.specs.Ends.{End, done, spent, fault, Ran}
use Rattle.text.specs.Syntax.{Command}
use Rattle.text.specs.Reading.{read_text}
use Rattle.text.specs.Sizes.{sizes}
use Rattle.text.specs.declared.Sizes.{Sizes}
use Rattle.source.specs.Rules.{Store}
use Rattle.source.specs.Calls.{run_source}
use Rattle.source.specs.Cases.{zeros}
use Rattle.record.specs.Records.{Record, LOADI, LOAD, ADD, STORE, JMP, JMPLESS, JMPGE, AssemblyCode, MachineCode}
use Rattle.record.specs.Bytes.{Kind, assembly_kind, machine_kind, operand}
use Rattle.compile.specs.Compilation.{ccomp}
use Rattle.compile.specs.Table.{to_m_prog, table}
use Rattle.print.specs.Ascii.{ascii, newline}
use Rattle.print.specs.Numbers.{decimal, signed}

-- ---- "Line 1: record count, D, n"

unfoldable pub first_line : Sizes → List ℕ
first_line z =
    ascii "records " ++ (decimal z.records ++ (ascii " stack " ++ (decimal z.depth
    ++ (ascii " cells " ++ (decimal z.cells ++ newline)))))

-- ---- "Then position, assembly, machine; machine names have M in front, and an unused operand isn't printed"

-- A record's name
unfoldable pub name_text : {Name : Type 0} → Record Name → List ℕ
name_text (LOADI z) = ascii "LOADI"
name_text (LOAD x) = ascii "LOAD"
name_text ADD = ascii "ADD"
name_text (STORE x) = ascii "STORE"
name_text (JMP i) = ascii "JMP"
name_text (JMPLESS i) = ascii "JMPLESS"
name_text (JMPGE i) = ascii "JMPGE"

-- Its operand after a blank; ADD's is unused
unfoldable pub operand_text : {Name : Type 0} → Kind Name → Record Name → List ℕ
operand_text k (LOADI z) = ascii " " ++ signed (operand k (LOADI z))
operand_text k (LOAD x) = ascii " " ++ signed (operand k (LOAD x))
operand_text k ADD = []
operand_text k (STORE x) = ascii " " ++ signed (operand k (STORE x))
operand_text k (JMP i) = ascii " " ++ signed (operand k (JMP i))
operand_text k (JMPLESS i) = ascii " " ++ signed (operand k (JMPLESS i))
operand_text k (JMPGE i) = ascii " " ++ signed (operand k (JMPGE i))

abbrev pub record_text : {Name : Type 0} → Kind Name → Record Name → List ℕ
record_text k r = name_text r ++ operand_text k r

-- The lines of records from position i on, assembly and machine beside each other. (Bytes don't depend on the kind's
-- n.)
unfoldable pub record_lines : ℕ → AssemblyCode → MachineCode → List ℕ
record_lines i [] Q = []
record_lines i (a ∷ P) [] = []
record_lines i (a ∷ P) (m ∷ Q) =
    decimal i ++ (ascii " " ++ (record_text assembly_kind a ++ (ascii " | M" ++ (record_text (machine_kind 0) m
    ++ (newline ++ record_lines (suc i) P Q)))))

-- ---- "Then end (done, spent ..) and count"

-- A text's run has no other end (source/specs/Rules: end-of; fitting/specs/NeverOut)
unfoldable pub end_text : End → List ℕ
end_text done = ascii "done"
end_text spent = ascii "spent"
end_text (fault e) = []

unfoldable pub run_line : End → ℕ → List ℕ
run_line e count = ascii "run " ++ (end_text e ++ (ascii " " ++ (decimal count ++ newline)))

-- ---- "Then each named variable and value, ascending"

-- the line of variable v with address a, if it is named
unfoldable pub value_line : ℕ → ℕ → ℤ → List ℕ
value_line v zero z = []
value_line v (suc a) z = decimal v ++ (ascii " " ++ (signed z ++ newline))

-- the lines of k variables from v on
unfoldable pub value_lines : List ℕ → Store → ℕ → ℕ → List ℕ
value_lines t s v zero = []
value_lines t s v (suc k) = value_line v (get_or t v 0) (get_or s v (pos 0)) ++ value_lines t s (suc v) k

-- ---- The whole

-- a run's lines, from zeros with budget 1000000
unfoldable pub run_lines : List ℕ → Answer Ran × Store → List ℕ
run_lines t (gives r, s) = run_line r.end r.count ++ value_lines t s 0 64
run_lines t (refused number place, s) = []

-- "A refusal prints refused, number, at, place"
unfoldable pub refusal_line : ℕ → ℕ → List ℕ
refusal_line number place = ascii "refused " ++ (decimal number ++ (ascii " at " ++ (decimal place ++ newline)))

unfoldable pub answer_lines : List ℕ → Answer Command → List ℕ
answer_lines text (gives c) =
    first_line (sizes c) ++ (record_lines 0 (ccomp c) (to_m_prog (ccomp c))
    ++ run_lines (table (ccomp c)) (run_source text zeros 1000000))
answer_lines text (refused number place) = refusal_line number place

-- What is printed for a text
abbrev pub shown : List ℕ → List ℕ
shown text = answer_lines text (read_text text)
